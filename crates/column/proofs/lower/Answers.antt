use mathlib.Core.Path.{◌∙◌, sym}
use native.Mathlib.Omega.{arith}
use Rattle.column.proofs.lower.Goals as goal

pub loop-s-init : goal.loop-s-init
loop-s-init c = (c.requires, λ x i l h. absurd (omega arith))

pub lower_slice-requires : goal.lower_slice-requires
lower_slice-requires c =
    let l = c.loop-s.invariant in
    record { table_len = (omega arith, l.0); lowered_to = l.1 }

pub loop-s-preserved : goal.loop-s-preserved
loop-s-preserved c = (c.lower_slice.auto.table ∙ c.loop-s.invariant.0, λ x i l h. c.lower_slice.ensures x i (omega arith) h)

pub shape_of-table : goal.shape_of-table
shape_of-table c = c.loop-s.invariant.0 ∙ sym c.requires

pub returns : goal.returns
returns c x i l h = c.loop-s.invariant.1 x i (omega arith) h
