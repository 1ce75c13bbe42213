use mathlib.Core.Path.{◌≡◌, ◌∙◌}
use mathlib.Core.Bool.{or-false}
use Prim.Native.Nat.{ℕ, ◌-◌, ◌+◌, ◌<◌}
use native.Mathlib.Omega.{arith}
use lib.Seq.{get_or-take, get_or-drop}
use Rattle.walks.specs.Marked.{source_reached, any_reached}
use Rattle.walks.proofs.Rows.{any_more}
use Rattle.walks.proofs.any_reached.Goals as goal

pub loop-number-preserved : goal.loop-number-preserved
loop-number-preserved c =
    let a = c.args in
    let l = c.loop-number in
    let within : l.number-index < a.i + a.k - a.i = omega arith in
    any_more a.gates.now.n (source_reached a.changed.now a.marks.now) a.gates.now.table.now a.i l.number-index a.k l.found (omega arith)
    (rw (get_or-take {A = ℕ} _ _ _ 0 within, get_or-drop) at c.number_reached-found.ensures)
    ∙ l.invariant

pub returns : goal.returns
unfolding any_reached
returns c =
    let none : c.args.k - c.loop-number.number-index ≡ 0 = omega arith in
    rw (none, or-false) at c.loop-number.invariant
