use mathlib.Core.Path.{◌≡◌, ◌∙◌, sym}
use Prim.Native.Nat.{◌+◌, ◌*◌}
use native.Mathlib.Omega.{arith}
use Rattle.netlist.specs.Table.{slice_signals}
use Rattle.column.proofs.Netlist.{gate_of_slice, lower_next}
use Rattle.column.proofs.SoundLaws.{sound_file}
use Rattle.column.proofs.lower_slice.Goals as goal

pub loop-k-init : goal.loop-k-init
loop-k-init c =
    let e : slice_signals * c.args.s + 0 ≡ slice_signals * c.args.s = omega arith in
    (c.requires.table_len.1, rw e c.requires.lowered_to)

pub overflow_mul-s : goal.overflow_mul-s
overflow_mul-s c = omega (arith, (sound_file _ c.args.sound.now.checked).slices_fit)

pub overflow_add-s : goal.overflow_add-s
overflow_add-s c = omega (arith, (sound_file _ c.args.sound.now.checked).slices_fit)

pub loop-k-preserved : goal.loop-k-preserved
loop-k-preserved c =
    let l = c.loop-k in
    let s = c.args.s in
    let file = c.args.sound.now.file.now in
    let f = sound_file file c.args.sound.now.checked in
    let x = slice_signals * s + l.k in
    let sizes = c.slice-slice.ensures.sizes in
    let e = rw (c.row_at-row.ensures, sizes.0, sizes.1, sizes.2, c.slice-slice.ensures.body, ← gate_of_slice file f s l.k (omega arith)) at c.put_row.ensures in
    (c.put_row.auto.table ∙ l.invariant.0, λ y i h j. rw e (lower_next file f l.table x (omega arith) l.invariant.0 l.invariant.1 y i (omega arith) j))

pub shape_of-table : goal.shape_of-table
shape_of-table c = c.loop-k.invariant.0 ∙ sym c.requires.table_len.1

pub returns : goal.returns
returns c x i h j = c.loop-k.invariant.1 x i (omega arith) j
