-- `plan::complete` meets its contract. Assumes nothing.
use native.Mathlib.Omega.{arith}
use lib.Seq.{length-take-le}
use Rattle.netlist.specs.Table.{signal_count}
use Rattle.lent.proofs.Parts.{put_mid_all}
use Rattle.column.proofs.SoundLaws.{sound_file}
use Rattle.plan.proofs.Plans.{completed}
use Rattle.plan.proofs.complete.Goals as goal

pub returns : goal.returns
returns c =
    let a = c.args in
    let sound = a.sound.now in
    let few = (sound_file _ sound.checked).slices_fit in
    let sizes = c.requires.turns_len in
    completed sound.file.now c.requires.netlisted sizes.0 sizes.1 c.put_edges.ensures (omega arith)
    (put_mid_all c.copy_from_slice.ensures.after (omega (arith, few, length-take-le (signal_count sound.n) a.turns.now (omega (arith, few)))) (omega (arith, few, c.put_edges.ensures.long)))
