use mathlib.Core.Path.{◌≡◌, ◌∙◌, ap}
use native.Mathlib.Omega.{arith}
use lib.ListN.{length}
use Rattle.lent.proofs.Parts.{put_mid_all}
use Rattle.clocknumbers.specs.Numbers.{edge_length}
use Rattle.clocknumbers.proofs.Table.{numbers_length}
use Rattle.column.proofs.SoundLaws.{sound_file}
use Rattle.plan.proofs.Numbers.{edges_next}
use Rattle.plan.proofs.put_edges.Goals as goal

pub loop-s-preserved : goal.loop-s-preserved
loop-s-preserved c =
    let sound = c.args.sound.now in
    let few = (sound_file _ sound.checked).slices_fit in
    let here = c.loop-s.invariant in
    let sizes = c.slice-slice.ensures.sizes in
    let e = rw (sizes.0, sizes.1, sizes.2, c.slice-slice.ensures.body) at c.edge_of.ensures in
    let size : length c.edge_of.result ≡ edge_length = ap length c.edge_of.ensures ∙ numbers_length _ _ _ _ in
    edges_next sound.file.now sound.n sound.m c.loop-s.s _ e here (put_mid_all c.copy_from_slice.ensures.after (omega arith) (omega (arith, few, here.long, c.requires)))
