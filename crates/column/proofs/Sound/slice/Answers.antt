-- `column::Sound::slice` meets its contract: a body inside the file is whole. Assumes nothing.
use mathlib.Core.Path.{ap}
use native.Mathlib.Omega.{arith}
use lib.ListN.{length}
use Rattle.column.proofs.SoundLaws.{sound_file, body_length_lem}
use Rattle.column.proofs.Sound.slice.Goals as goal

pub invariant_of-result : goal.invariant_of-result
invariant_of-result c =
    let f = sound_file _ c.args.self.now.checked in
    record {
      holds = omega (arith, ap length c.slice_body.ensures, body_length_lem _ f c.args.s c.requires);
      few = omega (arith, f.slices_fit);
    }
