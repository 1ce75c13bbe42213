-- `slicerecord::pin_codes` meets its contract: the codes before p are stored. Assumes nothing.
use mathlib.Core.Path.{◌≡◌}
use lib.ListN.{length}
use Rattle.slicefile.specs.Format.{pin_count, pin_code}
use Rattle.slicefile.proofs.Filling.{Filled}
use Rattle.slicerecord.proofs.pin_codes.Given as goal

abbrev pub invariant-loop-p : goal.invariant-loop-p
invariant-loop-p l = record { size : length l.codes ≡ pin_count; filled : Filled (pin_code l.body) l.p l.codes }
