-- `slicerecord::letter_bytes` meets its contract. Assumes nothing.
use native.Mathlib.Nat.{add-zero}
use Rattle.slicefile.specs.Lists.{tabulate}
use Rattle.slicerecord.proofs.letter_bytes.Goals as goal

pub returns : goal.returns
unfolding tabulate
returns c = simp add-zero
