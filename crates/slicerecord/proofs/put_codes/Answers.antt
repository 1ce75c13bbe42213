-- `slicerecord::put_codes` meets its contract, by the loop's invariant. Assumes nothing.
use mathlib.Core.Path.{refl, ◌∙◌}
use native.Mathlib.Omega.{arith}
use Rattle.slicerecord.specs.Record.{all_bytes}
use Rattle.slicerecord.proofs.Digits.{code_bytes}
use Rattle.slicerecord.proofs.Stores.{numbers_next}
use Rattle.slicerecord.proofs.put_codes.Goals as goal

pub loop-i-init : goal.loop-i-init
unfolding all_bytes
loop-i-init c = refl

pub loop-i-preserved : goal.loop-i-preserved
loop-i-preserved c =
    numbers_next _ c.args.at 2 c.loop-i.i c.args.codes.now (omega arith) (c.to_le_bytes.ensures ∙ code_bytes _) c.loop-i.invariant c.put_bytes.ensures
