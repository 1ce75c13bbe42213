-- `lookuprows::row` meets its contract, by the loop's invariant. Assumes nothing.
use mathlib.Core.Path.{refl}
use native.Mathlib.Numerals.{add-one}
use native.Mathlib.Omega.{arith}
use lib.Dec.{lit<}
use Rattle.lookuprows.specs.Rows.{last_bit, summed}
use Rattle.lookuprows.proofs.row.Goals as goal

pub loop-pick-init : goal.loop-pick-init
unfolding last_bit summed
loop-pick-init c = record { sum = refl; room = omega arith; bit = refl; small = lit< tt }

pub loop-pick-preserved : goal.loop-pick-preserved
unfolding last_bit summed
loop-pick-preserved c =
    let l = c.loop-pick in
    let i = l.pick-index in
    let bit = rw l.invariant.bit at c.picked_bit-bit.ensures.0 in
    record {
      sum = rw (add-one i, c.from-sum.ensures, l.invariant.sum, bit);
      room = omega (arith, c.picked_bit-bit.ensures.1);
      bit = rw (add-one i, bit);
      small = c.picked_bit-bit.ensures.1;
    }
