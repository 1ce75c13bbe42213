-- `lookuprows::row` meets its contract: its sum is that of the bits so far, the last of which it holds. Assumes nothing.
use mathlib.Core.Path.{◌≡◌}
use Prim.Native.Nat.{◌≤◌, ◌<◌}
use Rattle.lookuprows.specs.Rows.{last_bit, summed}
use Rattle.lookuprows.proofs.row.Given as goal

abbrev pub invariant-loop-pick : goal.invariant-loop-pick
invariant-loop-pick l = record {
  sum : l.sum ≡ summed l.contents l.picks l.link l.pick-index;
  room : l.sum ≤ l.pick-index;
  bit : l.bit ≡ last_bit l.contents l.picks l.link l.pick-index;
  small : l.bit < 2;
}
