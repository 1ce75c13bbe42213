-- `clocknumbers::edge_of` meets its contract. The loop has filled in the numbers below k. Assumes nothing.
use mathlib.Core.Path.{◌≡◌}
use Prim.Native.Nat.{ℕ, ◌<◌}
use lib.ListN.{get_or}
use Rattle.clocknumbers.specs.Numbers.{edge_number}
use Rattle.clocknumbers.proofs.edge_of.Given as goal

abbrev pub invariant-loop-k : goal.invariant-loop-k
invariant-loop-k l = (j : ℕ) → j < l.k → get_or l.number-items j 0 ≡ edge_number l.slice.n l.slice.m l.slice.s l.slice.body.now j
