-- `sources::Slice::pin_numbers` meets its contract. The loop has filled in the numbers of the pins below p. Assumes nothing.
use mathlib.Core.Path.{◌≡◌}
use Prim.Native.Nat.{ℕ, ◌<◌}
use lib.ListN.{get_or}
use Rattle.netlist.specs.Table.{code_of}
use Rattle.sources.specs.Sources.{pin_source}
use Rattle.sources.proofs.Slice.pin_numbers.Given as goal

abbrev pub invariant-loop-p : goal.invariant-loop-p
invariant-loop-p l = (j : ℕ) → j < l.p → get_or l.number-items j 0 ≡ code_of l.self.n (pin_source l.self.n l.self.m l.self.body.now j)
