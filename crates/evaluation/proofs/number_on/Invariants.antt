-- `evaluation::number_on` meets its contract. The loop goes from the highest source down: its number is that on the sources from place j.
-- Assumes nothing.
use mathlib.Core.Path.{◌≡◌}
use Prim.Native.Nat.{◌+◌, ◌-◌, ◌^◌, ◌<◌}
use Rattle.evaluation.specs.Numbers.{number_on}
use Rattle.evaluation.proofs.number_on.Given as goal

abbrev pub invariant-loop-j : goal.invariant-loop-j
invariant-loop-j l = (l.number ≡ number_on l.wires l.numbers (l.i + l.j) (l.k - l.j)) × (l.number < 2 ^ (l.k - l.j))
