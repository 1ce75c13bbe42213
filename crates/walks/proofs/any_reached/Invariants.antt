-- `walks::any_reached` meets its contract. The loop's invariant: `found`, or one of the numbers that are left, says what all of them say. Assumes nothing.
use mathlib.Core.Path.{◌≡◌}
use mathlib.Core.Bool.{◌||◌}
use Prim.Native.Nat.{◌+◌, ◌-◌}
use Rattle.walks.specs.Marked.{source_reached, any_reached}
use Rattle.walks.proofs.any_reached.Given as goal

abbrev pub invariant-loop-number : goal.invariant-loop-number
invariant-loop-number l =
    (l.found || any_reached l.gates.n (source_reached l.changed l.marks) l.gates.table.now (l.i + l.number-index) (l.k - l.number-index))
    ≡ any_reached l.gates.n (source_reached l.changed l.marks) l.gates.table.now l.i l.k
