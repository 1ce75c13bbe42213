-- `column::check_from` meets its contract. The loop's invariant: the check stands at slice s. Assumes nothing.
use Prim.Native.Nat.{◌≤◌, ◌<◌, max}
use Rattle.column.proofs.CheckLaws.{Stands}
use Rattle.column.proofs.check_from.Given as goal

abbrev pub invariant-loop-s : goal.invariant-loop-s
invariant-loop-s l = (l.n < 256) × (l.s ≤ max l.passed l.n) × Stands l.file l.passed l.s l.at
