-- A table's kind, and the number that stands for it among those of an edge.
use Rattle.std.specs.Prelude.{ℕ, cond, eqb}
use Rattle.clocknumbers.specs.declared.TableKind.{TableKind}
use Rattle.clocknumbers.specs.declared.TableKind.TheVariants as kind

-- 0 logic, 1 memory, 2 shift from the bypass pin, 3 shift from the next letter
abbrev pub kind_number : TableKind → ℕ
kind_number kind.Logic = 0
kind_number kind.Memory = 1
kind_number kind.Shift = 2
kind_number kind.ShiftFromNext = 3

-- and back; a number above 3, which no edge has, is taken for 3
abbrev pub kind_numbered : ℕ → TableKind
kind_numbered k = cond (eqb k 0) kind.Logic (cond (eqb k 1) kind.Memory (cond (eqb k 2) kind.Shift kind.ShiftFromNext))
