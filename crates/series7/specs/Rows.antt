-- The rows of a slice's gates in the gate table.
use Rattle.std.specs.Prelude.{ℕ, List}
use Rattle.netlist.specs.Table.{gate_numbers}
use Rattle.sources.specs.declared.Slice.{Slice}
use Rattle.series7.specs.Signals.{family_gate}
use Rattle.series7.specs.declared.Family.{Family}

-- the row of a letter's signal in a family
abbrev pub letter_row : Slice → Family → ℕ → List ℕ
letter_row slice f l = gate_numbers slice.n (family_gate slice.n slice.m slice.s slice.body.now f l)
