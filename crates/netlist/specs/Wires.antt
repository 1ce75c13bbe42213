-- The wires of a netlist: one bit for each number that a source may have, the two constants, the signals, the outside inputs. Where they hold
-- a value table and the inputs, a source's bit is the wire at its number.
use Rattle.std.specs.Prelude.{◌≡◌, List, ◌∷◌, ◌++◌, ℕ, ◌<◌, length, get_or, take, drop}
use Rattle.netlist.specs.declared.Source.{Source}
use Rattle.netlist.specs.Table.{signal_wire, signal_count, input_wire, wire_count, code_of}

-- the wires of n slices and m outside inputs: bits, of which the first two are 0 and 1
pub record IsWires (n m : ℕ) (wires : List ℕ) : Type 0 where
  pub size : length wires ≡ wire_count n m
  pub low : get_or wires 0 0 ≡ 0
  pub high : get_or wires 1 0 ≡ 1
  pub bits : (c : ℕ) → get_or wires c 0 < 2

-- the wires of a value table and outside inputs
abbrev pub wires_of : List ℕ → List ℕ → List ℕ
wires_of inputs values = 0 ∷ 1 ∷ (values ++ inputs)

-- the value table and the outside inputs on the wires
abbrev pub values_on : ℕ → List ℕ → List ℕ
values_on n wires = take (signal_count n) (drop signal_wire wires)

abbrev pub inputs_on : ℕ → List ℕ → List ℕ
inputs_on n wires = drop (input_wire n) wires

-- the bit on a source's wire
abbrev pub on_wire : ℕ → List ℕ → Source → ℕ
on_wire n wires s = get_or wires (code_of n s) 0
