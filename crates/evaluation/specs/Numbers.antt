-- Rows of numbers, each the place of a source's bit among the wires; and what a gate gives by them.
use Rattle.std.specs.Prelude.{◌≡◌, List, ℕ, zero, suc, ◌+◌, ◌*◌, ◌<◌, length, get_or}
use Rattle.netlist.specs.Rule.{apply_gate}
use Rattle.netlist.specs.Table.{gate_of}
use Rattle.netlist.specs.Wires.{on_wire}

-- every wire holds a bit
abbrev pub Bits : List ℕ → Type 0
Bits wires = (c : ℕ) → get_or wires c 0 < 2

-- the k numbers from place i are wires
abbrev pub AreWires : List ℕ → List ℕ → ℕ → ℕ → Type 0
AreWires wires numbers i k = (j : ℕ) → j < k → get_or numbers (i + j) 0 < length wires

-- the number on the wires at the k numbers from place i, lowest first
unfoldable pub number_on : List ℕ → List ℕ → ℕ → ℕ → ℕ
number_on wires numbers i zero = 0
number_on wires numbers i (suc k) = get_or wires (get_or numbers i 0) 0 + 2 * number_on wires numbers (suc i) k

-- what signal x's gate gives by the wires, in a gate table of n slices, whatever the flip-flops hold
abbrev pub GateGives : List ℕ → List ℕ → ℕ → ℕ → List ℕ → ℕ → Type 0
GateGives contents wires n x table r = (flops : List ℕ) → r ≡ apply_gate contents flops (on_wire n wires) (gate_of table n x)
