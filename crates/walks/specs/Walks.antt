-- What a walk along an order needs, and what the walks leave on the wires and in the value table.
use Rattle.std.specs.Prelude.{◌≡◌, List, ℕ, ◌*◌, ◌/◌, ◌%◌, ◌<◌, length, get_or}
use Rattle.netlist.specs.Rule.{env, bit_at}
use Rattle.netlist.specs.Graph.{Ordered}
use Rattle.netlist.specs.Settle.{reads_in, Settled, Edited}
use Rattle.netlist.specs.Table.{signal_count, IsTable, gate_of, flop_signal, FlopsFirst, InRange}
use Rattle.netlist.specs.Wires.{IsWires, values_on, inputs_on}
use Rattle.walks.specs.Marked.{touches_marked}

-- the gate table of n slices and m outside inputs, and a topological order of its signals, the flip-flops' first
pub record Walkable (n m : ℕ) (table order : List ℕ) : Type 0 where
  pub sized : IsTable n table
  pub range : InRange n m table
  pub ordered : Ordered (reads_in (gate_of table n)) (signal_count n) order
  pub flops : FlopsFirst n order

-- what is still wires, with the same inputs
pub record StillWires (n m : ℕ) (old new : List ℕ) : Type 0 where
  pub wires : IsWires n m new
  pub inputs : inputs_on n new ≡ inputs_on n old

-- the stored bits of the first s slices are on their wires
pub record FlopsOn (n m : ℕ) (flops : List ℕ) (s : ℕ) (old new : List ℕ) : Type 0 where
  pub still : StillWires n m old new
  pub bits : (q : ℕ) → q < 8 * s → get_or (values_on n new) (flop_signal q) 0 ≡ bit_at (get_or flops (q / 8) 0) (q % 8)

-- the value table on the wires is settled, for the inputs on them
pub record SettledOn (n m : ℕ) (table contents flops old new : List ℕ) : Type 0 where
  pub still : StillWires n m old new
  pub settled : Settled (gate_of table n) (signal_count n) (env contents flops (inputs_on n old)) (values_on n new)

-- the value table is settled, and stands on the wires with the inputs
pub record SettledBy (n : ℕ) (table contents flops inputs values wires : List ℕ) : Type 0 where
  pub settled : Settled (gate_of table n) (signal_count n) (env contents flops inputs) values
  pub are_wires : IsWires n (length inputs) wires
  pub on_inputs : inputs_on n wires ≡ inputs
  pub on_values : values_on n wires ≡ values

-- what depends on a change of the marked inputs and tables is recomputed, for the inputs and contents after the change and whatever the
-- flip-flops hold, and all else keeps its byte
abbrev pub EditedBy : ℕ → List ℕ → List ℕ → List ℕ → List ℕ → List ℕ → List ℕ → List ℕ → Type 0
EditedBy n table contents inputs changed edited old new =
    (flops : List ℕ) → Edited (gate_of table n) (signal_count n) (env contents flops inputs) (λ x. touches_marked changed edited (gate_of table n x)) old new

-- the same of the value table on the wires
pub record EditedOn (n m : ℕ) (table contents changed edited old new : List ℕ) : Type 0 where
  pub still : StillWires n m old new
  pub done : EditedBy n table contents (inputs_on n old) changed edited (values_on n old) (values_on n new)
