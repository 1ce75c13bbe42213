-- What the answer of a search for loops says.
use Rattle.std.specs.Prelude.{ℕ, ◌<◌, List, Result, Ok, Err}
use Rattle.netlist.specs.declared.Gate.{Gate}
use Rattle.netlist.specs.Graph.{Loop, Ordered}
use Rattle.netlist.specs.Settle.{reads_in}
use Rattle.netlist.specs.Table.{signal_count, FlopsFirst}

-- of n slices: a topological order, which shows that there is no loop, with the flip-flops first, or "the smallest signal on a loop" as the error
abbrev pub OrderOrLoop : (ℕ → Gate) → ℕ → List ℕ → Result (Unit {0}) ℕ → Type 0
OrderOrLoop g n order (Ok _) = Ordered (reads_in g) (signal_count n) order × FlopsFirst n order
OrderOrLoop g n order (Err x) = (x < signal_count n) × Loop (reads_in g) x × ((y : ℕ) → y < x → Loop (reads_in g) y → ⊥)
