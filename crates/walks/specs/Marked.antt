-- A change given by marks: a byte for each outside input and one for each table, not 0 where it changes. Past the end nothing is marked.
use Rattle.std.specs.Prelude.{Bool, false, ◌||◌, List, [], ℕ, zero, suc, ◌+◌, ◌<◌, get_or}
use Rattle.netlist.specs.declared.Source.{Source}
use Rattle.netlist.specs.declared.Source.TheVariants.{Constant, Input, Signal}
use Rattle.netlist.specs.declared.Gate.{Gate}
use Rattle.netlist.specs.declared.Gate.TheVariants.{Lut, ZeroOf, Select, Xor, Same, Stored}
use Rattle.netlist.specs.Rule.{sources_of, reads_of, any_source}
use Rattle.netlist.specs.Settle.{is_marked, any_marked}
use Rattle.netlist.specs.Table.{wire_count, input_room, source_of}

-- the source is a marked outside input or a marked signal
abbrev pub source_reached : List ℕ → List ℕ → Source → Bool
source_reached inputs signals (Constant b) = false
source_reached inputs signals (Input j) = is_marked inputs j
source_reached inputs signals (Signal y) = is_marked signals y

-- the k numbers from place i are wires of some netlist of n slices
abbrev pub NumbersFit : ℕ → List ℕ → ℕ → ℕ → Type 0
NumbersFit n numbers i k = (j : ℕ) → j < k → get_or numbers (i + j) 0 < wire_count n input_room

-- one of the k sources from place i of a row of numbers is reached, by a test of a source
unfoldable pub any_reached : ℕ → (Source → Bool) → List ℕ → ℕ → ℕ → Bool
any_reached n f numbers i zero = false
any_reached n f numbers i (suc k) = f (source_of n (get_or numbers i 0)) || any_reached n f numbers (suc i) k

-- the gate belongs to the contents of a marked table: "O6 and O5 of that table, signal 19 if it is A", also where it is 0
abbrev pub table_marked : List ℕ → Gate → Bool
table_marked tables (Lut t p1 p2 p3 p4 p5 p6) = is_marked tables t
table_marked tables (ZeroOf t) = is_marked tables t
table_marked tables (Select s one none) = false
table_marked tables (Xor a b) = false
table_marked tables (Same a) = false
table_marked tables (Stored k) = false

-- the gate touches the change: it "has a pin it reads driven by that input", or belongs to those contents
unfoldable pub touches_marked : List ℕ → List ℕ → Gate → Bool
touches_marked inputs tables gate = any_source (source_reached inputs []) (sources_of gate) || table_marked tables gate

-- the change reaches the gate: it touches the change, or reads a marked signal
abbrev pub gate_reached : List ℕ → List ℕ → List ℕ → Gate → Bool
gate_reached inputs tables signals gate = touches_marked inputs tables gate || any_marked signals (reads_of gate)
