-- What the calls on an accepted file run on, as one list of 16-bit numbers, 283 a slice: first the gate table, then the numbers of the slices'
-- edges, then a topological order of the signals, the flip-flops first.
use Rattle.std.specs.Prelude.{ℕ, ◌+◌, ◌*◌, ◌/◌, ◌%◌, ◌≤◌, ◌<◌, ◌≡◌, Ok, Err, List, length, take, drop}
use Rattle.netlist.specs.Agree.{Agree}
use Rattle.netlist.specs.Graph.{Ordered}
use Rattle.netlist.specs.Table.{signal_count, table_length, input_room, net_of, FlopsFirst, InRange}
use Rattle.netlist.specs.Wires.{IsWires, wires_of}
use Rattle.slicefile.specs.Format.{slice_limit}
use Rattle.slicefile.specs.Refusals.{sized, Verdict}
use Rattle.clocknumbers.specs.Numbers.{edge_length, edge_number, edge_numbers}
use Rattle.clockedge.specs.Moves.{EdgesFit, edge_at, words_by, bytes_by}
use Rattle.walks.specs.Walks.{Walkable}
use Rattle.column.specs.Clock.{State, state_of}
use Rattle.column.specs.File.{slice_body, gate_at}
use Rattle.column.specs.Judge.{reads_at, Judged}

-- where the edges' numbers and the order begin in a plan of n slices, and its length; the longest file's
abbrev pub edges_place : ℕ → ℕ
edges_place n = table_length n

abbrev pub order_place : ℕ → ℕ
order_place n = edges_place n + edge_length * n

abbrev pub plan_length : ℕ → ℕ
plan_length n = order_place n + signal_count n

abbrev pub plan_limit : ℕ
plan_limit = plan_length slice_limit

-- its three parts
abbrev pub plan_table : List ℕ → ℕ → List ℕ
plan_table plan n = take (table_length n) plan

abbrev pub plan_edges : List ℕ → ℕ → List ℕ
plan_edges plan n = take (edge_length * n) (drop (edges_place n) plan)

abbrev pub plan_order : List ℕ → ℕ → List ℕ
plan_order plan n = take (signal_count n) (drop (order_place n) plan)

-- the edges' numbers of a file, one slice after the other, by their index
abbrev pub edges_of : List ℕ → ℕ → ℕ → ℕ → ℕ
edges_of file n m i = edge_number n m (i / edge_length) (slice_body file (i / edge_length)) (i % edge_length)

-- a plan stands for a file of n slices and m outside inputs: the one fact between the file and its numbers
pub record Represents (file : List ℕ) (n m : ℕ) (plan : List ℕ) : Type 0 where
  pub gates : Agree (net_of plan n) (gate_at file) (signal_count n)
  pub range : InRange n m (plan_table plan n)
  pub edges : (s : ℕ) → s < n → edge_at (plan_edges plan n) s ≡ edge_numbers n m s (slice_body file s)
  pub ordered : Ordered (reads_at file) (signal_count n) (plan_order plan n)
  pub flops : FlopsFirst n (plan_order plan n)

-- an accepted file with its plan at the front of a buffer
pub record Ready (file : List ℕ) (n m : ℕ) (plan : List ℕ) : Type 0 where
  pub verdict : Judged file (Ok (sized n m))
  pub room : plan_length n ≤ length plan
  pub represents : Represents file n m plan

-- a file judged and loaded
abbrev pub Loaded : List ℕ → List ℕ → Verdict → Type 0
Loaded file plan (Err r) = Judged file (Err r)
Loaded file plan (Ok size) = Ready file size.n size.m plan

-- what a plan must have to be run on, whatever file it stands for: a table and an order to walk along, and edges whose sources are wires
pub record Runnable (n m : ℕ) (plan : List ℕ) : Type 0 where
  pub few : n ≤ slice_limit
  pub narrow : m ≤ input_room
  pub room : plan_length n ≤ length plan
  pub walk : Walkable n m (plan_table plan n) (plan_order plan n)
  pub edges : (wires : List ℕ) → IsWires n m wires → EdgesFit n wires (plan_edges plan n)

-- the state after the clock edge, from the value table settled before it
abbrev pub clocked_by : List ℕ → ℕ → State → List ℕ → List ℕ → State
clocked_by plan n st inputs values =
    let wires = wires_of inputs values in
    state_of (words_by wires (plan_edges plan n) n st.contents) (bytes_by wires (plan_edges plan n) n st.flops)
