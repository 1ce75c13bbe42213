-- A file compiled: its netlist in the gate table, and the answer of the search for loops.
use Rattle.std.specs.Prelude.{ℕ, ◌+◌, ◌*◌, ◌<◌, ◌≡◌, Result, Ok, Err, List, get_or, take}
use Rattle.netlist.specs.Agree.{Agree}
use Rattle.netlist.specs.Graph.{Ordered}
use Rattle.toposort.specs.Answer.{OrderOrLoop}
use Rattle.netlist.specs.Table.{row_length, signal_count, table_length, IsTable, gate_numbers, net_of, FlopsFirst, InRange}
use Rattle.slicefile.specs.Refusals.{sized, Verdict}
use Rattle.slicefile.specs.Format.{slice_limit}
use Rattle.column.specs.File.{gate_at}
use Rattle.column.specs.Judge.{reads_at, Judged}

-- the numbers of the gate table of the longest file
abbrev pub table_limit : ℕ
table_limit = table_length slice_limit

-- in the gate table of n slices each signal below a number has the row of the file's gate
abbrev pub LoweredTo : List ℕ → ℕ → List ℕ → ℕ → Type 0
LoweredTo file n table N =
    (x i : ℕ) → x < N → i < row_length → get_or table (row_length * x + i) 0 ≡ get_or (gate_numbers n (gate_at file x)) i 0

-- and so has every signal
abbrev pub Lowered : List ℕ → ℕ → List ℕ → Type 0
Lowered file n table = LoweredTo file n table (signal_count n)

-- besides, a topological order of the file's signals, or the smallest signal on a loop
pub record Compiled (file : List ℕ) (n : ℕ) (table order : List ℕ) (r : Result (Unit {0}) ℕ) : Type 0 where
  pub lowered : Lowered file n table
  pub sorted : OrderOrLoop (gate_at file) n order r

-- what the calls on an accepted file run on: a gate table with the file's gates, its numbers in their range, and a topological order of its
-- signals with the flip-flops first, at the front of two buffers
pub record Ready (file : List ℕ) (n m : ℕ) (net order : List ℕ) : Type 0 where
  pub verdict : Judged file (Ok (sized n m))
  pub table : IsTable n (take (table_length n) net)
  pub lowered : Agree (net_of net n) (gate_at file) (signal_count n)
  pub ranges : InRange n m (take (table_length n) net)
  pub ordered : Ordered (reads_at file) (signal_count n) (take (signal_count n) order)
  pub flops : FlopsFirst n (take (signal_count n) order)

-- a file judged and loaded
abbrev pub Loaded : List ℕ → List ℕ → List ℕ → Verdict → Type 0
Loaded file net order (Err r) = Judged file (Err r)
Loaded file net order (Ok size) = Ready file size.n size.m net order
