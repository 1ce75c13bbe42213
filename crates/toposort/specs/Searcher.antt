-- What is said of a search that holds its buffers, over a gate table.
use Rattle.std.specs.Prelude.{ℕ, ◌≡◌}
use Rattle.netlist.specs.declared.Gate.{Gate}
use Rattle.netlist.specs.Table.{signal_count, gate_of}
use Rattle.netlist.specs.declared.Gates.{Gates}
use Rattle.toposort.specs.declared.Searcher.{Searcher}
use Rattle.toposort.specs.Search.{Search, search_of}
use Rattle.toposort.specs.Components.{Components, Moved}

-- the gates of a table, and how many signals it has
abbrev pub gates_in : Gates → ℕ → Gate
gates_in t = gate_of t.table.now t.n

abbrev pub signals_in : Gates → ℕ
signals_in t = signal_count t.n

-- the buffers that a search holds
abbrev pub buffers_in : Searcher → Search
buffers_in s = search_of s.marks.now s.pos.now s.stack.now s.heads.now s.path.now s.order.now

-- it lists into the same order
abbrev pub SameOrder : Searcher → Searcher → Type 0
SameOrder old new = new.order.ghost_name ≡ old.order.ghost_name

-- it stands as `Components` says
abbrev pub Sound : Gates → Searcher → Type 0
Sound t s = Components (gates_in t) (signals_in t) (buffers_in s) s.scan

-- what a step leaves
abbrev pub Stepped : Gates → Searcher → Searcher → Type 0
Stepped t old new =
    Moved (gates_in t) (signals_in t) old.marks.now old.order.now old.scan (buffers_in new) new.scan × SameOrder old new
