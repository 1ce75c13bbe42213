-- The six places at which the search looks for the signals that a signal reads.
use Rattle.std.specs.Prelude.{cond, Option, None, Some, List, [], ◌∷◌, ℕ, zero, suc, ◌+◌, ◌-◌, ◌*◌, ◌<◌, eqb, ltb, length, get_or}
use Rattle.netlist.specs.declared.Source.{Source}
use Rattle.netlist.specs.declared.Source.TheVariants.{Constant, Input, Signal}
use Rattle.netlist.specs.declared.Gate.{Gate}
use Rattle.netlist.specs.Rule.{sources_of}
use Rattle.netlist.specs.Table.{row_length, select_head}
use Rattle.toposort.specs.Tally.{last_mark}

-- "reading a pin is reading the signal that drives it, if any"
unfoldable pub as_read : Source → Option ℕ
as_read (Constant b) = None
as_read (Input j) = None
as_read (Signal y) = Some y

-- what is read at place i of some sources
unfoldable pub read_in : List Source → ℕ → Option ℕ
read_in [] i = None
read_in (s ∷ ss) zero = as_read s
read_in (s ∷ ss) (suc i) = read_in ss i

-- what signal x reads at place i of six, from its sixth source down to its first: the places that its gate doesn't have come first
abbrev pub read_at : (ℕ → Gate) → ℕ → ℕ → Option ℕ
read_at g x i = read_in (sources_of (g x)) (5 - i)

-- the gate of signal x has a source at place i
abbrev pub HasPlace : (ℕ → Gate) → ℕ → ℕ → Type 0
HasPlace g x i = 5 - i < length (sources_of (g x))

-- the head of signal x's row
abbrev pub head_of : List ℕ → ℕ → ℕ
head_of table x = get_or table (row_length * x) 0

-- how many sources a gate with this head reads, in a gate table of n slices
unfoldable pub place_count : ℕ → ℕ → ℕ
place_count n head =
    cond (ltb head (4 * n)) 6
    (cond (ltb head (select_head n)) 0
    (cond (eqb head (select_head n)) 3 (cond (eqb head (select_head n + 1)) 2 (cond (eqb head (select_head n + 2)) 1 0))))

-- the mark of a signal that is opened, past the places that its gate doesn't have
abbrev pub first_mark : ℕ → ℕ → ℕ
first_mark n head = last_mark - place_count n head
