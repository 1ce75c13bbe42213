-- One clock edge over the numbers of slices. The numbers of sources are wires, on which the table settled before the edge stands.
use Rattle.std.specs.Prelude.{◌≡◌, cond, List, ℕ, ◌+◌, ◌*◌, ◌/◌, ◌%◌, ◌<◌, eqb, length, get_or, take, drop}
use Rattle.netlist.specs.Rule.{bit_at, number}
use Rattle.slicefile.specs.Lists.{tabulate}
use Rattle.evaluation.specs.Numbers.{Bits, number_on}
use Rattle.clocknumbers.specs.Numbers.{edge_length, enable_place, reset_place, write_place, address_place, flop_place, values_place, kind_place, data_place}
use Rattle.series7.specs.Edge.{with_bit, shifted}

-- the numbers of a slice's edge, whose sources are wires
pub record EdgeFits (wires e : List ℕ) : Type 0 where
  pub size : length e ≡ edge_length
  pub pins : (k : ℕ) → k < values_place → get_or e k 0 < length wires
  pub writes : (l : ℕ) → l < 4 → get_or e (data_place + l) 0 < length wires
  pub bits : Bits wires

-- the numbers of slice s among those of all slices
abbrev pub edge_at : List ℕ → ℕ → List ℕ
edge_at edges s = take edge_length (drop (edge_length * s) edges)

pub record EdgesFit (n : ℕ) (wires edges : List ℕ) : Type 0 where
  pub size : length edges ≡ edge_length * n
  pub each : (s : ℕ) → s < n → EdgeFits wires (edge_at edges s)

-- the bit on the source at a place of the numbers
abbrev pub on_edge : List ℕ → List ℕ → ℕ → ℕ
on_edge wires e place = get_or wires (get_or e place 0) 0

-- the set/reset values, and letter l's table kind
abbrev pub edge_values : List ℕ → ℕ
edge_values e = get_or e values_place 0

abbrev pub edge_kind : List ℕ → ℕ → ℕ
edge_kind e l = get_or e (kind_place + l) 0

-- the write address: "the same for all four"
abbrev pub address_by : List ℕ → List ℕ → ℕ
address_by wires e = number_on wires e address_place 6

-- "SR used and 1 gives the set/reset value (over CE, as in 001); else CE 1 takes the input; else keep"
unfoldable pub bit_by : List ℕ → List ℕ → ℕ → ℕ → ℕ
bit_by wires e old b =
    cond (eqb (on_edge wires e reset_place) 1) (bit_at (edge_values e) b)
    (cond (eqb (on_edge wires e enable_place) 1) (on_edge wires e (flop_place + b)) (bit_at old b))

-- the flip-flop byte after the edge, by its 8 bits
unfoldable pub flops_by : List ℕ → List ℕ → ℕ → ℕ
flops_by wires e old = number (tabulate 0 8 (bit_by wires e old))

-- a word after an edge with WE 1, by its table's kind
unfoldable pub written_by : ℕ → ℕ → ℕ → ℕ → ℕ → ℕ
written_by k old address d cascade =
    cond (eqb k 0) old (cond (eqb k 1) (with_bit old address d) (cond (eqb k 2) (shifted old d) (shifted old cascade)))

-- letter l's word after the edge; next is the next letter's word before it: "cascade data is bit 31, before the edge, of the next letter"
unfoldable pub word_by : List ℕ → List ℕ → ℕ → ℕ → ℕ → ℕ
word_by wires e l old next =
    cond (eqb (on_edge wires e write_place) 1) (written_by (edge_kind e l) old (address_by wires e) (on_edge wires e (data_place + l)) (bit_at next 31)) old

-- the words and the flip-flop bytes of n slices after the edge: "all slices move together"
unfoldable pub words_by : List ℕ → List ℕ → ℕ → List ℕ → List ℕ
words_by wires edges n words =
    tabulate 0 (4 * n) (λ t. word_by wires (edge_at edges (t / 4)) (t % 4) (get_or words t 0) (get_or words (t + 1) 0))

unfoldable pub bytes_by : List ℕ → List ℕ → ℕ → List ℕ → List ℕ
bytes_by wires edges n bytes = tabulate 0 n (λ s. flops_by wires (edge_at edges s) (get_or bytes s 0))
