-- The gate table: 7 numbers a signal, its head and six sources. A netlist of n slices has 4n tables, 8n flip-flops and 32n signals, so a
-- table of 224n numbers. A head of t below 4n is a look-up in table t, 4n + t the zero of table t, 8n a select, 8n + 1 an exclusive-or,
-- 8n + 2 a copy, 8n + 3 + q the stored bit q. The sources fill the places from the first; the rest is 0 when written and ignored when read.
use Rattle.std.specs.Prelude.{cond, List, [], ◌∷◌, ℕ, ◌+◌, ◌*◌, ◌-◌, ◌/◌, ◌%◌, ◌≤◌, ◌<◌, ◌≡◌, eqb, ltb, length, get_or, take}
use Rattle.netlist.specs.declared.Source.{Source}
use Rattle.netlist.specs.declared.Source.TheVariants.{Constant, Input, Signal}
use Rattle.netlist.specs.declared.Gate.{Gate}
use Rattle.netlist.specs.declared.Gate.TheVariants.{Lut, ZeroOf, Select, Xor, Same, Stored}
use Rattle.netlist.specs.Rule.{bit}

-- how many signals a netlist may have: the search "holds a mark for each of the 2,048 signals"
abbrev pub signal_limit : ℕ
signal_limit = 2048

-- a slice has 32 signals; a signal's row has 7 numbers, its head and six sources
abbrev pub slice_signals : ℕ
slice_signals = 32

abbrev pub row_length : ℕ
row_length = 7

-- the first of a slice's eight signals that are flip-flops
abbrev pub first_flop : ℕ
first_flop = 24

-- the signals of n slices, and the numbers of their gate table
abbrev pub signal_count : ℕ → ℕ
signal_count n = slice_signals * n

abbrev pub table_length : ℕ → ℕ
table_length n = row_length * slice_signals * n

-- a gate table of n slices, as many as a netlist may have
abbrev pub IsTable : ℕ → List ℕ → Type 0
IsTable n table = (signal_count n ≤ signal_limit) × (length table ≡ table_length n)

-- a source's number is the place of its bit among the wires: 0 and 1 are the constants, then the signals, then the outside inputs
abbrev pub signal_wire : ℕ
signal_wire = 2

abbrev pub input_wire : ℕ → ℕ
input_wire n = signal_wire + signal_count n

-- the wires of n slices and m outside inputs
abbrev pub wire_count : ℕ → ℕ → ℕ
wire_count n m = input_wire n + m

-- as many outside inputs as a netlist may have, and the wires of the largest one
abbrev pub input_room : ℕ
input_room = 64

abbrev pub wire_limit : ℕ
wire_limit = signal_wire + signal_limit + input_room

unfoldable pub code_of : ℕ → Source → ℕ
code_of n (Constant b) = bit b
code_of n (Input j) = input_wire n + j
code_of n (Signal x) = signal_wire + x

unfoldable pub source_of : ℕ → ℕ → Source
source_of n code =
    cond (ltb code signal_wire) (Constant (eqb code 1)) (cond (ltb code (input_wire n)) (Signal (code - signal_wire)) (Input (code - input_wire n)))

-- the heads of a select and of the first flip-flop; any other row's head is below that
abbrev pub select_head : ℕ → ℕ
select_head n = 8 * n

abbrev pub stored_head : ℕ → ℕ
stored_head n = select_head n + 3

-- a row: a head and the codes of six sources
abbrev pub row_of : ℕ → ℕ → Source → Source → Source → Source → Source → Source → List ℕ
row_of n head p1 p2 p3 p4 p5 p6 =
    head ∷ code_of n p1 ∷ code_of n p2 ∷ code_of n p3 ∷ code_of n p4 ∷ code_of n p5 ∷ code_of n p6 ∷ []

-- the row of a gate
unfoldable pub gate_numbers : ℕ → Gate → List ℕ
gate_numbers n (Lut t p1 p2 p3 p4 p5 p6) = row_of n t p1 p2 p3 p4 p5 p6
gate_numbers n (ZeroOf t) = (4 * n + t) ∷ 0 ∷ 0 ∷ 0 ∷ 0 ∷ 0 ∷ 0 ∷ []
gate_numbers n (Select s one none) = select_head n ∷ code_of n s ∷ code_of n one ∷ code_of n none ∷ 0 ∷ 0 ∷ 0 ∷ []
gate_numbers n (Xor a b) = (select_head n + 1) ∷ code_of n a ∷ code_of n b ∷ 0 ∷ 0 ∷ 0 ∷ 0 ∷ []
gate_numbers n (Same a) = (select_head n + 2) ∷ code_of n a ∷ 0 ∷ 0 ∷ 0 ∷ 0 ∷ 0 ∷ []
gate_numbers n (Stored q) = (stored_head n + q) ∷ 0 ∷ 0 ∷ 0 ∷ 0 ∷ 0 ∷ 0 ∷ []

-- the gate with this head, whose i-th source is p i
unfoldable pub gate_with : ℕ → ℕ → (ℕ → Source) → Gate
gate_with n head p =
    cond (ltb head (4 * n)) (Lut head (p 1) (p 2) (p 3) (p 4) (p 5) (p 6))
    (cond (ltb head (select_head n)) (ZeroOf (head - 4 * n))
    (cond (eqb head (select_head n)) (Select (p 1) (p 2) (p 3))
    (cond (eqb head (select_head n + 1)) (Xor (p 1) (p 2))
    (cond (eqb head (select_head n + 2)) (Same (p 1)) (Stored (head - stored_head n))))))

-- signal x's gate, as the table has it
unfoldable pub gate_of : List ℕ → ℕ → ℕ → Gate
gate_of table n x = gate_with n (get_or table (row_length * x) 0) (λ i. source_of n (get_or table (row_length * x + i) 0))

-- the netlist of n slices whose table stands at the front of a list of numbers
abbrev pub net_of : List ℕ → ℕ → ℕ → Gate
net_of numbers n = gate_of (take (table_length n) numbers) n

-- a source of a netlist of n slices and m outside inputs
abbrev pub SourceFits : ℕ → ℕ → Source → Type 0
SourceFits n m (Constant b) = Unit {0}
SourceFits n m (Input j) = j < m
SourceFits n m (Signal x) = x < signal_count n

-- a gate of such a netlist: the table or the flip-flop that it names is there, and so is each of its sources
unfoldable pub GateFits : ℕ → ℕ → Gate → Type 0
GateFits n m (Lut t p1 p2 p3 p4 p5 p6) =
    (t < 4 * n) × SourceFits n m p1 × SourceFits n m p2 × SourceFits n m p3 × SourceFits n m p4 × SourceFits n m p5 × SourceFits n m p6
GateFits n m (ZeroOf t) = t < 4 * n
GateFits n m (Select s one none) = SourceFits n m s × SourceFits n m one × SourceFits n m none
GateFits n m (Xor a b) = SourceFits n m a × SourceFits n m b
GateFits n m (Same a) = SourceFits n m a
GateFits n m (Stored q) = q < 8 * n

-- the signal of flip-flop q: bit q % 8 of slice q / 8's byte
abbrev pub flop_signal : ℕ → ℕ
flop_signal q = slice_signals * (q / 8) + (first_flop + q % 8)

-- in a gate table: the row of that signal has the flip-flop's head
abbrev pub FlopRows : ℕ → List ℕ → Type 0
FlopRows n table = (q : ℕ) → q < 8 * n → get_or table (row_length * flop_signal q) 0 ≡ stored_head n + q

-- in an order: these signals, which read nothing, come first and ascending
abbrev pub FlopsFirst : ℕ → List ℕ → Type 0
FlopsFirst n order = (q : ℕ) → q < 8 * n → get_or order q 0 ≡ flop_signal q

-- every number of a gate table is in its range: a flip-flop's signal has the flip-flop's head, any other signal a head below those, and each
-- source is a wire, also where the row doesn't use it
pub record InRange (n m : ℕ) (table : List ℕ) : Type 0 where
  pub stored : FlopRows n table
  pub heads : (x : ℕ) → x < signal_count n → x % slice_signals < first_flop → get_or table (row_length * x) 0 < stored_head n
  pub sources : (x i : ℕ) → x < signal_count n → i < 6 → get_or table (row_length * x + 1 + i) 0 < wire_count n m
