-- Slices in a row as an adder: the carry chain of h slices from slice base on, as a value table has it.
use Rattle.std.specs.Prelude.{ℕ, ◌+◌, ◌-◌, ◌*◌, ◌/◌, ◌%◌, ◌^◌, ◌≤◌, ◌<◌, ◌≡◌, List, get_or}
use Rattle.netlist.specs.Rule.{bit_at, number, value_of}
use Rattle.netlist.specs.Table.{slice_signals}
use Rattle.slicefile.specs.Lists.{tabulate}
use Rattle.slicefile.specs.Format.{slice_count, input_count, carry_start}
use Rattle.sources.specs.Sources.{carry_signal, sum_signal}
use Rattle.series7.specs.Signals.{carry_in, carry_source}
use Rattle.column.specs.File.{slice_body}

-- "h slices in a row (1 to 64), each above the first with carry start 3"; as many as the file says that it has
pub record CarryChain (file : List ℕ) (base h : ℕ) : Type 0 where
  pub some : 1 ≤ h
  pub inside : base + h ≤ slice_count file
  pub linked : (i : ℕ) → 0 < i → i < h → carry_start (slice_body file (base + i)) ≡ 3

-- bit j of a chain is a letter of a slice: "lowest letter of the lowest slice first"
abbrev pub slice_at : ℕ → ℕ → ℕ
slice_at base j = base + j / 4

abbrev pub letter_at : ℕ → ℕ
letter_at j = j % 4

-- the byte of signal k of slice s
abbrev pub byte_of : List ℕ → ℕ → ℕ → ℕ
byte_of values s k = get_or values (slice_signals * s + k) 0

-- the carry data of letter l of slice s, and the carry coming into it
abbrev pub data_bit : List ℕ → List ℕ → List ℕ → ℕ → ℕ → ℕ
data_bit file inputs values s l = value_of inputs values (carry_source (slice_count file) (input_count file) s (slice_body file s) l)

abbrev pub carry_in_bit : List ℕ → List ℕ → List ℕ → ℕ → ℕ → ℕ
carry_in_bit file inputs values s l = value_of inputs values (carry_in (slice_count file) (input_count file) s (slice_body file s) l)

-- the number on the 4h bits of a chain, lowest first
abbrev pub number_on : ℕ → (ℕ → ℕ) → ℕ
number_on h bits = number (tabulate 0 (4 * h) bits)

-- "a the number on the 4h carry data bits"
abbrev pub data_number : List ℕ → List ℕ → List ℕ → ℕ → ℕ → ℕ
data_number file inputs values base h = number_on h (λ j. data_bit file inputs values (slice_at base j) (letter_at j))

-- "b be any number below 2 to the 4h such that each O6 is the exclusive-or of the bits of a and b"; O6 of letter l is signal l
pub record Addend (file inputs values : List ℕ) (base h b : ℕ) : Type 0 where
  pub below : b < 2 ^ (4 * h)
  pub mixed : (j : ℕ) → j < 4 * h
      → byte_of values (slice_at base j) (letter_at j) ≡ (bit_at (data_number file inputs values base h) j + bit_at b j) % 2

-- "the sums, read as a number"
abbrev pub sum_number : List ℕ → ℕ → ℕ → ℕ
sum_number values base h = number_on h (λ j. byte_of values (slice_at base j) (sum_signal (letter_at j)))

-- "the top carry": the D carry of the highest slice
abbrev pub top_carry : List ℕ → ℕ → ℕ → ℕ
top_carry values base h = byte_of values (base + h - 1) (carry_signal 3)

-- a + b + c, c being "the carry coming into the first"
abbrev pub total : List ℕ → List ℕ → List ℕ → ℕ → ℕ → ℕ → ℕ
total file inputs values base h b = data_number file inputs values base h + b + carry_in_bit file inputs values base 0

-- "the sums, read as a number, plus 2 to the 4h times the top carry, equal a + b + c"
abbrev pub Adds : List ℕ → List ℕ → List ℕ → ℕ → ℕ → ℕ → Type 0
Adds file inputs values base h b = sum_number values base h + 2 ^ (4 * h) * top_carry values base h ≡ total file inputs values base h b
