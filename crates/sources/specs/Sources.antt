-- Where a slice takes its bits from. n and m are the file's slice count and outside inputs, s is a slice's number, body the body of its record, p a pin, k a
-- signal of the slice, l a letter (A to D count 0 to 3).
use Rattle.std.specs.Prelude.{ℕ, Option, None, Some, ◌+◌, ◌*◌, ◌≤◌, ◌<◌, ◌≡◌, true, false, cond, List, ◌∷◌, ltb, eqb}
use Rattle.netlist.specs.Rule.{value_of, signals_in, is_input}
use Rattle.netlist.specs.Table.{slice_signals, code_of}
use Rattle.netlist.specs.declared.Source.{Source}
use Rattle.netlist.specs.declared.Source.TheVariants.{Constant, Input, Signal}
use Rattle.slicefile.specs.Lists.{tabulate}
use Rattle.slicefile.specs.Format.{HoldsSlice, pin_count, pin_code}
use Rattle.slicefile.specs.Driver.{driver_of}
use Rattle.slicefile.specs.declared.Driver.{Driver}
use Rattle.slicefile.specs.declared.Driver.TheVariants as driver

-- the code's promises hold of columns of up to this many slices
abbrev pub column_limit : ℕ
column_limit = 1024

-- "256+j is outside input j", and codes from 4096 on are outputs
abbrev pub input_codes : ℕ
input_codes = 3840

-- signal k of slice s
abbrev pub own : ℕ → ℕ → Source
own s k = Signal (slice_signals * s + k)

-- the signal that is output k of its slice: "k 0-3 the outputs A to D (O6), 4-7 AMUX to DMUX, 8-11 AQ to DQ", which are signals 0-3, 20-23, 24-27
abbrev pub output_signal : ℕ → ℕ
output_signal k = cond (ltb k 4) k (k + 16)

-- "reading a pin is reading the signal that drives it, if any"; an open one "reads as 1 and nothing depends on anything through it"
abbrev pub driver_source : Driver → Source
driver_source (driver.Constant b) = Constant b
driver_source driver.Open = Constant true
driver_source (driver.Input j) = Input j
driver_source (driver.Output o) = own o.slice (output_signal o.output)

-- a file with a missing driver is refused and has no netlist
abbrev pub decoded_source : Option Driver → Source
decoded_source (Some d) = driver_source d
decoded_source None = Constant false

unfoldable pub pin_source : ℕ → ℕ → List ℕ → ℕ → Source
pin_source n m body p = decoded_source (driver_of (pin_code body p) n m)

-- the numbers of a slice's pins in the gate table
unfoldable pub pin_numbers : ℕ → ℕ → List ℕ → List ℕ
pin_numbers n m body = tabulate 0 pin_count (λ p. code_of n (pin_source n m body p))

-- slice s of n has that body, and its pins have these numbers
abbrev pub HasPins : ℕ → ℕ → ℕ → List ℕ → List ℕ → Type 0
HasPins n m s body pins = HoldsSlice body × (n ≤ column_limit) × (s < n) × (pins ≡ pin_numbers n m body)

-- "it reads as 1 and nothing depends on anything through it": the bit is 1 over any inputs and values, and among the sources of a gate it is
-- no signal and no outside input
pub record PulledUp (s : Source) : Type 0 where
  pub one : (inputs values : List ℕ) → value_of inputs values s ≡ 1
  pub no_signal : (others : List Source) → signals_in (s ∷ others) ≡ signals_in others
  pub no_input : (j : ℕ) → is_input j s ≡ false

-- the signals of a letter beside its O6, which is signal l: O5, carry, sum, second flip-flop
abbrev pub o5_signal : ℕ → ℕ
o5_signal l = 4 + l

abbrev pub carry_signal : ℕ → ℕ
carry_signal l = 8 + l

abbrev pub sum_signal : ℕ → ℕ
sum_signal l = 12 + l

abbrev pub second_signal : ℕ → ℕ
second_signal l = 28 + l

-- the wide multiplexers F7A, F7B and F8, and MC31
abbrev pub f7a_signal : ℕ
f7a_signal = 16

abbrev pub f7b_signal : ℕ
f7b_signal = 17

abbrev pub f8_signal : ℕ
f8_signal = 18

abbrev pub mc31_signal : ℕ
mc31_signal = 19

-- "wide" is F7A, F8, F7B, MC31 for A, B, C, D
abbrev pub wide_signal : ℕ → ℕ
wide_signal l = cond (eqb l 0) f7a_signal (cond (eqb l 1) f8_signal (cond (eqb l 2) f7b_signal mc31_signal))
