-- One clock of one slice: its flip-flop byte and its contents words after the edge. v gives the bit on a source, in the table settled before
-- the edge.
use Rattle.std.specs.Prelude.{ℕ, zero, suc, ◌+◌, ◌-◌, ◌*◌, ◌%◌, ◌^◌, false, cond, ◌&&◌, List, [], ◌∷◌, ltb, eqb, get_or}
use Rattle.netlist.specs.Rule.{bit_at, number}
use Rattle.netlist.specs.declared.Source.{Source}
use Rattle.netlist.specs.declared.Source.TheVariants.{Constant}
use Rattle.slicefile.specs.Lists.{tabulate}
use Rattle.slicefile.specs.Format.{mode, shift_data, main_input, second_input, set_reset_values, set_reset_used, lut_pin, bypass_pin, clock_enable_pin, set_reset_pin, write_enable_pin}
use Rattle.sources.specs.Sources.{own, pin_source, o5_signal, carry_signal, sum_signal, wide_signal}

-- what the main flip-flop of a letter takes: "0 O6, 1 O5, 2 sum, 3 carry, 4 wide, 5 bypass pin"
unfoldable pub main_source : ℕ → ℕ → ℕ → List ℕ → ℕ → Source
main_source n m s body l =
    get_or
    (own s l ∷ own s (o5_signal l) ∷ own s (sum_signal l) ∷ own s (carry_signal l) ∷ own s (wide_signal l) ∷ pin_source n m body (bypass_pin l) ∷ [])
    (main_input body l)
    (Constant false)

-- what the second one takes: "0 O5, 1 bypass pin"
unfoldable pub second_source : ℕ → ℕ → ℕ → List ℕ → ℕ → Source
second_source n m s body l = cond (eqb (second_input body l) 0) (own s (o5_signal l)) (pin_source n m body (bypass_pin l))

-- bit b of the flip-flop byte: "bits 0-3 main A to D, 4-7 second"
abbrev pub flop_source : ℕ → ℕ → ℕ → List ℕ → ℕ → Source
flop_source n m s body b = cond (ltb b 4) (main_source n m s body b) (second_source n m s body (b - 4))

-- "SR used and 1 gives the set/reset value (over CE, as in 001); else CE 1 takes the input; else keep"
unfoldable pub next_bit : (Source → ℕ) → ℕ → ℕ → ℕ → List ℕ → ℕ → ℕ → ℕ
next_bit v n m s body old b =
    cond (eqb (set_reset_used body) 1 && eqb (v (pin_source n m body set_reset_pin)) 1) (bit_at (set_reset_values body) b)
    (cond (eqb (v (pin_source n m body clock_enable_pin)) 1) (v (flop_source n m s body b)) (bit_at old b))

-- the flip-flop byte after the edge, by its 8 bits
unfoldable pub next_flops : (Source → ℕ) → ℕ → ℕ → ℕ → List ℕ → ℕ → ℕ
next_flops v n m s body old = number (tabulate 0 8 (next_bit v n m s body old))

-- a word with bit i set to b
abbrev pub with_bit : ℕ → ℕ → ℕ → ℕ
with_bit c i b = c - bit_at c i * 2 ^ i + b * 2 ^ i

-- "the address on D1-D6, the same for all four"
unfoldable pub write_address : (Source → ℕ) → ℕ → ℕ → List ℕ → ℕ
write_address v n m body = number (tabulate 0 6 (λ i. v (pin_source n m body (lut_pin 3 i))))

-- "shift puts its data at bit 0, bit i to i+1, losing bit 31"
abbrev pub shifted : ℕ → ℕ → ℕ
shifted c d = (2 * c + d) % 2 ^ 32

-- a table's word after an edge with WE 1, by its mode: logic keeps, memory writes the bypass pin at the address, shift takes its data
abbrev pub written : ℕ → ℕ → ℕ → ℕ → ℕ → ℕ
written zero old address bypass d = old
written (suc zero) old address bypass d = with_bit old address bypass
written (suc (suc k)) old address bypass d = shifted old d

-- letter l's word after the edge; next is the next letter's word before it: "cascade data is bit 31, before the edge, of the next letter"
unfoldable pub next_word : (Source → ℕ) → ℕ → ℕ → List ℕ → ℕ → ℕ → ℕ → ℕ
next_word v n m body l old next =
    let bypass = v (pin_source n m body (bypass_pin l)) in
    cond (eqb (v (pin_source n m body write_enable_pin)) 1)
    (written (mode body l) old (write_address v n m body) bypass (cond (eqb (shift_data body l) 1) (bit_at next 31) bypass))
    old
