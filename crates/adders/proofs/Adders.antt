-- The carry column as arithmetic: a chain of slices adds, in any settled table. Assumes nothing.
use mathlib.Core.Path.{◌≡◌, ◌∙◌, refl, sym, ap}
use mathlib.Core.List.{List}
use Prim.Native.Nat.{ℕ, zero, suc, ◌+◌, ◌-◌, ◌*◌, ◌/◌, ◌%◌, ◌^◌, ◌<◌}
use native.Mathlib.Decide.{dec_lt}
use native.Mathlib.Nat.{mod-eq_of_lt, mul_comm}
use native.Mathlib.Omega.{arith}
use lib.Arith.{digits_div, digits_mod}
use lib.ListN.{get_or}
use Rattle.netlist.specs.Rule.{bit_at, number, value_of}
use Rattle.netlist.specs.Table.{slice_signals}
use Rattle.netlist.specs.declared.Source.{Source}
use Rattle.netlist.proofs.Bits.{value_bit, settled_bits}
use Rattle.slicefile.specs.Format.{slice_count, input_count}
use Rattle.slicefile.proofs.Tabulate.{tabulate_same}
use Rattle.sources.specs.Sources.{own, carry_signal, sum_signal}
use Rattle.series7.proofs.Numbers.{low_bits, number_bit, number_fits}
use Rattle.series7.proofs.CarryLaws.{full_adder, carry_before, carry_below}
use Rattle.column.specs.File.{slice_body, gate_at}
use Rattle.column.specs.Clock.{State, SettledFor}
use Rattle.column.proofs.Netlist.{slice_settled}
use Rattle.adders.specs.Adders.{CarryChain, Addend, slice_at, letter_at, byte_of, data_bit, carry_in_bit, number_on, data_number, sum_number, top_carry, total, Adds}
use Rattle.adders.proofs.Ripple.{ripple}

-- the bit x that makes o the exclusive-or of d and x
solved : (o d x : ℕ) → d < 2 → x < 2 → o ≡ (d + x) % 2 → x ≡ (o + d) % 2
solved o d x h l e = omega arith

module _ (file : List ℕ) {st : State} {inputs values : List ℕ} (t : SettledFor file st inputs values) {base h : ℕ} (chain : CarryChain file base h) where
  abbrev n : ℕ
  n = slice_count file

  abbrev m : ℕ
  m = input_count file

  abbrev v : Source → ℕ
  v = value_of inputs values

  -- at bit j: the slice, its body, a signal of it, the carry data, the sum
  abbrev slice : ℕ → ℕ
  slice j = slice_at base j

  abbrev body : ℕ → List ℕ
  body j = slice_body file (slice j)

  abbrev byte : ℕ → ℕ → ℕ
  byte j k = byte_of values (slice j) k

  abbrev a : ℕ → ℕ
  a j = data_bit file inputs values (slice j) (letter_at j)

  abbrev sum : ℕ → ℕ
  sum j = byte j (sum_signal (letter_at j))

  -- the carry coming into bit j: into the first, then the one out of the bit before
  abbrev carry : ℕ → ℕ
  carry zero = carry_in_bit file inputs values base 0
  carry (suc j) = byte j (carry_signal (letter_at j))

  inside : (j : ℕ) → j < 4 * h → slice j < n
  inside j l = omega (arith, chain.inside)

  -- a byte of the table is a bit, and is read as that
  byte_bit : (j k : ℕ) → j < 4 * h → k < slice_signals → byte j k < 2
  byte_bit j k l f = settled_bits (gate_at file) t (slice_signals * slice j + k) (omega (arith, inside j l))

  read : (j k : ℕ) → j < 4 * h → k < slice_signals → v (own (slice j) k) ≡ byte j k
  unfolding value_of
  read j k l f = omega (arith, byte_bit j k l f)

  data_bit_lem : (j : ℕ) → a j < 2
  data_bit_lem j = value_bit inputs values _

  -- the carry comes from the letter before, or from the slice below
  linked : (j : ℕ) → suc j < 4 * h → carry_in_bit file inputs values (slice (suc j)) (letter_at (suc j)) ≡ carry (suc j)
  linked j l = by_letter (dec_lt (letter_at j) 3)
    where
      out : v (own (slice j) (carry_signal (letter_at j))) ≡ carry (suc j)
      out = read j (carry_signal (letter_at j)) (omega arith) (omega arith)

      by_letter : Dec (letter_at j < 3) → carry_in_bit file inputs values (slice (suc j)) (letter_at (suc j)) ≡ carry (suc j)
      by_letter (yes low) =
          let e : letter_at (suc j) ≡ suc (letter_at j) = omega arith in
          let f : slice (suc j) ≡ slice j = omega arith in
          rw (e, f, carry_before n m (slice j) (body j) (letter_at j)) out
      by_letter (no high) =
          let e : letter_at (suc j) ≡ 0 = omega arith in
          let f : slice (suc j) ≡ suc (slice j) = omega arith in
          let g : letter_at j ≡ 3 = omega arith in
          let start = rw f at (chain.linked (suc j / 4) (omega arith) (omega arith)) in
          rw (e, f, carry_below n m (slice j) (slice_body file (suc (slice j))) start, g) (rw g at out)

  carried : (j : ℕ) → j < 4 * h → carry_in_bit file inputs values (slice j) (letter_at j) ≡ carry j
  carried zero l = let e : slice 0 ≡ base = omega arith in rw e refl
  carried (suc j) l = linked j l

  -- one bit adds
  step : (j b : ℕ) → j < 4 * h → b < 2 → byte j (letter_at j) ≡ (a j + b) % 2 → sum j + 2 * carry (suc j) ≡ a j + b + carry j
  step j b l small mixed =
      let settled = slice_settled file t (slice j) in
      rw (settled (sum_signal (letter_at j)) (inside j l) (omega arith), settled (carry_signal (letter_at j)) (inside j l) (omega arith), ← carried j l)
      (full_adder n m (slice j) (body j) st.contents st.flops (value_bit inputs values) (letter_at j) b (omega arith) small (read j (letter_at j) l (omega arith) ∙ mixed))

  -- the bits of a are the carry data
  pub data_bits : (j : ℕ) → j < 4 * h → bit_at (data_number file inputs values base h) j ≡ a j
  data_bits j l = number_bit a (4 * h) (λ i k. data_bit_lem i) j l

  top : carry (0 + 4 * h) ≡ top_carry values base h
  top =
      let e : 0 + 4 * h ≡ suc (4 * h - 1) = omega (arith, chain.some) in
      rw e (ap (λ (x : ℕ). get_or values x 0) (omega (arith, chain.some)))

  module _ (b : ℕ) (add : Addend file inputs values base h b) where
    mixed : (j : ℕ) → j < 4 * h → byte j (letter_at j) ≡ (a j + bit_at b j) % 2
    mixed j l = rw (data_bits j l) at (add.mixed j l)

    -- b is the number on its 4h bits
    whole : number_on h (bit_at b) ≡ b
    whole = low_bits (4 * h) b ∙ mod-eq_of_lt add.below

    -- request Two: the sums, and the top carry above them, are a + b + c
    pub adders : Adds file inputs values base h b
    adders = rw (whole, top) at (ripple a (bit_at b) sum carry (4 * h) (λ j l. step j (bit_at b j) l (omega arith) (mixed j l)) (4 * h) 0 (omega arith))

    sum_fits : sum_number values base h < 2 ^ (4 * h)
    sum_fits = number_fits sum (4 * h) (λ j l. byte_bit j (sum_signal (letter_at j)) l (omega arith))

    parts : total file inputs values base h b ≡ top_carry values base h * 2 ^ (4 * h) + sum_number values base h
    parts = sym adders ∙ omega (arith, mul_comm (2 ^ (4 * h)) (top_carry values base h))

    -- so the sums are what fits of a + b + c into 4h bits, and the top carry is the rest
    pub sums_wrap : sum_number values base h ≡ total file inputs values base h b % 2 ^ (4 * h)
    sums_wrap = rw parts (sym (digits_mod (top_carry values base h) sum_fits))

    pub carry_over : top_carry values base h ≡ total file inputs values base h b / 2 ^ (4 * h)
    carry_over = rw parts (sym (digits_div (top_carry values base h) sum_fits))

  -- the bits of b: what makes each O6 of the carry data
  abbrev other : ℕ → ℕ
  other j = (byte j (letter_at j) + a j) % 2

  other_addend : Addend file inputs values base h (number_on h other)
  other_addend =
      record {
        below = number_fits other (4 * h) (λ j l. omega arith);
        mixed = λ j l. rw (data_bits j l, number_bit other (4 * h) (λ i k. omega arith) j l) (omega (arith, data_bit_lem j, byte_bit j (letter_at j) l (omega arith)));
      }

  other_only : (b : ℕ) → Addend file inputs values base h b → b ≡ number_on h other
  other_only b add =
      sym (whole b add) ∙ ap number (tabulate_same (4 * h) (bit_at b) other (λ j l. solved _ (a j) (bit_at b j) (data_bit_lem j) (omega arith) (mixed b add j l)))

  -- "any number b": every chain has one, and only one
  pub one_addend : (b : ℕ) × Addend file inputs values base h b × ((c : ℕ) → Addend file inputs values base h c → c ≡ b)
  one_addend = (number_on h other, other_addend, other_only)
