-- A slice's gates fit the column: the tables, slots, outside inputs and signals that they name are there. Its last eight signals are flip-flops, and
-- no other is one. Assumes nothing.
use mathlib.Core.Path.{◌≡◌, ap}
use mathlib.Core.Bool.{Bool, true, false, cond}
use mathlib.Core.List.{List}
use Prim.Native.Nat.{ℕ, ◌+◌, ◌*◌, ◌%◌, ◌<◌}
use native.Mathlib.Decide.{dec_lt}
use native.Mathlib.Omega.{arith}
use borrow.Author.Tests.{lt-ltb, le-ltb}
use lib.Dec.{ltb, eqb, lit<}
use Rattle.netlist.specs.Table.{first_flop, SourceFits, GateFits}
use Rattle.netlist.proofs.Table.{NotStored}
use Rattle.netlist.specs.declared.Source.{Source}
use Rattle.netlist.specs.declared.Gate.{Gate}
use Rattle.netlist.specs.declared.Gate.TheVariants.{Stored}
use Rattle.slicefile.specs.Format.{mode, carry_data, carry_start, mux_choice, pin_code, bypass_pin}
use Rattle.slicefile.proofs.DriverLaws.{driver_cases}
use Rattle.sources.specs.Sources.{output_signal, decoded_source, pin_source, f7a_signal, f7b_signal, wide_signal}
use Rattle.series7.specs.Signals.{mux_signal, pins_of, o6_gate, o5_gate, mc31_gate, start_source, carry_in, carry_source, by_bypass, wide_gate, family_of, family_gate, slice_gate}
use Rattle.series7.specs.declared.Family.{Family}
use Rattle.series7.specs.declared.Family.TheVariants.{O6, O5, Carry, Sum, Wide, Mux, Main, Second}

-- a choice has what both sides have
pub either : {A : Type 0} (P : A → Type 0) (t : Bool) {a b : A} → P a → P b → P (cond t a b)
either P true p q = p
either P false p q = q

output_small : (k : ℕ) → k < 12 → output_signal k < 32
output_small k h = either (λ (x : ℕ). x < 32) (ltb k 4) (omega arith) (omega arith)

pub wide_small : (l : ℕ) → wide_signal l < 32
wide_small l =
    let P : ℕ → Type 0 = λ x. x < 32 in
    either P (eqb l 0) (lit< tt) (either P (eqb l 1) (lit< tt) (either P (eqb l 2) (lit< tt) (lit< tt)))

mux_small : (l choice : ℕ) → l < 4 → mux_signal l choice < 32
mux_small l choice h =
    let P : ℕ → Type 0 = λ x. x < 32 in
    either P (eqb choice 0) (omega arith)
    (either P (eqb choice 1) (omega arith)
    (either P (eqb choice 2) (omega arith) (either P (eqb choice 3) (wide_small l) (omega arith))))

module _ (n m s : ℕ) (body : List ℕ) (here : s < n) where
  abbrev In : Source → Type 0
  In = SourceFits n m

  pub pin_fits : (p : ℕ) → In (pin_source n m body p)
  unfolding pin_source
  pin_fits p =
      driver_cases (λ d. In (decoded_source d)) (pin_code body p) n m tt (λ b. tt) (λ e. tt) (λ j h. h)
      (λ o h k. omega (arith, output_small o.output k))

  start_fits : (choice p : ℕ) → In (start_source choice s (pin_source n m body p))
  unfolding start_source
  start_fits choice p = either In (eqb choice 0) tt (either In (eqb choice 1) tt (either In (eqb choice 2) (pin_fits p) (omega arith)))

  carry_in_fits : (l : ℕ) → l < 4 → In (carry_in n m s body l)
  unfolding carry_in
  carry_in_fits l h = either In (eqb l 0) (start_fits (carry_start body) (bypass_pin 0)) (omega arith)

  carry_source_fits : (l : ℕ) → l < 4 → In (carry_source n m s body l)
  unfolding carry_source
  carry_source_fits l h = either In (eqb (carry_data body l) 0) (omega arith) (pin_fits (bypass_pin l))

  abbrev Good : Gate → Type 0
  Good = GateFits n m

  o6_fits : (shift : Bool) (t l : ℕ) → t < 4 * n → Good (o6_gate shift t (pins_of n m body l))
  unfolding GateFits pins_of
  o6_fits false t l h = (h, pin_fits _, pin_fits _, pin_fits _, pin_fits _, pin_fits _, pin_fits _)
  o6_fits true t l h = (h, pin_fits _, pin_fits _, pin_fits _, pin_fits _, pin_fits _, tt)

  o5_fits : (shift : Bool) (t l : ℕ) → t < 4 * n → Good (o5_gate shift t (pins_of n m body l))
  unfolding GateFits pins_of
  o5_fits false t l h = (h, pin_fits _, pin_fits _, pin_fits _, pin_fits _, pin_fits _, tt)
  o5_fits true t l h = h

  mc31_fits : (shift : Bool) (t : ℕ) → t < 4 * n → Good (mc31_gate shift t)
  unfolding GateFits
  mc31_fits false t h = h
  mc31_fits true t h = (h, tt, tt, tt, tt, tt, tt)

  bypass_fits : (l one other : ℕ) → one < 32 → other < 32 → Good (by_bypass n m s body l one other)
  unfolding GateFits
  bypass_fits l one other g h = (pin_fits _, omega arith, omega arith)

  wide_fits : (i : ℕ) → Good (wide_gate n m s body i)
  unfolding wide_gate
  wide_fits i =
      either Good (eqb i 0) (bypass_fits 0 0 1 (lit< tt) (lit< tt))
      (either Good (eqb i 1) (bypass_fits 2 2 3 (lit< tt) (lit< tt))
      (either Good (eqb i 2) (bypass_fits 1 f7a_signal f7b_signal (lit< tt) (lit< tt)) (mc31_fits (eqb (mode body 0) 2) (4 * s) (omega arith))))

  family_fits : (f : Family) (l : ℕ) → l < 4 → Good (family_gate n m s body f l)
  unfolding family_gate GateFits
  family_fits O6 l h = o6_fits (eqb (mode body l) 2) (4 * s + l) l (omega arith)
  family_fits O5 l h = o5_fits (eqb (mode body l) 2) (4 * s + l) l (omega arith)
  family_fits Carry l h = (omega arith, carry_in_fits l h, carry_source_fits l h)
  family_fits Sum l h = (omega arith, carry_in_fits l h)
  family_fits Wide l h = wide_fits l
  family_fits Mux l h = omega (arith, mux_small l (mux_choice body l) h)
  family_fits Main l h = omega arith
  family_fits Second l h = omega arith

  -- the gate of each signal of slice s
  pub gate_fits : (k : ℕ) → GateFits n m (slice_gate n m s body k)
  unfolding slice_gate
  gate_fits k = family_fits (family_of k) (k % 4) (omega arith)

-- the signals from 24 on, by number and by family
late_main : (i : ℕ) → i < 4 → family_of (first_flop + i) ≡ Main
late_main i h =
    let k = first_flop + i in
    rw (le-ltb k 4 (omega arith), le-ltb k 8 (omega arith), le-ltb k 12 (omega arith), le-ltb k 16 (omega arith), le-ltb k 20 (omega arith), le-ltb k 24 (omega arith), lt-ltb k 28 (omega arith))

late_second : (i : ℕ) → 3 < i → family_of (first_flop + i) ≡ Second
late_second i h =
    let k = first_flop + i in
    rw (le-ltb k 4 (omega arith), le-ltb k 8 (omega arith), le-ltb k 12 (omega arith), le-ltb k 16 (omega arith), le-ltb k 20 (omega arith), le-ltb k 24 (omega arith), le-ltb k 28 (omega arith))

module _ (n m s : ℕ) (body : List ℕ) where
  -- signal 24+i is flip-flop i of its slice
  pub flop_stored : (i : ℕ) → i < 8 → slice_gate n m s body (first_flop + i) ≡ Stored (8 * s + i)
  unfolding slice_gate family_gate
  flop_stored i h = by_side (dec_lt i 4)
    where
      by_side : Dec (i < 4) → family_gate n m s body (family_of (first_flop + i)) ((first_flop + i) % 4) ≡ Stored (8 * s + i)
      by_side (yes l) = rw (late_main i l) (ap Stored (omega arith))
      by_side (no l) = rw (late_second i (omega arith)) (ap Stored (omega arith))

  o6_unstored : (shift : Bool) (t l : ℕ) → NotStored (o6_gate shift t (pins_of n m body l))
  o6_unstored false t l = tt
  o6_unstored true t l = tt

  o5_unstored : (shift : Bool) (t l : ℕ) → NotStored (o5_gate shift t (pins_of n m body l))
  o5_unstored false t l = tt
  o5_unstored true t l = tt

  mc31_unstored : (shift : Bool) (t : ℕ) → NotStored (mc31_gate shift t)
  mc31_unstored false t = tt
  mc31_unstored true t = tt

  wide_unstored : (i : ℕ) → NotStored (wide_gate n m s body i)
  unfolding wide_gate
  wide_unstored i = either NotStored (eqb i 0) tt (either NotStored (eqb i 1) tt (either NotStored (eqb i 2) tt (mc31_unstored (eqb (mode body 0) 2) (4 * s))))

  -- a signal before the 24th is none
  pub early_unstored : (k : ℕ) → k < first_flop → NotStored (slice_gate n m s body k)
  unfolding slice_gate family_gate
  early_unstored k h =
      let P : Family → Type 0 = λ f. NotStored (family_gate n m s body f (k % 4)) in
      let none : ltb k 24 ≡ true = lt-ltb k 24 h in
      either P (ltb k 4) (o6_unstored (eqb (mode body (k % 4)) 2) _ _)
      (either P (ltb k 8) (o5_unstored (eqb (mode body (k % 4)) 2) _ _)
      (either P (ltb k 12) tt (either P (ltb k 16) tt (either P (ltb k 20) (wide_unstored (k % 4)) (rw none tt)))))
