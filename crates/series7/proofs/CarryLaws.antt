-- The carry column of a slice: a letter is a full adder, and where the carry into it comes from. Assumes nothing.
use mathlib.Core.Path.{◌≡◌, ap}
use mathlib.Core.List.{List}
use Prim.Native.Nat.{ℕ, zero, suc, ◌+◌, ◌*◌, ◌%◌, ◌<◌}
use native.Mathlib.Omega.{arith}
use borrow.Author.Tests.{lt-ltb, le-ltb}
use lib.Dec.{eqb-suc-zero}
use Rattle.netlist.specs.Rule.{choose, apply_gate}
use Rattle.netlist.specs.declared.Source.{Source}
use Rattle.slicefile.specs.Format.{carry_start}
use Rattle.sources.specs.Sources.{own, carry_signal, sum_signal}
use Rattle.series7.specs.Signals.{start_source, carry_in, carry_source, family_of, family_gate, slice_gate}
use Rattle.series7.specs.declared.Family.TheVariants.{Carry, Sum}

-- the families of a letter's carry and of its sum
family_carry : (l : ℕ) → l < 4 → family_of (carry_signal l) ≡ Carry
family_carry l h = rw (le-ltb (carry_signal l) 4 (omega arith), le-ltb (carry_signal l) 8 (omega arith), lt-ltb (carry_signal l) 12 (omega arith))

family_sum : (l : ℕ) → l < 4 → family_of (sum_signal l) ≡ Sum
family_sum l h =
    rw (le-ltb (sum_signal l) 4 (omega arith), le-ltb (sum_signal l) 8 (omega arith), le-ltb (sum_signal l) 12 (omega arith), lt-ltb (sum_signal l) 16 (omega arith))

-- o is the exclusive-or of d and b, i the carry coming in
adds : (o d b i : ℕ) → o ≡ (d + b) % 2 → d < 2 → b < 2 → i < 2 → (o + i) % 2 + 2 * choose o i d ≡ d + b + i
adds zero d b i e x y z = omega arith
adds (suc zero) d b i e x y z = omega arith
adds (suc (suc o)) d b i e x y z = absurd (omega arith)

module _ (n m s : ℕ) (body : List ℕ) where
  -- a letter is a full adder of its carry data, of b and of the carry coming in, where its O6 is the exclusive-or of the first two
  pub full_adder :
      (contents flops : List ℕ) {v : Source → ℕ} → ((x : Source) → v x < 2) → (l b : ℕ) → l < 4 → b < 2
      → v (own s l) ≡ (v (carry_source n m s body l) + b) % 2
      → apply_gate contents flops v (slice_gate n m s body (sum_signal l)) + 2 * apply_gate contents flops v (slice_gate n m s body (carry_signal l))
      ≡ v (carry_source n m s body l) + b + v (carry_in n m s body l)
  unfolding slice_gate family_gate apply_gate
  full_adder contents flops bits l b h small mixed =
      let c : carry_signal l % 4 ≡ l = omega arith in
      let d : sum_signal l % 4 ≡ l = omega arith in
      rw (family_carry l h, family_sum l h, c, d) (adds _ _ _ _ mixed (bits _) small (bits _))

  -- "into B, C, D the carry of the letter before"
  pub carry_before : (l : ℕ) → carry_in n m s body (suc l) ≡ own s (carry_signal l)
  unfolding carry_in
  carry_before l = rw (eqb-suc-zero l) (ap (own s) (omega arith))

  -- "the D carry of slice s-1"
  pub carry_below : carry_start body ≡ 3 → carry_in n m (suc s) body 0 ≡ own s (carry_signal 3)
  unfolding carry_in start_source
  carry_below e = rw e (ap (λ (t : ℕ). own t (carry_signal 3)) (omega arith))
