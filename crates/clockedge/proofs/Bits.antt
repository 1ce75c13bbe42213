-- Bits of a word. Assumes nothing.
use mathlib.Core.Path.{◌≡◌, ◌∙◌, sym, ap, subst⁻¹}
use Prim.Native.Nat.{ℕ, ◌+◌, ◌-◌, ◌*◌, ◌/◌, ◌%◌, ◌^◌, ◌≤◌, ◌<◌}
use native.Mathlib.Nat.{mod-lt, mul-le-mul_right, one-mul}
use native.Mathlib.Omega.{arith}
use lib.Arith.{digits_lt}
use lib.Pow.{pow_pos, pow-add, shr_lt, split, mod-pow-add}
use Rattle.netlist.specs.Rule.{bit_at}
use Rattle.series7.specs.Edge.{with_bit}

module _ (c i : ℕ) where
  -- a word by what stands above bit i, that bit, and what stands below
  parts : c ≡ c / 2 ^ (1 + i) * 2 ^ (1 + i) + (bit_at c i * 2 ^ i + c % 2 ^ i)
  parts = sym (split c (1 + i)) ∙ ap (λ (x : ℕ). c / 2 ^ (1 + i) * 2 ^ (1 + i) + x) (mod-pow-add c 1 i)

  -- a word with one bit set anew still fits
  pub with_bit_fits : (b : ℕ) → i < 64 → c < 2 ^ 64 → b < 2 → with_bit c i b < 2 ^ 64
  with_bit_fits b h fits small =
      let p = 2 ^ (1 + i) in
      let whole : 63 - i + (1 + i) ≡ 64 = omega arith in
      let double : p ≡ 2 * 2 ^ i = pow-add 2 1 i in
      let bit : b * 2 ^ i ≤ 1 * 2 ^ i = mul-le-mul_right (2 ^ i) (omega arith) in
      let rest : c % 2 ^ i + b * 2 ^ i < p = omega (arith, mod-lt c (pow_pos i), one-mul (2 ^ i)) in
      let top : c / p < 2 ^ (63 - i) = shr_lt (63 - i) (1 + i) (subst⁻¹ (λ (k : ℕ). c < 2 ^ k) whole fits) in
      let all : 2 ^ (63 - i) * p ≡ 2 ^ 64 = sym (pow-add 2 (63 - i) (1 + i)) ∙ ap (λ (k : ℕ). 2 ^ k) whole in
      omega (arith, parts, digits_lt top rest)
