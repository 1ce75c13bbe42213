-- A word masked with one bit. Assumes nothing.
use mathlib.Core.Path.{◌≡◌, ◌∙◌, ap}
use mathlib.Core.Bool.{not}
use Prim.Native.Nat.{ℕ, zero, suc, ◌+◌, ◌-◌, ◌*◌, ◌%◌, ◌^◌, ◌<◌}
use native.Mathlib.Nat.{mod-lt, zero-mul, one-mul}
use native.Mathlib.Omega.{arith}
use borrow.Author.Tests.{ne_eqb}
use lib.Bits.{bit_and, and_high}
use lib.Dec.{lit<, eqb}
use lib.Pow.{pow_pos, pow-add}
use mir.Val.{bool_byte}
use Rattle.netlist.specs.Rule.{bit_at}
use Rattle.netlist.proofs.Bits.{power}

-- a bit is whether its multiple is not 0
is_bit : (b p : ℕ) → 0 < p → b < 2 → bool_byte (not (eqb (b * p) 0)) ≡ b
is_bit zero p pos small = rw zero-mul
is_bit (suc zero) p pos small = rw (one-mul, ne_eqb p 0 (omega arith))
is_bit (suc (suc b)) p pos small = absurd (omega arith)

module _ (w k : ℕ) (small : k < 64) where
  -- 1 shifted by k, as the difference that `and_high` takes
  mask : 1 * 2 ^ k % 2 ^ 64 ≡ 2 ^ (1 + k) - 2 ^ k
  mask =
      let double : 2 ^ (1 + k) ≡ 2 * 2 ^ k = pow-add 2 1 k in
      power k small ∙ omega (arith, double)

  pub masked : bit_and w (1 * 2 ^ k % 2 ^ 64) ≡ bit_at w k * 2 ^ k
  masked = ap (bit_and w) mask ∙ and_high w 1 k

  pub masked_bit : bool_byte (not (eqb (bit_and w (1 * 2 ^ k % 2 ^ 64)) 0)) ≡ bit_at w k
  masked_bit = rw masked (is_bit (bit_at w k) (2 ^ k) (pow_pos k) (mod-lt _ (lit< tt)))
