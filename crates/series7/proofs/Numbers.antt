-- The number on some bits, lowest first, and the bits of a number. Assumes nothing.
use mathlib.Core.Path.{◌≡◌, ◌∙◌, sym, ap, subst}
use Prim.Native.Nat.{ℕ, zero, suc, ◌+◌, ◌*◌, ◌/◌, ◌%◌, ◌^◌, ◌≤◌, ◌<◌}
use native.Mathlib.Nat.{zero-add}
use native.Mathlib.Numerals.{add-one}
use native.Mathlib.Omega.{arith}
use lib.Pow.{pow-add, shr-shr, mod-pow-add}
use Rattle.netlist.specs.Rule.{bit_at, number}
use Rattle.slicefile.specs.Lists.{tabulate}

-- the number on k bits of a number, from bit j
bits_from : (k j x : ℕ) → number (tabulate j k (bit_at x)) ≡ x / 2 ^ j % 2 ^ k
unfolding tabulate
bits_from zero j x = omega arith
bits_from (suc k) j x =
    let y = x / 2 ^ j in
    let half : y / 2 ≡ x / 2 ^ suc j = shr-shr x j 1 ∙ ap (λ (i : ℕ). x / 2 ^ i) (add-one j) in
    let low : y % 2 ^ suc k ≡ y / 2 % 2 ^ k * 2 + y % 2 = subst (λ (i : ℕ). y % 2 ^ i ≡ y / 2 % 2 ^ k * 2 + y % 2) (add-one k) (mod-pow-add y k 1) in
    rw (bits_from k (suc j) x, ← half, low) (omega arith)

-- the number on the lowest k bits of a number
pub low_bits : (k x : ℕ) → number (tabulate 0 k (bit_at x)) ≡ x % 2 ^ k
low_bits k x = bits_from k 0 x ∙ ap (λ (y : ℕ). y % 2 ^ k) (omega arith)

-- the number on K bits
module _ (f : ℕ → ℕ) (K : ℕ) (bits : (j : ℕ) → j < K → f j < 2) where
  bit_from : (k i j : ℕ) → i + k ≤ K → j < k → bit_at (number (tabulate i k f)) j ≡ f (i + j)
  unfolding tabulate
  bit_from zero i j h l = absurd (omega arith)
  bit_from (suc k) i zero h l =
      let e : i + 0 ≡ i = omega arith in
      rw e (omega (arith, bits i (omega arith)))
  bit_from (suc k) i (suc j) h l =
      let r = number (tabulate (suc i) k f) in
      let e : i + suc j ≡ suc i + j = omega arith in
      let half : (f i + 2 * r) / 2 ^ 1 ≡ r = omega (arith, bits i (omega arith)) in
      let rest : (f i + 2 * r) / 2 ^ (1 + j) ≡ r / 2 ^ j = sym (shr-shr (f i + 2 * r) 1 j) ∙ ap (λ (x : ℕ). x / 2 ^ j) half in
      let q : suc j ≡ 1 + j = omega arith in
      rw (e, q, rest) (bit_from k (suc i) j (omega arith) (omega arith))

  -- it has them
  pub number_bit : (j : ℕ) → j < K → bit_at (number (tabulate 0 K f)) j ≡ f j
  number_bit j l = bit_from K 0 j (omega arith) l ∙ ap f (zero-add j)

  fits_from : (k i : ℕ) → i + k ≤ K → number (tabulate i k f) < 2 ^ k
  unfolding tabulate
  fits_from zero i h = omega arith
  fits_from (suc k) i h =
      let q : suc k ≡ 1 + k = omega arith in
      let p : 2 ^ (1 + k) ≡ 2 * 2 ^ k = pow-add 2 1 k in
      rw q (omega (arith, bits i (omega arith), fits_from k (suc i) (omega arith), p))

  pub number_fits : number (tabulate 0 K f) < 2 ^ K
  number_fits = fits_from K 0 (omega arith)
