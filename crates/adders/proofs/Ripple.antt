-- A ripple of carries: where each digit adds, the numbers do. Assumes nothing.
use mathlib.Core.Path.{◌≡◌, ◌∙◌, ap}
use Prim.Native.Nat.{ℕ, zero, suc, ◌+◌, ◌*◌, ◌^◌, ◌≤◌, ◌<◌}
use native.Mathlib.Nat.{mul_assoc}
use native.Mathlib.Omega.{arith}
use lib.Pow.{pow-add}
use Rattle.netlist.specs.Rule.{number}
use Rattle.slicefile.specs.Lists.{tabulate}

-- carry j comes into digit j
module _ (a b sum carry : ℕ → ℕ) (K : ℕ) (step : (j : ℕ) → j < K → sum j + 2 * carry (suc j) ≡ a j + b j + carry j) where
  pub ripple : (k i : ℕ) → i + k ≤ K → number (tabulate i k sum) + 2 ^ k * carry (i + k) ≡ number (tabulate i k a) + number (tabulate i k b) + carry i
  unfolding tabulate
  ripple zero i h = let e : i + 0 ≡ i = omega arith in rw e (omega arith)
  ripple (suc k) i h =
      let e : i + suc k ≡ suc i + k = omega arith in
      let q : suc k ≡ 1 + k = omega arith in
      let p : 2 ^ (1 + k) * carry (suc i + k) ≡ 2 * (2 ^ k * carry (suc i + k)) = ap (λ (x : ℕ). x * carry (suc i + k)) (pow-add 2 1 k) ∙ mul_assoc 2 (2 ^ k) (carry (suc i + k)) in
      rw (e, q) (omega (arith, ripple k (suc i) (omega arith), step i (omega arith), p))
