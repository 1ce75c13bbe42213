-- The first n of k zeros, as a local array is lent. Assumes nothing.
use mathlib.Core.Path.{◌≡◌, refl}
use mathlib.Core.List.{List, [], ◌∷◌}
use Prim.Native.Nat.{ℕ, zero, suc, ◌≤◌}
use lib.ListN.{length, get_or, take, replicate, length-replicate}
use lib.Seq.{length-take-le}

abbrev pub zeros : ℕ → List ℕ
zeros k = replicate k 0

pub zeros_at : (k x : ℕ) → get_or (zeros k) x 0 ≡ 0
zeros_at zero x = refl
zeros_at (suc k) zero = refl
zeros_at (suc k) (suc x) = zeros_at k x

take_zero : (l : List ℕ) → ((x : ℕ) → get_or l x 0 ≡ 0) → (n x : ℕ) → get_or (take n l) x 0 ≡ 0
take_zero l h zero x = refl
take_zero [] h (suc n) x = refl
take_zero (a ∷ l) h (suc n) zero = h zero
take_zero (a ∷ l) h (suc n) (suc x) = take_zero l (λ y. h (suc y)) n x

pub zeros_all : (k n x : ℕ) → get_or (take n (zeros k)) x 0 ≡ 0
zeros_all k = take_zero (zeros k) (zeros_at k)

pub zeros_length : (k n : ℕ) → n ≤ k → length (take n (zeros k)) ≡ n
zeros_length k n h = length-take-le n (zeros k) (rw length-replicate h)
