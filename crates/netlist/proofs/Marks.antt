-- Tests by "or", and the test whether a list has a marked signal. Assumes nothing.
use mathlib.Core.Path.{◌≡◌, refl}
use mathlib.Core.Bool.{Bool, true, false, ◌||◌, false≢true}
use mathlib.Core.List.{List, [], ◌∷◌, Memᴰ}
use mathlib.Core.Logic.{◌⊎◌, inl, inr}
use Prim.Native.Nat.{ℕ}
use Rattle.netlist.specs.Settle.{is_marked, any_marked}

pub or_left : (a b : Bool) → a ≡ true → (a || b) ≡ true
or_left true b e = refl
or_left false b e = absurd (false≢true e)

pub or_right : (a b : Bool) → b ≡ true → (a || b) ≡ true
or_right true b e = refl
or_right false b e = e

pub or_cases : (a b : Bool) → (a || b) ≡ true → (a ≡ true) ⊎ (b ≡ true)
or_cases true b e = inl refl
or_cases false b e = inr e

-- a list of signals has a marked one exactly where the test says so
pub any_from : (marks ys : List ℕ) → any_marked marks ys ≡ true → (y : ℕ) × Memᴰ y ys × (is_marked marks y ≡ true)
any_from marks [] e = absurd (false≢true e)
any_from marks (y ∷ ys) e = step (any_from marks ys) (or_cases (is_marked marks y) (any_marked marks ys) e)
  where
    step :
        (any_marked marks ys ≡ true → (z : ℕ) × Memᴰ z ys × (is_marked marks z ≡ true))
        → (is_marked marks y ≡ true) ⊎ (any_marked marks ys ≡ true) → (z : ℕ) × Memᴰ z (y ∷ ys) × (is_marked marks z ≡ true)
    step rest (inl m) = (y, Memᴰ.head refl, m)
    step rest (inr m) = let w = rest m in (w.0, Memᴰ.tail w.1, w.2)

pub any_to : (marks : List ℕ) {y : ℕ} {ys : List ℕ} → Memᴰ y ys → is_marked marks y ≡ true → any_marked marks ys ≡ true
any_to marks (Memᴰ.head {x = z} {xs = zs} e) m =
    or_left (is_marked marks z) (any_marked marks zs) (rw e at m)
any_to marks (Memᴰ.tail {x = z} {xs = zs} r) m =
    or_right (is_marked marks z) (any_marked marks zs) (any_to marks r m)
