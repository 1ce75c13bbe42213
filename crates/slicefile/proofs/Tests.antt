-- Tests taken apart and put together. Assumes nothing.
use mathlib.Core.Path.{◌≡◌, refl, sym}
use mathlib.Core.Bool.{Bool, true, false, ◌&&◌, ◌||◌}
use Prim.Native.Nat.{ℕ, zero, suc, ◌+◌, ◌<◌}
use native.Mathlib.Decide.{dec_lt}
use native.Mathlib.Nat.{not-suc-le-zero}
use native.Mathlib.Numerals.{add-one}
use native.Mathlib.Omega.{arith}
use lib.Dec.{T}
use Rattle.slicefile.specs.Lists.{any_below}

pub and_left : (a b : Bool) → T (a && b) → T a
and_left true b t = tt
and_left false b t = t

pub and_right : (a b : Bool) → T (a && b) → T b
and_right true b t = t
and_right false b t = absurd t

-- where a disjunction fails, both parts do
pub or_left : (a b : Bool) → (a || b) ≡ false → a ≡ false
or_left true b e = e
or_left false b e = refl

pub or_right : (a b : Bool) → (a || b) ≡ false → b ≡ false
or_right true b e = cc
or_right false b e = e

-- some number below i + 1 passes: i, or one below it
pub any_next : (i : ℕ) (f : ℕ → Bool) {here found : Bool} → here ≡ f i → found ≡ any_below i f → (here || found) ≡ any_below (i + 1) f
unfolding any_below
any_next i f e g = rw (add-one, e, g)

-- a test that passes nowhere below the bound fails at each number
pub none_below : (k : ℕ) (f : ℕ → Bool) → any_below k f ≡ false → (l : ℕ) → l < k → f l ≡ false
unfolding any_below
none_below zero f e l h = absurd (not-suc-le-zero h)
none_below (suc k) f e l h = at (dec_lt l k) (none_below k f (or_right (f k) _ e) l)
  where
    at : Dec (l < k) → (l < k → f l ≡ false) → f l ≡ false
    at (yes b) below = below b
    at (no b) below =
        let same : l ≡ k = omega arith in
        rw same (or_left (f k) _ e)

-- and one that fails at each passes nowhere
pub below_none : (k : ℕ) (f : ℕ → Bool) → ((l : ℕ) → l < k → f l ≡ false) → any_below k f ≡ false
unfolding any_below
below_none zero f each = refl
below_none (suc k) f each = rw (each k (omega arith), below_none k f (λ l h. each l (omega arith)))

-- two tests are one where each passes when the other does
pub same_test : (a b : Bool) → (a ≡ true → b ≡ true) → (b ≡ true → a ≡ true) → a ≡ b
same_test true b f g = sym (f refl)
same_test false true f g = g refl
same_test false false f g = refl

-- a conjunction that passes
pub both : (a b : Bool) → (a && b) ≡ true → (a ≡ true) × (b ≡ true)
both true b e = (refl, e)
both false b e = (e, cc)

-- tests that agree below k
pub any_same : (k : ℕ) (f g : ℕ → Bool) → ((l : ℕ) → l < k → f l ≡ g l) → any_below k f ≡ any_below k g
unfolding any_below
any_same zero f g e = refl
any_same (suc k) f g e = rw (e k (omega arith), any_same k f g (λ l h. e l (omega arith)))
