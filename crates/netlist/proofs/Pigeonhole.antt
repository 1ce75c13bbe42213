-- Bounded search, and the pigeonhole principle. Assumes nothing.
use mathlib.Core.Path.{◌≡◌, sym, ◌∙◌, subst}
use mathlib.Core.Bool.{cond}
use mathlib.Core.Logic.{◌⊎◌, inl, inr, ⊎_elim}
use Prim.Native.Nat.{ℕ, zero, suc, ◌<◌}
use native.Mathlib.Nat.{le_of_suc-le-suc, not-suc-le-zero, eq-or-lt_of_le}
use native.Mathlib.Decide.{ℕ_discrete}
use native.Mathlib.Omega.{arith}
use lib.Dec.{eqb}
use borrow.Author.Tests.{eq-eqb, ne_eqb}

pub lt_suc_cases : {i n : ℕ} → i < suc n → (i ≡ n) ⊎ (i < n)
lt_suc_cases h = eq-or-lt_of_le (le_of_suc-le-suc h)

-- what is decided at each number holds at one below n, or at none
module _ {P : ℕ → Type 0} (decide : (i : ℕ) → Dec (P i)) where
  pub search_below : (n : ℕ) → ((i : ℕ) × (i < n) × P i) ⊎ ((i : ℕ) → i < n → P i → ⊥)
  search_below zero = inr (λ i h p. not-suc-le-zero h)
  search_below (suc n) = step (search_below n) (decide n)
    where
      step :
          ((i : ℕ) × (i < n) × P i) ⊎ ((i : ℕ) → i < n → P i → ⊥) → Dec (P n)
          → ((i : ℕ) × (i < suc n) × P i) ⊎ ((i : ℕ) → i < suc n → P i → ⊥)
      step (inl w) d = inl (w.0, omega arith, w.2)
      step (inr none) (yes p) = inl (n, omega arith, p)
      step (inr none) (no ¬p) = inr (λ i h p. ⊎_elim (λ e. ¬p (subst P e p)) (λ l. none i l p) (lt_suc_cases h))

-- two places below n at which f is the same
abbrev pub Collision : (ℕ → ℕ) → ℕ → Type 0
Collision f n = (i : ℕ) × (j : ℕ) × (i < j) × (j < n) × (f i ≡ f j)

-- v in the place of top, any other number itself
moved : ℕ → ℕ → ℕ → ℕ
moved top v x = cond (eqb x top) v x

moved_eq : (top v x : ℕ) → x ≡ top → moved top v x ≡ v
unfolding moved
moved_eq top v x e = rw (eq-eqb x top e)

moved_ne : (top v x : ℕ) → (x ≡ top → ⊥) → moved top v x ≡ x
unfolding moved
moved_ne top v x n = rw (ne_eqb x top n)

moved_inj : (top v a b : ℕ) → (a ≡ v → ⊥) → (b ≡ v → ⊥) → moved top v a ≡ moved top v b → a ≡ b
moved_inj top v a b na nb e = go (ℕ_discrete a top) (ℕ_discrete b top)
  where
    go : Dec (a ≡ top) → Dec (b ≡ top) → a ≡ b
    go (yes p) (yes q) = p ∙ sym q
    go (yes p) (no q) = absurd (nb (cc (moved_eq top v a p, moved_ne top v b q)))
    go (no p) (yes q) = absurd (na (cc (moved_ne top v a p, moved_eq top v b q)))
    go (no p) (no q) = cc (moved_ne top v a p, moved_ne top v b q)

moved_lt : (top v a : ℕ) → a < suc top → v < suc top → (a ≡ v → ⊥) → moved top v a < top
moved_lt top v a ha hv n = go (ℕ_discrete a top)
  where
    go : Dec (a ≡ top) → moved top v a < top
    go (yes p) = rw (moved_eq top v a p) (omega arith)
    go (no p) = rw (moved_ne top v a p) (omega arith)

pub pigeonhole : (n : ℕ) (f : ℕ → ℕ) → ((i : ℕ) → i < suc n → f i < n) → Collision f (suc n)
pigeonhole zero f small = absurd (not-suc-le-zero (small 0 (omega arith)))
pigeonhole (suc n) f small = step (λ h s. pigeonhole n h s) (search_below (λ i. ℕ_discrete (f i) v) (suc n))
  where
    v : ℕ
    v = f (suc n)

    f' : ℕ → ℕ
    f' i = moved n v (f i)

    step :
        ((h : ℕ → ℕ) → ((i : ℕ) → i < suc n → h i < n) → Collision h (suc n))
        → ((i : ℕ) × (i < suc n) × (f i ≡ v)) ⊎ ((i : ℕ) → i < suc n → f i ≡ v → ⊥)
        → Collision f (suc (suc n))
    step rec (inl w) = (w.0, suc n, w.1, omega arith, w.2)
    step rec (inr none) =
        let c = rec f' (λ i h. moved_lt n v (f i) (small i (omega arith)) (small (suc n) (omega arith)) (none i h)) in
        (c.0, c.1, c.2, omega arith, moved_inj n v (f c.0) (f c.1) (none c.0 (omega arith)) (none c.1 c.3) c.4)
