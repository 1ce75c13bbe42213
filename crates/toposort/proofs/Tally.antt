-- Laws of lists of marks: an element after a store, `tally`, `room`, and all elements alike. Assumes nothing.
use Prim.Native.Nat.{ℕ, zero, suc, ◌≤◌, ◌<◌, zero-le, suc-le-suc}
use mathlib.Core.Path.{◌≡◌, refl, sym, ap, ◌∙◌}
use mathlib.Core.Bool.{Bool, true, false}
use mathlib.Core.List.{List, [], ◌∷◌}
use native.Mathlib.Omega.{arith}
use native.Mathlib.Nat.{le_of_suc-le-suc, not-suc-le-zero}
use native.Mathlib.Decide.{ℕ_discrete}
use lib.ListN.{length, get_or, set, length-set}
use lib.Seq.{get_or-set_same, get_or-set_other}
use lib.Dec.{eqb}
use borrow.Author.Tests.{eq-eqb, ne_eqb}
use Rattle.toposort.specs.Tally.{done_mark, one_if, tally, room}

-- by cases on whether x is y
pub same_or_not : {C : Type 0} (x y : ℕ) → (x ≡ y → C) → ((x ≡ y → ⊥) → C) → C
same_or_not {C} x y f g = go (ℕ_discrete x y)
  where
    go : Dec (x ≡ y) → C
    go (yes e) = f e
    go (no d) = g d

-- an element after a store, by cases on its place
pub stored : {C : Type 0} (l : List ℕ) (i v x : ℕ) → i < length l
    → (x ≡ i → get_or (set l i v) x 0 ≡ v → C)
    → ((x ≡ i → ⊥) → get_or (set l i v) x 0 ≡ get_or l x 0 → C)
    → C
stored l i v x h f g =
    same_or_not x i
    (λ e. f e (rw e (get_or-set_same l i v 0 h)))
    (λ d. g d (get_or-set_other l i x v 0 d))

-- a nonzero element is in the list
pub in_list : (l : List ℕ) (x : ℕ) → 0 < get_or l x 0 → x < length l
in_list [] x h = absurd (not-suc-le-zero h)
in_list (a ∷ l) zero h = suc-le-suc zero-le
in_list (a ∷ l) (suc x) h = suc-le-suc (in_list l x h)

-- ---- tally

pub tally_keep : (d : ℕ) (l : List ℕ) (i v : ℕ) → (get_or l i 0 ≡ d → ⊥) → (v ≡ d → ⊥) → tally d (set l i v) ≡ tally d l
unfolding tally
tally_keep d [] i v h k = refl
tally_keep d (a ∷ l) zero v h k = simp (ne_eqb v d k, ne_eqb a d h)
tally_keep d (a ∷ l) (suc i) v h k = ap (one_if (eqb a d)) (tally_keep d l i v h k)

one_if_suc : (b : Bool) (n : ℕ) → one_if b (suc n) ≡ suc (one_if b n)
one_if_suc true n = refl
one_if_suc false n = refl

pub tally_add : (d : ℕ) (l : List ℕ) (i : ℕ) → i < length l → (get_or l i 0 ≡ d → ⊥) → tally d (set l i d) ≡ suc (tally d l)
unfolding tally
tally_add d [] i h k = absurd (not-suc-le-zero h)
tally_add d (a ∷ l) zero h k = simp (eq-eqb d d refl, ne_eqb a d k)
tally_add d (a ∷ l) (suc i) h k = ap (one_if (eqb a d)) (tally_add d l i (le_of_suc-le-suc h) k) ∙ one_if_suc (eqb a d) (tally d l)

pub tally_less : (d : ℕ) (l : List ℕ) (i v : ℕ) → i < length l → get_or l i 0 ≡ d → (v ≡ d → ⊥) → suc (tally d (set l i v)) ≡ tally d l
unfolding tally
tally_less d [] i v h e k = absurd (not-suc-le-zero h)
tally_less d (a ∷ l) zero v h e k = simp (eq-eqb a d e, ne_eqb v d k)
tally_less d (a ∷ l) (suc i) v h e k =
    sym (one_if_suc (eqb a d) (tally d (set l i v))) ∙ ap (one_if (eqb a d)) (tally_less d l i v (le_of_suc-le-suc h) e k)

one_if_le : (b : Bool) (n m : ℕ) → n ≤ m → one_if b n ≤ suc m
one_if_le true n m h = suc-le-suc h
one_if_le false n m h = omega arith

pub tally_le : (d : ℕ) (l : List ℕ) → tally d l ≤ length l
unfolding tally
tally_le d [] = zero-le
tally_le d (a ∷ l) = one_if_le (eqb a d) (tally d l) (length l) (tally_le d l)

-- an element that is not d leaves room
pub tally_lt : (d : ℕ) (l : List ℕ) (i : ℕ) → i < length l → (get_or l i 0 ≡ d → ⊥) → tally d l < length l
tally_lt d l i h k = omega (arith, tally_add d l i h k, tally_le d (set l i d), length-set l i d)

pub tally_all : (d : ℕ) (l : List ℕ) → ((i : ℕ) → i < length l → get_or l i 0 ≡ d) → tally d l ≡ length l
unfolding tally
tally_all d [] h = refl
tally_all d (a ∷ l) h = simp (eq-eqb a d (h 0 (suc-le-suc zero-le)), tally_all d l (λ i k. h (suc i) (suc-le-suc k)))

pub tally_none : (d : ℕ) (l : List ℕ) → ((i : ℕ) → get_or l i 0 ≡ d → ⊥) → tally d l ≡ 0
unfolding tally
tally_none d [] h = refl
tally_none d (a ∷ l) h = simp (ne_eqb a d (h 0), tally_none d l (λ i. h (suc i)))

-- ---- room

-- a mark that rises takes room
pub room_less : (l : List ℕ) (i v : ℕ) → i < length l → get_or l i 0 < v → v ≤ done_mark → room (set l i v) < room l
unfolding room
room_less [] i v h k e = absurd (not-suc-le-zero h)
room_less (a ∷ l) zero v h k e = omega arith
room_less (a ∷ l) (suc i) v h k e = omega (arith, room_less l i v (le_of_suc-le-suc h) k e)
