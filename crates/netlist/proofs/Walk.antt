-- A walk along a list, one element more at a time. Assumes nothing.
use mathlib.Core.Path.{◌≡◌, refl, ◌∙◌, ap}
use mathlib.Core.List.{List, [], ◌∷◌, ◌++◌}
use Prim.Native.Nat.{ℕ, zero, suc, ◌+◌, ◌≤◌, ◌<◌}
use native.Mathlib.Nat.{le_refl, le_of_suc-le}
use native.Mathlib.Numerals.{add-one}
use lib.ListN.{length, get_or, take}
use lib.Seq.{take-suc, take-length}
use Rattle.netlist.specs.Settle.{walk}

module _ {S : Type 0} (f : S → ℕ → S) where
  pub walk_append : (xs ys : List ℕ) (s : S) → walk f s (xs ++ ys) ≡ walk f (walk f s xs) ys
  walk_append [] ys s = refl
  walk_append (x ∷ xs) ys s = walk_append xs ys (f s x)

  -- one element more
  pub walk_suc : (order : List ℕ) (i : ℕ) (s : S) → i < length order → walk f s (take (suc i) order) ≡ f (walk f s (take i order)) (get_or order i 0)
  walk_suc order i s h =
      ap (λ (l : List ℕ). walk f s l) (take-suc order i 0 h) ∙ walk_append (take i order) (get_or order i 0 ∷ []) s

  -- what holds at the start and is kept by each element of the list holds at the end
  pub walk_induct :
      (P : ℕ → S → Type 0) (order : List ℕ) (s : S) → P 0 s
      → ((i : ℕ) → i < length order → (r : S) → P i r → P (i + 1) (f r (get_or order i 0)))
      → P (length order) (walk f s order)
  walk_induct P order s start next = rw take-length at (go (length order) (le_refl (length order)))
    where
      go : (i : ℕ) → i ≤ length order → P i (walk f s (take i order))
      go zero h = start
      go (suc i) h = rw (walk_suc order i s h, ← add-one i) (next i h (walk f s (take i order)) (go i (le_of_suc-le h)))
