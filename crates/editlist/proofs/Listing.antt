-- Edits put into words one after another, and the edits of words. Assumes nothing.
use mathlib.Core.Path.{◌≡◌, refl, ◌∙◌, ap, ap₂}
use mathlib.Core.Bool.{Bool, true, false, cond}
use mathlib.Core.List.{List, [], ◌∷◌}
use Prim.Native.Nat.{ℕ, zero, suc, ◌+◌, ◌*◌, ◌/◌, ◌<◌}
use native.Mathlib.Decide.{ℕ_discrete}
use native.Mathlib.Nat.{add-zero}
use native.Mathlib.Omega.{arith}
use borrow.Author.Tests.{ltb-false}
use lib.Dec.{ltb}
use lib.ListN.{length, get_or, set, length-set}
use lib.Seq.{get_or-set_same, get_or-set_other}
use Rattle.editlist.specs.declared.Edit.{Edit}
use Rattle.editlist.specs.Listed.{edit_limit, list_length, edit, none, edit_at, with_edit, edits_from, edits_in, listed_count, Listed}

-- what is taken apart is there, and no more than a list may have
pub count_there : (n : ℕ) {i : ℕ} → i < listed_count n → (i < n) × (i < edit_limit)
count_there n {i} h = by (ltb edit_limit n) refl h
  where
    by : (t : Bool) → ltb edit_limit n ≡ t → i < cond t 0 n → (i < n) × (i < edit_limit)
    by true e l = absurd (omega arith)
    by false e l = (l, omega (arith, ltb-false edit_limit n e))

module _ (words : List ℕ) (long : length words ≡ list_length) (i : ℕ) (few : i < edit_limit) (e : Edit) where
  abbrev one : List ℕ
  one = set words (3 * i) e.kind

  abbrev two : List ℕ
  two = set one (3 * i + 1) e.number

  -- edit i is there
  with_same : edit_at (with_edit words i e) i ≡ e
  with_same = λ t. edit (kind t) (number t) (value t)
    where
      kind : get_or (with_edit words i e) (3 * i) 0 ≡ e.kind
      kind =
          get_or-set_other two (3 * i + 2) (3 * i) e.value 0 (λ q. omega arith) ∙ get_or-set_other one (3 * i + 1) (3 * i) e.number 0 (λ q. omega arith)
          ∙ get_or-set_same words (3 * i) e.kind 0 (omega arith)

      number : get_or (with_edit words i e) (3 * i + 1) 0 ≡ e.number
      number =
          get_or-set_other two (3 * i + 2) (3 * i + 1) e.value 0 (λ q. omega arith)
          ∙ get_or-set_same one (3 * i + 1) e.number 0 (rw length-set (omega arith))

      value : get_or (with_edit words i e) (3 * i + 2) 0 ≡ e.value
      value = get_or-set_same two (3 * i + 2) e.value 0 (rw (length-set, length-set) (omega arith))

  -- another is as it was
  with_apart : (j : ℕ) → (j ≡ i → ⊥) → edit_at (with_edit words i e) j ≡ edit_at words j
  with_apart j ne = λ t. edit (same (3 * j) (omega arith) t) (same (3 * j + 1) (omega arith) t) (same (3 * j + 2) (omega arith) t)
    where
      same : (c : ℕ) → c / 3 ≡ j → get_or (with_edit words i e) c 0 ≡ get_or words c 0
      same c h =
          get_or-set_other two (3 * i + 2) c e.value 0 (λ q. ne (omega arith)) ∙ get_or-set_other one (3 * i + 1) c e.number 0 (λ q. ne (omega arith))
          ∙ get_or-set_other words (3 * i) c e.kind 0 (λ q. ne (omega arith))

  -- the first i edits are in the words, and now edit i is
  pub listed_next : (es : List Edit) → Listed es i words → e ≡ get_or es i none → Listed es (i + 1) (with_edit words i e)
  listed_next es before same j h = by (ℕ_discrete j i)
    where
      by : Dec (j ≡ i) → edit_at (with_edit words i e) j ≡ get_or es j none
      by (yes q) = rw (q) (with_same ∙ same)
      by (no ne) = with_apart j ne ∙ before j (omega arith)

-- the edits of words
pub edits_long : (words : List ℕ) (i k : ℕ) → length (edits_from words i k) ≡ k
edits_long words i zero = refl
edits_long words i (suc k) = ap suc (edits_long words (suc i) k)

edits_from_lem : (words : List ℕ) (es : List Edit) (i : ℕ) → ((j : ℕ) → j < length es → edit_at words (i + j) ≡ get_or es j none) → edits_from words i (length es) ≡ es
edits_from_lem words [] i each = refl
edits_from_lem words (e ∷ es) i each =
    ap₂ (λ (d : Edit) (ds : List Edit). d ∷ ds) (rw (add-zero i) at (each 0 (omega arith)))
    (edits_from_lem words es (suc i) (λ j h. let k : suc i + j ≡ i + suc j = omega arith in rw k (each (suc j) (omega arith))))

-- words that hold all edits of a list hold that list
pub edits_all : (words : List ℕ) (es : List Edit) → Listed es (length es) words → edits_in words (length es) ≡ es
edits_all words es each = edits_from_lem words es 0 (λ j h. let k : 0 + j ≡ j = omega arith in rw k (each j h))
