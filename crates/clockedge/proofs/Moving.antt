-- The letters of a slice move one after the other, each from the words before the edge. Assumes nothing.
use mathlib.Core.Path.{◌≡◌, ◌∙◌, ap₂}
use mathlib.Core.List.{List}
use mathlib.Core.Logic.{◌⊎◌, inl, inr}
use Prim.Native.Nat.{ℕ, ◌+◌, ◌*◌, ◌≤◌, ◌<◌}
use native.Mathlib.Omega.{arith}
use borrow.Author.Count.{below_more}
use lib.ListN.{length, get_or, set, length-set}
use lib.Seq.{get_or-set_same, get_or-set_other}
use Rattle.clockedge.specs.Moves.{word_by}
use Rattle.clockedge.specs.Moved.{Moved}

module _ (wires e : List ℕ) (s : ℕ) where
  -- the next letter moves
  pub moved_more : (k : ℕ) (old new : List ℕ) (w : ℕ) → Moved wires e s k old new → 4 * s + k < length new
      → w ≡ word_by wires e k (get_or new (4 * s + k) 0) (get_or new (4 * s + k + 1) 0) → Moved wires e s (k + 1) old (set new (4 * s + k) w)
  moved_more k old new w m here is =
      record {
        long = simp length-set m.long;
        moved =
            below_more _ k
            (λ l h. get_or-set_other new (4 * s + k) (4 * s + l) w 0 (λ q. omega arith) ∙ m.moved l h)
            (get_or-set_same new (4 * s + k) w 0 here ∙ is ∙ ap₂ (word_by wires e k) (m.kept (4 * s + k) (inr (omega arith))) (m.kept (4 * s + k + 1) (inr (omega arith))));
        kept = λ i h. get_or-set_other new (4 * s + k) i w 0 (apart i h) ∙ m.kept i (before i h);
      }
    where
      apart : (i : ℕ) → (i < 4 * s) ⊎ (4 * s + (k + 1) ≤ i) → i ≡ 4 * s + k → ⊥
      apart i (inl h) q = omega arith
      apart i (inr h) q = omega arith

      before : (i : ℕ) → (i < 4 * s) ⊎ (4 * s + (k + 1) ≤ i) → (i < 4 * s) ⊎ (4 * s + k ≤ i)
      before i (inl h) = inl h
      before i (inr h) = inr (omega arith)
