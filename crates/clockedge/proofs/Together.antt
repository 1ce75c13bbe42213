-- The state while the slices move, one after another: what has moved is what the edge leaves, from the state before it, and the rest is as it was.
-- Assumes nothing.
use mathlib.Core.Path.{◌≡◌, ◌∙◌, ap}
use mathlib.Core.Logic.{inl, inr}
use mathlib.Core.List.{List}
use Prim.Native.Nat.{ℕ, ◌+◌, ◌*◌, ◌/◌, ◌%◌, ◌≤◌, ◌<◌}
use native.Mathlib.Decide.{dec_lt}
use native.Mathlib.Omega.{arith}
use lib.ListN.{length, get_or, set, length-set}
use lib.Seq.{get_or-set_other}
use Rattle.slicefile.proofs.Filling.{Filled, filled_next, filled_all}
use Rattle.clockedge.specs.Moves.{edge_at, flops_by, word_by, words_by, bytes_by}
use Rattle.clockedge.specs.Moved.{Moved}

module _ (wires edges words bytes : List ℕ) where
  -- word t and flip-flop byte s after the edge
  abbrev word : ℕ → ℕ
  word t = word_by wires (edge_at edges (t / 4)) (t % 4) (get_or words t 0) (get_or words (t + 1) 0)

  abbrev byte : ℕ → ℕ
  byte s = flops_by wires (edge_at edges s) (get_or bytes s 0)

  -- slices below s have moved
  pub record MovedTo (s : ℕ) (contents flops : List ℕ) : Type 0 where
    pub contents_size : length contents ≡ length words
    pub flops_size : length flops ≡ length bytes
    pub contents_moved : Filled word (4 * s) contents
    pub contents_kept : (i : ℕ) → 4 * s ≤ i → get_or contents i 0 ≡ get_or words i 0
    pub flops_moved : Filled byte s flops
    pub flops_kept : (i : ℕ) → s ≤ i → get_or flops i 0 ≡ get_or bytes i 0

  pub moved_next :
      (s : ℕ) (contents flops contents' flops' : List ℕ) → s < length flops → MovedTo s contents flops → Moved wires (edge_at edges s) s 4 contents contents'
      → flops' ≡ set flops s (flops_by wires (edge_at edges s) (get_or flops s 0)) → MovedTo (s + 1) contents' flops'
  moved_next s contents flops contents' flops' fits before moves e =
      record {
        contents_size = moves.long ∙ before.contents_size;
        flops_size = ap length e ∙ simp length-set before.flops_size;
        contents_moved = λ i h. by_place i h (dec_lt i (4 * s));
        contents_kept = λ i h. moves.kept i (inr (omega arith)) ∙ before.contents_kept i (omega arith);
        flops_moved = rw e (filled_next byte s flops _ fits (ap (flops_by wires (edge_at edges s)) (before.flops_kept s (omega arith))) before.flops_moved);
        flops_kept = λ i h. rw e (get_or-set_other flops s i _ 0 (λ z. omega arith)) ∙ before.flops_kept i (omega arith);
      }
    where
      -- a word of slice s, at its letter
      at_letter : (i : ℕ) → 4 * s ≤ i → i < 4 * (s + 1) → get_or contents' i 0 ≡ word i
      at_letter i low high =
          let slice : i / 4 ≡ s = omega arith in
          let letter : 4 * s + i % 4 ≡ i = omega arith in
          let moved = rw letter at (moves.moved (i % 4) (omega arith)) in
          moved ∙ rw (slice, before.contents_kept i low, before.contents_kept (i + 1) (omega arith))

      by_place : (i : ℕ) → i < 4 * (s + 1) → Dec (i < 4 * s) → get_or contents' i 0 ≡ word i
      by_place i h (yes before') = moves.kept i (inl before') ∙ before.contents_moved i before'
      by_place i h (no late) = at_letter i (omega arith) h

  pub moved_all :
      (n : ℕ) → length words ≡ 4 * n → length bytes ≡ n → {contents flops : List ℕ} → MovedTo n contents flops
      → (contents ≡ words_by wires edges n words) × (flops ≡ bytes_by wires edges n bytes)
  unfolding words_by bytes_by
  moved_all n wl bl {contents} {flops} w =
      (filled_all word (4 * n) contents (w.contents_size ∙ wl) w.contents_moved, filled_all byte n flops (w.flops_size ∙ bl) w.flops_moved)
