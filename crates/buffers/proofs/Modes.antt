-- By the numbers of a plan a call refuses its buffers just where the file does. Assumes nothing.
use mathlib.Core.Path.{◌≡◌, refl, sym, ◌∙◌, ap}
use mathlib.Core.Bool.{Bool, true, false, ◌||◌, cond}
use mathlib.Core.List.{List}
use Prim.Native.Nat.{ℕ, zero, suc, ◌+◌, ◌*◌, ◌/◌, ◌%◌, ◌≤◌, ◌<◌}
use native.Mathlib.Omega.{arith}
use borrow.Author.Tests.{leb-false}
use lib.Dec.{eqb, leb}
use lib.ListN.{length, get_or, drop}
use lib.Seq.{get_or-take, get_or-drop}
use Rattle.slicefile.specs.Format.{mode, shift_data}
use Rattle.slicefile.specs.Refusals.{Tested}
use Rattle.slicefile.proofs.Tests.{any_same}
use Rattle.rules.proofs.Letters.{mode_listed}
use Rattle.clocknumbers.specs.Numbers.{edge_length, kind_place, kind_of}
use Rattle.clockedge.specs.Moves.{edge_at}
use Rattle.clockedge.proofs.Places.{kind_at}
use Rattle.column.specs.Clock.{State}
use Rattle.column.specs.File.{slice_body}
use Rattle.column.proofs.SoundLaws.{body_good}
use Rattle.plan.specs.Plan.{plan_edges, Ready}
use Rattle.plan.proofs.Plans.{ready_sound}
use Rattle.buffers.specs.Buffers.{bad_lengths, bad_word, bad_words, settle_refusal_by, settle_refusal, edit_refusal_by, edit_refusal, bad_table, kind_in, bad_word_by, bad_words_by, bad_table_by}
use Rattle.buffers.proofs.Lengths.{lengths}

-- shift mode by its kind
kind_shift : (x d : ℕ) → x ≤ 2 → leb 2 (kind_of x d) ≡ eqb x 2
unfolding kind_of
kind_shift zero d h = refl
kind_shift (suc zero) d h = refl
kind_shift (suc (suc zero)) d h = by (eqb d 1)
  where
    by : (t : Bool) → leb 2 (cond t 3 2) ≡ true
    by true = refl
    by false = refl
kind_shift (suc (suc (suc x))) d h = absurd (omega arith)

module _ (file : List ℕ) {n m : ℕ} {plan : List ℕ} (r : Ready file n m plan) where
  abbrev edges : List ℕ
  edges = plan_edges plan n

  word_same : (t w : ℕ) → t < 4 * n → bad_word_by edges t w ≡ bad_word file t w
  unfolding bad_word
  word_same t w h =
      let l : t / 4 < n = omega arith in
      let letter : t % 4 < 4 = omega arith in
      let body = slice_body file (t / 4) in
      let place : edge_length * (t / 4) + (kind_place + t % 4) ≡ edge_length * (t / 4) + kind_place + t % 4 = omega arith in
      let at : kind_in edges t ≡ get_or (edge_at edges (t / 4)) (kind_place + t % 4) 0 =
      ap (λ (i : ℕ). get_or edges i 0) (sym place)
      ∙ sym (get_or-drop (edge_length * (t / 4)) edges (kind_place + t % 4) 0)
      ∙ sym (get_or-take edge_length (drop (edge_length * (t / 4)) edges) (kind_place + t % 4) 0 (omega arith)) in
      rw (at, r.represents.edges (t / 4) l, kind_at n m (t / 4) body (t % 4) letter, kind_shift (mode body (t % 4)) (shift_data body (t % 4)) (mode_listed n m (t / 4) body (body_good file (ready_sound file r) (t / 4) l) (t % 4) letter))

  words_same : (contents : List ℕ) → length contents ≡ 4 * n → bad_words_by edges contents ≡ bad_words file contents
  unfolding bad_words_by bad_words
  words_same contents size = any_same (length contents) _ _ (λ t h. word_same t (get_or contents t 0) (omega arith))

  -- a table and its word
  pub table_same : (table word : ℕ) → bad_table_by edges n table word ≡ bad_table file n table word
  table_same table word = by (leb (4 * n) table) refl
    where
      by : (t : Bool) → leb (4 * n) table ≡ t → (t || bad_word_by edges table word) ≡ (t || bad_word file table word)
      by true e = refl
      by false e = word_same table word (omega (arith, leb-false (4 * n) table e))

  module _ (st : State) (inputs values : List ℕ) where
    by_lengths : (f : Bool → Tested) (i : ℕ) → (bad_lengths n i st inputs values ≡ false → f (bad_words_by edges st.contents) ≡ f (bad_words file st.contents))
    by_lengths f i e = ap f (words_same st.contents (lengths n i st inputs values e).contents)

    -- settling and clocking, with any number of input bytes
    pub settle_same : (i : ℕ) → settle_refusal_by (bad_words_by edges st.contents) st inputs values n i ≡ settle_refusal file st inputs values n i
    unfolding settle_refusal
    settle_same i = by (bad_lengths n i st inputs values) refl
      where
        by : (t : Bool) → bad_lengths n i st inputs values ≡ t
            → settle_refusal_by (bad_words_by edges st.contents) st inputs values n i ≡ settle_refusal_by (bad_words file st.contents) st inputs values n i
        by true e = rw e
        by false e = by_lengths (λ b. settle_refusal_by b st inputs values n i) i e

    -- an edit
    pub edit_same : (bad : Bool) → edit_refusal_by bad (bad_words_by edges st.contents) st inputs values n m ≡ edit_refusal bad file st inputs values n m
    unfolding edit_refusal
    edit_same bad = by (bad_lengths n m st inputs values) refl
      where
        by : (t : Bool) → bad_lengths n m st inputs values ≡ t
            → edit_refusal_by bad (bad_words_by edges st.contents) st inputs values n m ≡ edit_refusal_by bad (bad_words file st.contents) st inputs values n m
        by true e = rw e
        by false e = by_lengths (λ b. edit_refusal_by bad b st inputs values n m) m e
