-- Buffers that pass, taken apart and put together: what a call doesn't refuse, element by element. Assumes nothing.
use mathlib.Core.Path.{◌≡◌, ◌∙◌, ap}
use mathlib.Core.Bool.{Bool, false, ◌||◌}
use mathlib.Core.List.{List}
use Prim.Native.Nat.{ℕ, ◌*◌, ◌<◌}
use native.Mathlib.Decide.{ℕ_discrete}
use native.Mathlib.Omega.{arith}
use borrow.Author.Tests.{eq-eqb, le-ltb, ltb-false}
use lib.ListN.{length, get_or, set, length-set}
use lib.Seq.{get_or-set_same, get_or-set_other}
use Rattle.netlist.specs.Table.{signal_count}
use Rattle.slicefile.proofs.Tests.{or_left, or_right, none_below, below_none}
use Rattle.std.specs.Prelude.{Ok}
use Rattle.slicefile.specs.declared.Reason.TheVariants.{WrongBuffer, OutOfRange}
use Rattle.slicefile.specs.Refusals.{sized}
use Rattle.rules.specs.Rules.{given}
use Rattle.rules.proofs.Refusals.{given_none, or_else_right}
use Rattle.column.specs.Clock.{State, SettledFor}
use Rattle.column.specs.Judge.{Judged}
use Rattle.column.proofs.Tables.{records_sound, table_bits}
use Rattle.buffers.specs.Buffers.{bad_state, bad_lengths, bad_bytes, bad_word, bad_words, settle_refusal, edit_refusal, GoodState, GoodInputs, GoodValues}
use Rattle.buffers.proofs.Lengths.{settle_lengths, edit_lengths}

-- bytes 0 and 1
pub bytes_good : (bytes : List ℕ) → ((i : ℕ) → i < length bytes → get_or bytes i 0 < 2) → bad_bytes bytes ≡ false
unfolding bad_bytes
bytes_good bytes each = below_none (length bytes) _ (λ i h. le-ltb 1 (get_or bytes i 0) (omega (arith, each i h)))

pub good_bytes : (bytes : List ℕ) → bad_bytes bytes ≡ false → (i : ℕ) → i < length bytes → get_or bytes i 0 < 2
unfolding bad_bytes
good_bytes bytes e i h = omega (arith, ltb-false 1 (get_or bytes i 0) (none_below (length bytes) _ e i h))

-- words that their tables' modes allow
pub words_good : (file contents : List ℕ) → ((t : ℕ) → t < length contents → bad_word file t (get_or contents t 0) ≡ false) → bad_words file contents ≡ false
unfolding bad_words
words_good file contents each = below_none (length contents) _ each

pub good_words : (file contents : List ℕ) → bad_words file contents ≡ false → (t : ℕ) → t < length contents → bad_word file t (get_or contents t 0) ≡ false
unfolding bad_words
good_words file contents e = none_below (length contents) _ e

pub state_good : (n : ℕ) (st : State) → length st.contents ≡ 4 * n → length st.flops ≡ n → bad_state n st ≡ false
unfolding bad_state
state_good n st c f = simp (eq-eqb _ _ c, eq-eqb _ _ f)

-- one element replaced
each_set : (P : ℕ → ℕ → Type 0) (l : List ℕ) (i v : ℕ) → ((k : ℕ) → k < length l → P k (get_or l k 0)) → P i v → (k : ℕ) → k < length (set l i v) → P k (get_or (set l i v) k 0)
each_set P l i v each new k h = at (ℕ_discrete k i)
  where
    inside : k < length l
    inside = rw length-set at h

    at : Dec (k ≡ i) → P k (get_or (set l i v) k 0)
    at (yes e) = rw (e, get_or-set_same l i v 0 (rw (← e) inside)) new
    at (no ne) = rw (get_or-set_other l i k v 0 ne) (each k inside)

pub set_bytes : (bytes : List ℕ) (i v : ℕ) → bad_bytes bytes ≡ false → v < 2 → bad_bytes (set bytes i v) ≡ false
set_bytes bytes i v e h = bytes_good (set bytes i v) (each_set (λ k b. b < 2) bytes i v (good_bytes bytes e) h)

pub set_words : (file contents : List ℕ) (t w : ℕ) → bad_words file contents ≡ false → bad_word file t w ≡ false → bad_words file (set contents t w) ≡ false
set_words file contents t w e h = words_good file (set contents t w) (each_set (λ k v. bad_word file k v ≡ false) contents t w (good_words file contents e) h)

module _ (file : List ℕ) (st : State) (inputs values : List ℕ) (n m : ℕ) where
  lengths_good : GoodState file n st → length inputs ≡ m → length values ≡ signal_count n → bad_lengths n m st inputs values ≡ false
  unfolding bad_lengths
  lengths_good s i v = simp (s.0, eq-eqb _ _ i, eq-eqb _ _ v)

  -- settle and clock refuse neither a good state nor good inputs, whatever the values
  pub settle_good : GoodState file n st → GoodInputs m inputs → length values ≡ signal_count n → settle_refusal file st inputs values n m ≡ Ok tt
  unfolding settle_refusal
  settle_good s i v = rw (lengths_good s i.0 v, i.1, s.1)

  pub settle_tells : settle_refusal file st inputs values n m ≡ Ok tt → GoodState file n st × GoodInputs m inputs
  unfolding settle_refusal
  settle_tells e =
      let l = settle_lengths file st inputs values n m e in
      let z = given_none OutOfRange _ (or_else_right (given WrongBuffer (bad_lengths n m st inputs values)) _ e) in
      ((state_good n st l.contents l.flops, or_right (bad_bytes inputs) _ z), (l.inputs, or_left (bad_bytes inputs) _ z))

  module _ (argument : Bool) where
    -- nor do the edits, with good values and a good list
    pub edit_good : GoodState file n st → GoodInputs m inputs → GoodValues n values → argument ≡ false → edit_refusal argument file st inputs values n m ≡ Ok tt
    unfolding edit_refusal
    edit_good s i v a = rw (lengths_good s i.0 v.0, i.1, v.1, s.1, a)

    pub edit_tells : edit_refusal argument file st inputs values n m ≡ Ok tt → GoodState file n st × GoodInputs m inputs × GoodValues n values
    unfolding edit_refusal
    edit_tells e =
        let l = edit_lengths argument file st inputs values n m e in
        let z = given_none OutOfRange _ (or_else_right (given WrongBuffer (bad_lengths n m st inputs values)) _ e) in
        let w = or_left (bad_bytes inputs || bad_bytes values || bad_words file st.contents) argument z in
        let b = or_left (bad_bytes inputs || bad_bytes values) (bad_words file st.contents) w in (
          (state_good n st l.contents l.flops, or_right (bad_bytes inputs || bad_bytes values) _ w),
          (l.inputs, or_left (bad_bytes inputs) (bad_bytes values) b),
          (l.values, or_right (bad_bytes inputs) (bad_bytes values) b),
        )

-- the settled table of an accepted file
pub settled_good : (file : List ℕ) {n m : ℕ} → Judged file (Ok (sized n m)) → (st : State) (inputs values : List ℕ) → SettledFor file st inputs values → GoodValues n values
settled_good file {n} j st inputs values s =
    let long : length values ≡ signal_count n = s.size ∙ ap signal_count (records_sound file j).count in
    (long, bytes_good values (λ i h. table_bits file j st inputs values s i (omega arith)))
