-- The reader's three words: every state is read and written back as it was, and what a call hands on fits. Assumes nothing.
use mathlib.Core.Path.{◌≡◌, ◌∙◌, refl, sym, ap, subst}
use mathlib.Core.Bool.{Bool, true, false}
use Rattle.std.specs.Prelude.{Some, None, Ok, Err}
use mathlib.Core.List.{List, [], ◌∷◌}
use Prim.Native.Nat.{ℕ, ◌/◌, ◌%◌, ◌^◌, ◌≤◌, ◌<◌}
use native.Mathlib.Decide.{ℕ_discrete}
use native.Mathlib.Omega.{arith}
use borrow.Author.Tests.{eq-eqb, ne_eqb}
use lib.Dec.{eqb}
use lib.ListN.{length, get_or, set}
use Rattle.slicefile.specs.Format.{slice_limit}
use Rattle.slicefile.specs.declared.Reason.{Reason}
use Rattle.slicefile.specs.declared.Reason.TheVariants.{WrongBuffer, OutOfRange}
use Rattle.slicefile.specs.Refusals.{number, reason_of, refused as refused_at, sized, Verdict}
use Rattle.slicefile.proofs.Reasons.{number_of}
use Rattle.column.specs.Check.{check_from}
use Rattle.column.specs.File.{file_limit}
use Rattle.column.proofs.Bounds.{SmallChecked, from_small}
use Rattle.stream.specs.declared.Reader.{Reader}
use Rattle.stream.specs.declared.Fed.{Fed}
use Rattle.stream.specs.Feeding.{Reply, foreign, Hears, judged, certain, waits, Keeps, FeedsBy, Feeds}
use Rattle.stream.proofs.Hearing.{given_early}
use Rattle.stream.proofs.Taking.{own_passed}
use Rattle.quagmuffin.specs.Packed.{pack_verdict, unpack_refusal, unpack_verdict, Fits, SmallVerdict}
use Rattle.quagmuffin.specs.Serial.{state_length, pack_reply, unpack_reply, FitsReply, reader_of, loaded, words_of}
use Rattle.quagmuffin.proofs.Small.{judged_small, small_fits}

-- ---- a number, unpacked
module _ (i : ℕ) where
  unpack_accepted : i % 256 ≡ 0 → Ok (sized (i / 256 % 65536) (i / 16777216)) ≡ unpack_verdict i
  unpack_accepted e = rw (eq-eqb (i % 256) 0 e)

  unpack_refused : (i % 256 ≡ 0 → ⊥) → Err (unpack_refusal i) ≡ unpack_verdict i
  unpack_refused ne = rw (ne_eqb (i % 256) 0 ne)

  pub told_more : i ≡ 0 → unpack_reply i ≡ None
  told_more e = rw (eq-eqb i 0 e)

  pub told_verdict : (i ≡ 0 → ⊥) → unpack_reply i ≡ Some (unpack_verdict i)
  told_verdict ne = rw (ne_eqb i 0 ne)

  -- it fits
  module _ (word : i < 2 ^ 64) where
    verdict_fits : Fits (unpack_verdict i)
    verdict_fits = by_low (ℕ_discrete (i % 256) 0)
      where
        by_low : Dec (i % 256 ≡ 0) → Fits (unpack_verdict i)
        by_low (yes e) = subst Fits (unpack_accepted e) (omega arith, omega arith)
        by_low (no ne) = subst Fits (unpack_refused ne) (rw (number_of (i % 256)) (omega arith), omega arith)

    reply_fits : FitsReply (unpack_reply i)
    reply_fits = by_number (ℕ_discrete i 0)
      where
        by_number : Dec (i ≡ 0) → FitsReply (unpack_reply i)
        by_number (yes e) = subst FitsReply (sym (told_more e)) tt
        by_number (no ne) = subst FitsReply (sym (told_verdict ne)) verdict_fits

  -- and is the same number packed again
  verdict_again : pack_verdict (unpack_verdict i) ≡ i
  verdict_again = by_low (ℕ_discrete (i % 256) 0)
    where
      by_low : Dec (i % 256 ≡ 0) → pack_verdict (unpack_verdict i) ≡ i
      by_low (yes e) = ap pack_verdict (sym (unpack_accepted e)) ∙ omega arith
      by_low (no ne) = ap pack_verdict (sym (unpack_refused ne)) ∙ rw (number_of (i % 256)) (omega arith)

  pub reply_again : pack_reply (unpack_reply i) ≡ i
  reply_again = by_number (ℕ_discrete i 0)
    where
      by_number : Dec (i ≡ 0) → pack_reply (unpack_reply i) ≡ i
      by_number (yes e) = ap pack_reply (told_more e) ∙ sym e
      by_number (no ne) = ap pack_reply (told_verdict ne) ∙ verdict_again

-- ---- three words
pub three_stored : (l : List ℕ) (a b c : ℕ) → length l ≡ state_length → set (set (set l 0 a) 1 b) 2 c ≡ a ∷ b ∷ c ∷ []
three_stored (x ∷ y ∷ z ∷ []) a b c e = refl
three_stored (x ∷ y ∷ z ∷ w ∷ l) a b c e = absurd (omega arith)
three_stored (x ∷ y ∷ []) a b c e = absurd (omega arith)
three_stored (x ∷ []) a b c e = absurd (omega arith)
three_stored [] a b c e = absurd (omega arith)

three_read : (l : List ℕ) → length l ≡ state_length → get_or l 0 0 ∷ get_or l 1 0 ∷ get_or l 2 0 ∷ [] ≡ l
three_read (x ∷ y ∷ z ∷ []) e = refl
three_read (x ∷ y ∷ z ∷ w ∷ l) e = absurd (omega arith)
three_read (x ∷ y ∷ []) e = absurd (omega arith)
three_read (x ∷ []) e = absurd (omega arith)
three_read [] e = absurd (omega arith)

-- a state is read and written back as it was
pub words_again : (state : List ℕ) → length state ≡ state_length → words_of (reader_of state) ≡ state
words_again state e = ap (λ (w : ℕ). get_or state 0 0 ∷ get_or state 1 0 ∷ w ∷ []) (reply_again (get_or state 2 0)) ∙ three_read state e

-- ---- what holds of the verdicts of a small number and place, and of what was said before, holds of what a call says and hands on
module _ (P : Reply → Type 0) (small : (v : Verdict) → SmallVerdict v → P (Some v)) (waiting : P None) where
  hears_all : (bytes : List ℕ) {len passed : ℕ} {b : Bool} {next : Reader} → passed ≤ slice_limit → Hears bytes len passed b next → P next.said
  hears_all bytes own (judged {v} j) = small v (judged_small bytes j)
  hears_all bytes {passed = passed} own (certain e) =
      let g = given_early (check_from passed bytes) e in
      let s : SmallChecked (Err g.0) = subst SmallChecked g.1 (from_small bytes passed own) in
      subst (λ (v : Verdict). P (Some v)) g.3 (small (Err g.0) (s.0, omega (arith, s.1), s.2, s.3))
  hears_all bytes own (waits e) = waiting

  module _ (r : Reader) (store run : List ℕ) (last : Bool) (fed : Fed) (after : List ℕ) (before : P r.said) where
    abbrev Both : Type 0
    Both = P fed.reply × P fed.reader.said

    keeps_all : {reply : Reply} → P reply → Keeps reply r store fed after → Both
    keeps_all f k = (subst P (sym k.says) f, subst (λ (x : Reader). P x.said) (sym k.same) before)

    turned : (k : Reason) → 1 ≤ number k → number k ≤ 11 → reason_of (number k) ≡ k → P (Some (Err (refused_at k 0)))
    turned k l h e = small (Err (refused_at k 0)) (l, h, omega arith, e)

    by_row : (full : Bool) (said : Reply) (strange : Bool) → r.said ≡ said → foreign r ≡ strange → FeedsBy full said strange r store run last fed after → Both
    by_row false said strange e f k = keeps_all (turned WrongBuffer (omega arith) (omega arith) refl) k
    by_row true (Some v) strange e f k = keeps_all (subst P e before) k
    by_row true None true e f k = keeps_all (turned OutOfRange (omega arith) (omega arith) refl) k
    by_row true None false e f k = let h = hears_all _ (own_passed r f) k.takes.hears in (subst P (sym k.says) h, h)

    pub feeds_all : Feeds r store run last fed after → Both
    feeds_all f = by_row (eqb (length store) file_limit) r.said (foreign r) refl refl f.by

-- ---- what the exported call says and hands on fits
pub loaded_length : (state : List ℕ) {r : Reader} → loaded state ≡ Some r → length state ≡ state_length
loaded_length state {r} e = by_length (ℕ_discrete (length state) state_length)
  where
    by_length : Dec (length state ≡ state_length) → length state ≡ state_length
    by_length (yes three) = three
    by_length (no ne) = absurd (cc (e, ne_eqb (length state) state_length ne))

loaded_reader : (state : List ℕ) {r : Reader} → loaded state ≡ Some r → r ≡ reader_of state
loaded_reader state {r} e = by_length (ℕ_discrete (length state) state_length)
  where
    by_length : Dec (length state ≡ state_length) → r ≡ reader_of state
    by_length (yes three) = cc (e, eq-eqb (length state) state_length three)
    by_length (no ne) = absurd (cc (e, ne_eqb (length state) state_length ne))

module _
    (state : List ℕ) {store run : List ℕ} {last : Bool} {r : Reader} {fed : Fed} {after : List ℕ} (e : loaded state ≡ Some r) (word : get_or state 2 0 < 2 ^ 64)
    (f : Feeds r store run last fed after)
  where
    both_fit : FitsReply fed.reply × FitsReply fed.reader.said
    both_fit =
        let said : FitsReply r.said = subst (λ (x : Reader). FitsReply x.said) (sym (loaded_reader state e)) (reply_fits (get_or state 2 0) word) in
        feeds_all FitsReply small_fits tt r store run last fed after said f

    pub reply_packs : FitsReply fed.reply
    reply_packs = both_fit.0

    pub said_packs : FitsReply fed.reader.said
    said_packs = both_fit.1
