-- The check of a file goes by its first bytes: a refusal other than 1 stays whatever follows, a sound file with bytes after it is refused 8
-- at the first of them, and 1 is given only to a file shorter than the longest. So the first 8,137 bytes decide. Assumes nothing.
use mathlib.Core.Path.{◌≡◌, ◌∙◌, refl, sym, ap, subst}
use mathlib.Core.Logic.{◌⊎◌, inl, inr, ⊎_elim}
use mathlib.Core.Bool.{Bool, true, false}
use Rattle.std.specs.Prelude.{Ok, Err}
use mathlib.Core.List.{List, ◌++◌}
use Prim.Native.Nat.{ℕ, zero, suc, ◌+◌, ◌*◌, ◌≤◌, ◌<◌}
use native.Mathlib.Decide.{dec_lt}
use native.Mathlib.Omega.{arith}
use borrow.Author.Tests.{lt-ltb, ltb-true}
use lib.Dec.{ltb}
use native.Mathlib.Nat.{add-zero}
use lib.ListN.{length, take, drop, length-append, length-drop, length-take, take-append-drop, get_or-append}
use lib.Seq.{take_all, drop-append-le}
use Rattle.slicefile.specs.Format.{slice_tag, end_tag, record_length, slice_count, input_count}
use Rattle.slicefile.specs.declared.Reason.TheVariants.{Cut, BytesAfterEnd}
use Rattle.slicefile.specs.declared.Refusal.{Refusal}
use Rattle.slicefile.specs.declared.Size.{Size}
use Rattle.slicefile.specs.Refusals.{refused, sized, Tested, Verdict}
use Rattle.rules.specs.Rules.{given}
use Rattle.framing.specs.Framing.{header_refusal, slice_refusal, size_refusal}
use Rattle.framing.proofs.RecordLaws.{header_whole, slice_whole, size_whole, size_tells}
use Rattle.framing.proofs.PrefixLaws.{header_stays, header_cut, slice_stays, slice_cut, size_stays, size_cut}
use Rattle.column.specs.File.{size_length, file_limit}
use Rattle.column.specs.Check.{first_bad, check_end, check_slices, check_file}
use Rattle.column.specs.Judge.{Judged, bad, accepted, loop}
use Rattle.column.proofs.Places.{start_from, file_within, size_inside, length_stays}
use Rattle.column.proofs.CheckLaws.{bad_first, good_first}
use Rattle.column.proofs.SoundLaws.{sound_first, sound_file}

-- a refusal is the first record's, or the rest's
bad_cases : (t : Tested) (place : ℕ) (rest : Verdict) {r : Refusal} → first_bad t place rest ≡ Err r → ((t ≡ Ok tt) × (rest ≡ Err r)) ⊎ (t ≡ Err r.reason)
bad_cases (Ok u) place rest e = inl (refl, e)
bad_cases (Err a) place rest {r} e =
    let f : refused a place ≡ r = cc in
    inr (ap (λ (q : Refusal). Err q.reason) f)

-- a record whose refusal does not change, and the rest likewise
first_stays :
    (t t' : Tested) (place : ℕ) (rest rest' : Verdict) {r : Refusal} → (r.reason ≡ Cut → ⊥) → ((t ≡ Err Cut → ⊥) → t' ≡ t)
    → (t ≡ Ok tt → rest ≡ Err r → rest' ≡ Err r) → first_bad t place rest ≡ Err r → first_bad t' place rest' ≡ Err r
first_stays (Ok u) t' place rest rest' ne same later e = good_first t' place rest' (same (λ z. cc z)) ∙ later refl e
first_stays (Err a) t' place rest rest' {r} ne same later e =
    let f : refused a place ≡ r = cc in
    let other : ◌≡◌ {A = Tested} (Err a) (Err Cut) → ⊥ = λ z. ne (sym (ap (λ (q : Refusal). q.reason) f) ∙ cc z) in
    sym (bad_first t' place rest' (same other)) ∙ e

-- bytes after the end record stay
over_stays :
    (t t' : Bool) (place n m : ℕ) {r : Refusal} → (t ≡ true → t' ≡ true) → first_bad (given BytesAfterEnd t) place (Ok (sized n m)) ≡ Err r
    → first_bad (given BytesAfterEnd t') place (Ok (sized n m)) ≡ Err r
over_stays true t' place n m f e = rw (f refl) e
over_stays false t' place n m f e = absurd (cc e)

module _ (n m : ℕ) (x : List ℕ) where
  end_stays : (place : ℕ) (bytes : List ℕ) {r : Refusal} → (r.reason ≡ Cut → ⊥) → check_end n m place bytes ≡ Err r → check_end n m place (bytes ++ x) ≡ Err r
  unfolding check_end
  end_stays place bytes ne =
      first_stays (header_refusal end_tag bytes) (header_refusal end_tag (bytes ++ x)) place _ _ ne (header_stays end_tag bytes x)
      (λ z. over_stays (ltb (record_length end_tag) (length bytes)) (ltb (record_length end_tag) (length (bytes ++ x))) (place + record_length end_tag) n m
      (λ t. lt-ltb (record_length end_tag) (length (bytes ++ x)) (omega (arith, ltb-true (record_length end_tag) (length bytes) t, length-append bytes x))))

  slices_stay : (left s place : ℕ) (bytes : List ℕ) {r : Refusal} → (r.reason ≡ Cut → ⊥) → check_slices n m left s place bytes ≡ Err r
      → check_slices n m left s place (bytes ++ x) ≡ Err r
  unfolding check_slices
  slices_stay zero s place bytes ne e = end_stays place bytes ne e
  slices_stay (suc left) s place bytes ne e =
      first_stays (slice_refusal n m s bytes) (slice_refusal n m s (bytes ++ x)) place _ _ ne (slice_stays n m s bytes x)
      (λ z later. rw (drop-append-le (record_length slice_tag) bytes x (slice_whole n m s bytes z))
      (slices_stay left (suc s) (place + record_length slice_tag) (drop (record_length slice_tag) bytes) ne later))
      e

  -- sound slices with bytes after them
  module _ (some : 0 < length x) where
    end_over : (place : ℕ) (bytes : List ℕ) {size : Size} → check_end n m place bytes ≡ Ok size → check_end n m place (bytes ++ x) ≡ Err (refused BytesAfterEnd (place + record_length end_tag))
    unfolding check_end
    end_over place bytes e =
        let z = (sound_first (header_refusal end_tag bytes) place _ e).0 in
        let more : ltb (record_length end_tag) (length (bytes ++ x)) ≡ true = lt-ltb (record_length end_tag) (length (bytes ++ x)) (omega (arith, header_whole end_tag bytes z, length-append bytes x)) in
        simp (header_stays end_tag bytes x (λ o. cc (sym z ∙ o)), z, more)

    slices_over : (left s place : ℕ) (bytes : List ℕ) {size : Size} → check_slices n m left s place bytes ≡ Ok size
        → check_slices n m left s place (bytes ++ x) ≡ Err (refused BytesAfterEnd (place + record_length slice_tag * left + record_length end_tag))
    unfolding check_slices
    slices_over zero s place bytes e = rw (add-zero place) (end_over place bytes e)
    slices_over (suc left) s place bytes e =
        let r = sound_first (slice_refusal n m s bytes) place _ e in
        let next = place + record_length slice_tag in
        let f : place + record_length slice_tag * suc left ≡ next + record_length slice_tag * left = omega arith in
        good_first (slice_refusal n m s (bytes ++ x)) place _ (slice_stays n m s bytes x (λ o. cc (sym r.0 ∙ o)) ∙ r.0)
        ∙ rw (drop-append-le (record_length slice_tag) bytes x (slice_whole n m s bytes r.0), f) (slices_over left (suc s) next (drop (record_length slice_tag) bytes) r.1)

-- slices that are cut
slices_cut : (n m left s place : ℕ) (bytes : List ℕ) {r : Refusal} → r.reason ≡ Cut → check_slices n m left s place bytes ≡ Err r
    → length bytes < record_length slice_tag * left + record_length end_tag
unfolding check_slices check_end
slices_cut n m zero s place bytes {r} o e =
    ⊎_elim (λ h. absurd (over_not_cut (ltb (record_length end_tag) (length bytes)) h.1)) (λ h. omega (arith, header_cut end_tag bytes (rw o at h)))
    (bad_cases (header_refusal end_tag bytes) place _ e)
  where
    over_not_cut : (t : Bool) → first_bad (given BytesAfterEnd t) (place + record_length end_tag) (Ok (sized n m)) ≡ Err r → ⊥
    over_not_cut true e =
        let f : refused BytesAfterEnd (place + record_length end_tag) ≡ r = cc in
        let z : BytesAfterEnd ≡ Cut = ap (λ (q : Refusal). q.reason) f ∙ o in
        cc z
    over_not_cut false e = cc e
slices_cut n m (suc left) s place bytes o e =
    ⊎_elim
    (λ h. omega (arith, slices_cut n m left (suc s) (place + record_length slice_tag) (drop (record_length slice_tag) bytes) o h.1, length-drop (record_length slice_tag) bytes))
    (λ h. omega (arith, slice_cut n m s bytes (rw o at h)))
    (bad_cases (slice_refusal n m s bytes) place _ e)

module _ (file x : List ℕ) where
  -- n and m stand in a whole size record
  pub count_stays : size_refusal file ≡ Ok tt → slice_count (file ++ x) ≡ slice_count file
  count_stays z = get_or-append file x 0 3 (omega (arith, size_whole file z))

  pub inputs_stay : size_refusal file ≡ Ok tt → input_count (file ++ x) ≡ input_count file
  inputs_stay z = get_or-append file x 0 4 (omega (arith, size_whole file z))

  -- a refusal other than 1 is certain from the bytes seen
  pub check_stays : {r : Refusal} → (r.reason ≡ Cut → ⊥) → check_file file ≡ Err r → check_file (file ++ x) ≡ Err r
  unfolding check_file
  check_stays ne e =
      first_stays (size_refusal file) (size_refusal (file ++ x)) 0 _ _ ne (size_stays file x)
      (λ z later. rw (count_stays z, inputs_stay z, length_stays file x, drop-append-le (size_length file) file x (size_inside file z))
      (slices_stay (slice_count file) (input_count file) x (slice_count file) 0 (size_length file) (drop (size_length file) file) ne later))
      e

  -- bytes after a sound file are refused at the first of them
  pub check_over : {size : Size} → 0 < length x → check_file file ≡ Ok size → check_file (file ++ x) ≡ Err (refused BytesAfterEnd (length file))
  unfolding check_file
  check_over some e =
      let f = sound_file file e in
      let r = sound_first (size_refusal file) 0 _ e in
      let at : size_length file + record_length slice_tag * slice_count file + record_length end_tag ≡ length file = rw (f.count, ← start_from) (sym f.size) in
      good_first (size_refusal (file ++ x)) 0 _ (size_stays file x (λ o. cc (sym r.0 ∙ o)) ∙ r.0)
      ∙ rw (count_stays r.0, inputs_stay r.0, length_stays file x, drop-append-le (size_length file) file x (size_inside file r.0), ← at)
      (slices_over (slice_count file) (input_count file) x some (slice_count file) 0 (size_length file) (drop (size_length file) file) r.1)

-- bytes that run out are fewer than the longest file's
pub check_cut : (file : List ℕ) {r : Refusal} → r.reason ≡ Cut → check_file file ≡ Err r → length file < file_limit
unfolding check_file
check_cut file o e =
    ⊎_elim
    (λ h. omega (arith, slices_cut (slice_count file) (input_count file) (slice_count file) 0 (size_length file) (drop (size_length file) file) o h.1, length-drop (size_length file) file, start_from file (slice_count file), file_within file (slice_count file) (size_tells file h.0).1))
    (λ h. omega (arith, size_cut file (rw o at h)))
    (bad_cases (size_refusal file) 0 _ e)

-- a sound file is no longer than the longest
pub sound_short : (file : List ℕ) {size : Size} → check_file file ≡ Ok size → length file ≤ file_limit
sound_short file {size} e = let f = sound_file file e in omega (arith, f.size, file_within file size.n f.slices_fit)

-- bytes enough for the longest file: a refusal stays, and a sound file is the longest, so that more bytes are refused behind it
pub full_bad : (start rest : List ℕ) {r : Refusal} → file_limit ≤ length start → check_file start ≡ Err r → Judged (start ++ rest) (Err r)
full_bad start rest long e = bad (check_stays start rest (λ z. omega (arith, check_cut start z e)) e)

pub full_over : (start rest : List ℕ) {size : Size} → length start ≡ file_limit → 0 < length rest → check_file start ≡ Ok size
    → Judged (start ++ rest) (Err (refused BytesAfterEnd file_limit))
full_over start rest full some e = bad (rw full at (check_over start rest some e))

-- one byte more than that decides
decided : (start rest : List ℕ) {v : Verdict} → file_limit < length start → Judged start v → Judged (start ++ rest) v
decided start rest long (bad e) = full_bad start rest (omega arith) e
decided start rest long (accepted e free) = absurd (omega (arith, sound_short start e))
decided start rest long (loop e below on least) = absurd (omega (arith, sound_short start e))

-- a file is decided by its first 8,137 bytes
pub start_decides : (file : List ℕ) {v : Verdict} → Judged (take (file_limit + 1) file) v → Judged file v
start_decides file {v} j = by_length (dec_lt (file_limit + 1) (length file))
  where
    by_length : Dec (file_limit + 1 < length file) → Judged file v
    by_length (yes more) =
        subst (λ (f : List ℕ). Judged f v) (take-append-drop (file_limit + 1) file)
        (decided (take (file_limit + 1) file) (drop (file_limit + 1) file) (omega (arith, length-take (file_limit + 1) file)) j)
    by_length (no all) = subst (λ (f : List ℕ). Judged f v) (take_all (file_limit + 1) file (omega arith)) j
