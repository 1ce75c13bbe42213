-- A run taken into a store: what stands at its front is what was seen, as far as it finds room. Assumes nothing.
use mathlib.Core.Path.{◌≡◌, ◌∙◌, refl, sym, ap, ap₂, subst}
use mathlib.Core.Bool.{Bool, true, false, true≢false, ◌||◌}
use Rattle.std.specs.Prelude.{Some, None, Ok, Err}
use mathlib.Core.List.{List, ◌++◌, append_assoc}
use Prim.Native.Nat.{ℕ, ◌+◌, ◌-◌, ◌≤◌, ◌<◌}
use native.Mathlib.Omega.{arith}
use borrow.Author.Tests.{lt-ltb, le-ltb, ltb-false}
use borrow.Rule.Slice.PartMut.{put_mid}
use lib.Dec.{ltb}
use lib.ListN.{length, take, drop, length-append, length-drop, take-append-drop}
use lib.Seq.{sets, sets-eq, take_at, take_all, length-sets, length-take-le}
use Rattle.slicefile.specs.Format.{slice_limit}
use Rattle.slicefile.specs.declared.Reason.TheVariants.{Cut, BytesAfterEnd}
use Rattle.slicefile.specs.Refusals.{refused, Verdict}
use Rattle.slicerecord.proofs.Stores.{sets_part}
use Rattle.slicefile.proofs.Tests.{or_left, or_right}
use Rattle.column.specs.File.{file_limit}
use Rattle.column.specs.Check.{check_file, check_from}
use Rattle.column.specs.Judge.{Judged}
use Rattle.column.proofs.CheckLaws.{from_start}
use Rattle.column.proofs.PrefixLaws.{check_cut, full_bad, full_over}
use Rattle.stream.specs.declared.Reader.{Reader}
use Rattle.stream.specs.Feeding.{Reply, reader, foreign, seen, fitting, final, early, StaysInside, overfull, Hears, judged, certain, waits, Takes}
use Rattle.stream.proofs.Hearing.{more_or_given, early_other, given_early, hears_all, hears_more}

-- ---- stores

-- values stored from a place on: what stands up to their end
pub front_stored : (l vs : List ℕ) (i : ℕ) → i + length vs ≤ length l → take (i + length vs) (sets l i vs) ≡ take i l ++ vs
front_stored l vs i h =
    ap (take (i + length vs)) (sets-eq vs l i h)
    ∙ take_at (take i l ++ vs) (drop (i + length vs) l) (i + length vs) (length-append (take i l) vs ∙ ap (λ (k : ℕ). k + length vs) (length-take-le i l (omega arith)))

-- a part of a list, written in one go, is a run stored
pub part_stored : (l xs : List ℕ) (at k : ℕ) {ys : List ℕ} → k ≡ length xs → at + length xs ≤ length l → ys ≡ xs → put_mid at k l ys ≡ sets l at xs
part_stored l xs at k {ys} size h e =
    let same : k ≡ at + length xs - at = omega arith in
    ap (λ (j : ℕ). put_mid at j l ys) same ∙ sets_part l xs at h e

-- ---- tests

or_true : (a : Bool) → (a || true) ≡ true
or_true true = refl
or_true false = refl

or_false : (a : Bool) → (a || false) ≡ a
or_false true = refl
or_false false = refl

-- a state that a call may have left
pub own_len : (r : Reader) → foreign r ≡ false → r.len ≤ file_limit
own_len r e = ltb-false file_limit r.len (or_left (ltb file_limit r.len) (ltb slice_limit r.passed) e)

pub own_passed : (r : Reader) → foreign r ≡ false → r.passed ≤ slice_limit
own_passed r e = ltb-false slice_limit r.passed (or_right (ltb file_limit r.len) (ltb slice_limit r.passed) e)

-- ---- the bytes seen
module _ (r : Reader) (store run : List ℕ) (full : length store ≡ file_limit) (own : r.len ≤ file_limit) where
  pub seen_length : length (seen r store run) ≡ r.len + length run
  seen_length = length-append (take r.len store) run ∙ ap (λ (k : ℕ). k + length run) (length-take-le r.len store (omega arith))

  module _ (fits : length run ≤ file_limit - r.len) where
    pub all_fitting : fitting r run ≡ run
    all_fitting = take_all (file_limit - r.len) run fits

    pub all_seen : take (r.len + length run) (sets store r.len run) ≡ seen r store run
    all_seen = front_stored store run r.len (omega arith)

    pub not_final : (last : Bool) → final last (seen r store run) ≡ last
    not_final last = ap (λ (b : Bool). last || b) (le-ltb file_limit (length (seen r store run)) (omega (arith, seen_length))) ∙ or_false last

  module _ (long : file_limit - r.len < length run) where
    abbrev room : ℕ
    room = file_limit - r.len

    pub fitting_length : length (fitting r run) ≡ room
    fitting_length = length-take-le room run (omega arith)

    pub is_final : (last : Bool) → final last (seen r store run) ≡ true
    is_final last = ap (λ (b : Bool). last || b) (lt-ltb file_limit (length (seen r store run)) (omega (arith, seen_length))) ∙ or_true last

  -- where all bytes seen find room, they stand at the front
  module _ (short : length (seen r store run) ≤ file_limit) where
    pub run_fits : length run ≤ file_limit - r.len
    run_fits = omega (arith, seen_length)

    pub front_seen : {len : ℕ} {after : List ℕ} → len ≡ r.len + length (fitting r run) → after ≡ sets store r.len (fitting r run) → take len after ≡ seen r store run
    front_seen e f =
        let whole = all_fitting run_fits in
        ap₂ take (e ∙ ap (λ (b : List ℕ). r.len + length b) whole) (f ∙ ap (sets store r.len) whole) ∙ all_seen run_fits

-- what is said of a full store stands for all bytes behind it
full_judged : (bytes x : List ℕ) {len : ℕ} {b : Bool} {next : Reader} → length bytes ≡ file_limit → 0 < length x → b ≡ false → Hears bytes len 0 b next
    → (v : Verdict) × Judged (bytes ++ x) v × (overfull next.said ≡ Some v)
full_judged bytes x full some e (judged j) = absurd (true≢false e)
full_judged bytes x full some e (certain {v} g) =
    let k = given_early (check_from 0 bytes) g in
    (v, subst (Judged (bytes ++ x)) k.3 (full_bad bytes x (omega arith) (sym (from_start bytes) ∙ k.1)), refl)
full_judged bytes x full some e (waits g) = (Err (refused BytesAfterEnd file_limit), go (check_file bytes) refl (ap early (sym (from_start bytes)) ∙ g), refl)
  where
    go : (c : Verdict) → check_file bytes ≡ c → early (check_file bytes) ≡ None → Judged (bytes ++ x) (Err (refused BytesAfterEnd file_limit))
    go (Ok size) s m' = full_over bytes x full some s
    go (Err r) s m' =
        let other : r.reason ≡ Cut → ⊥ = λ z. omega (arith, check_cut bytes z s) in
        absurd (more_or_given (early (check_file bytes)) m' (ap early s ∙ sym (early_other other)))

-- ---- the two ways to take a run
pub same_hears : {bytes bytes' : List ℕ} {len len' passed : ℕ} {b b' : Bool} {next : Reader} → bytes ≡ bytes' → len ≡ len' → b ≡ b' → Hears bytes len passed b next
    → Hears bytes' len' passed b' next
same_hears e f g h = rw (← e, ← f, ← g) h

module _ (r : Reader) (store run : List ℕ) (full : length store ≡ file_limit) (own : r.len ≤ file_limit) (last : Bool) where
  -- all of it fits: the reader after the bytes at the front
  module _ (fits : length run ≤ file_limit - r.len) {after : List ℕ} (stored : after ≡ sets store r.len run) where
    abbrev bytes : List ℕ
    bytes = take (r.len + length run) after

    front : bytes ≡ seen r store run
    front = ap (take (r.len + length run)) stored ∙ all_seen r store run full own fits

    pub takes_all : {next : Reader} → Hears bytes (r.len + length run) r.passed last next → Takes r store run last next after
    takes_all h =
        let whole = all_fitting r store run full own fits in
        record {
          stored = stored ∙ ap (sets store r.len) (sym whole);
          hears = same_hears front (ap (λ (l : List ℕ). r.len + length l) (sym whole)) (sym (not_final r store run full own fits last)) h;
        }

    -- while more may come
    pub takes_heard : last ≡ false → {next : Reader} → Hears bytes (length bytes) r.passed false next → Takes r store run last next after
    takes_heard e h = takes_all (same_hears refl (ap length front ∙ seen_length r store run full own) (sym e) h)

    -- without a check, inside a slice
    pub takes_inside : last ≡ false → StaysInside (take r.len store) r.passed (length run) → Takes r store run last (reader (r.len + length run) r.passed None) after
    takes_inside e i =
        let w = i.waits run refl in
        takes_all (same_hears (sym front) refl refl (hears_more (seen r store run) (r.len + length run) r.passed e w.0 refl w.1))

  -- some of it doesn't: what is said of the store, full of the part that does
  module _ (long : file_limit - r.len < length run) where
    abbrev part : List ℕ
    part = fitting r run

    abbrev rest : List ℕ
    rest = drop (file_limit - r.len) run

    sized : r.len + length part ≡ file_limit
    sized = omega (arith, fitting_length r store run full own long)

    whole : {after : List ℕ} → after ≡ sets store r.len part → after ≡ take r.len store ++ part
    whole stored =
        stored ∙ sym (take_all (r.len + length part) (sets store r.len part) (omega (arith, length-sets store r.len part, sized))) ∙ front_stored store part r.len (omega (arith, sized))

    all : {after : List ℕ} → after ≡ sets store r.len part → after ++ rest ≡ seen r store run
    all stored =
        ap (λ (l : List ℕ). l ++ rest) (whole stored)
        ∙ append_assoc (take r.len store) part rest
        ∙ ap (λ (l : List ℕ). take r.len store ++ l) (take-append-drop (file_limit - r.len) run)

    pub takes_over : {next : Reader} {after : List ℕ} {said : Reply} → said ≡ overfull next.said → after ≡ sets store r.len part → Hears after (length after) 0 false next
        → Takes r store run last (reader file_limit r.passed said) after
    takes_over {next} {after} {said} e stored h =
        let g = full_judged after rest (ap length stored ∙ length-sets store r.len part ∙ full) (omega (arith, length-drop (file_limit - r.len) run)) refl h in
        record {
          stored = stored;
          hears = same_hears refl (sym sized) refl
              (rw (e ∙ g.2) (hears_all (seen r store run) file_limit r.passed (is_final r store run full own long last) (subst (λ (l : List ℕ). Judged l g.0) (all stored) g.1)));
        }
