-- What a reader says of the bytes it has heard, step by step. Assumes nothing.
use mathlib.Core.Path.{◌≡◌, ◌∙◌, refl, sym, ap, subst}
use mathlib.Core.Bool.{Bool, true, false, true≢false, cond}
use Rattle.std.specs.Prelude.{Some, None, Ok, Err, is_some, is_ok}
use mathlib.Core.List.{List, ◌++◌}
use Prim.Native.Nat.{ℕ, ◌+◌, ◌≤◌, ◌<◌}
use native.Mathlib.Omega.{arith}
use lib.ListN.{length, drop, length-append, length-drop}
use lib.Seq.{drop-append-le}
use Rattle.slicefile.specs.Format.{slice_tag, head_length, record_length, slice_count, input_count}
use Rattle.slicefile.specs.declared.Reason.{Reason}
use Rattle.slicefile.specs.declared.Reason.TheVariants.{Cut}
use Rattle.slicefile.specs.declared.Refusal.{Refusal}
use Rattle.slicefile.specs.Refusals.{Tested, Verdict}
use Rattle.framing.specs.Framing.{header_refusal, size_refusal}
use Rattle.framing.proofs.RecordLaws.{size_tells}
use Rattle.framing.proofs.PrefixLaws.{size_stays, header_waits, slice_short}
use Rattle.column.specs.File.{record_start}
use Rattle.column.specs.Check.{check_from, passed_from}
use Rattle.column.proofs.Places.{start_at, start_stays}
use Rattle.column.proofs.CheckLaws.{taken_up, slice_bad}
use Rattle.column.proofs.PrefixLaws.{count_stays}
use Rattle.column.specs.Judge.{Judged}
use Rattle.stream.specs.Feeding.{Reply, reader, is_cut, early, StaysInside, Hears, judged, certain, waits}

-- a reply is not both
pub more_or_given : (reply : Reply) {v : Verdict} → reply ≡ None → reply ≡ Some v → ⊥
more_or_given reply e f = absurd (cc (e, f))

pub some_said : (reply : Reply) → is_some reply ≡ true → (v : Verdict) × (reply ≡ Some v)
some_said None e = absurd (true≢false (sym e))
some_said (Some v) e = (v, refl)

pub none_said : (reply : Reply) → is_some reply ≡ false → reply ≡ None
none_said None e = refl
none_said (Some v) e = absurd (true≢false e)

-- a test that gives no reason
pub none_given : (t : Tested) → is_ok t ≡ true → t ≡ Ok tt
none_given (Ok tt) e = refl
none_given (Err r) e = absurd (true≢false (sym e))

pub same_verdict : {v w : Verdict} → Some v ≡ Some w → v ≡ w
same_verdict e = cc

not_cut : (r : Reason) → (r ≡ Cut → ⊥) → is_cut r ≡ false
not_cut Cut ne = absurd (ne refl)
not_cut r ne = refl

-- a refusal but 1 is given at once
pub early_other : {r : Refusal} → (r.reason ≡ Cut → ⊥) → Some (Err r) ≡ early (Err r)
early_other {r} ne = rw (not_cut r.reason ne)

-- and nothing else is
given_by : (r : Refusal) (b : Bool) {v : Verdict} → is_cut r.reason ≡ b → cond b None (Some (Err r)) ≡ Some v
    → (q : Refusal) × (◌≡◌ {A = Verdict} (Err r) (Err q)) × (q.reason ≡ Cut → ⊥) × (Err q ≡ v)
given_by r true t e = absurd (more_or_given None refl e)
given_by r false t e = (r, refl, λ z. true≢false (sym (ap is_cut z) ∙ t), same_verdict e)

pub given_early : (c : Verdict) {v : Verdict} → early c ≡ Some v → (r : Refusal) × (c ≡ Err r) × (r.reason ≡ Cut → ⊥) × (Err r ≡ v)
given_early (Err r) e = given_by r (is_cut r.reason) refl e
given_early (Ok size) e = absurd (more_or_given None refl e)

module _ (bytes : List ℕ) (len passed : ℕ) {last : Bool} where
  pub hears_all : {v : Verdict} → last ≡ true → Judged bytes v → Hears bytes len passed last (reader len passed (Some v))
  hears_all {v} e j = subst (λ (b : Bool). Hears bytes len passed b (reader len passed (Some v))) (sym e) (judged j)

  module _ {said : Reply} (e : last ≡ false) (so : said ≡ early (check_from passed bytes)) where
    pub hears_verdict : {v : Verdict} → said ≡ Some v → Hears bytes len passed last (reader len passed said)
    hears_verdict {v} g = rw (e, g) (certain (sym so ∙ g))

    pub hears_more : {count : ℕ} → said ≡ None → count ≡ passed_from passed bytes → Hears bytes len passed last (reader len count said)
    hears_more g f = rw (e, g, f) (waits (sym so ∙ g))

-- bytes that end in the body of the slice behind those that passed, and still do with more
pub inside_stays : (bytes : List ℕ) (passed more : ℕ) → size_refusal bytes ≡ Ok tt → passed < slice_count bytes → record_start bytes passed + head_length ≤ length bytes
    → length bytes + more < record_start bytes passed + record_length slice_tag → header_refusal slice_tag (drop (record_start bytes passed) bytes) ≡ Err Cut → StaysInside bytes passed more
inside_stays bytes passed more begins some head short cut =
    record { room = omega (arith, start_at bytes passed, (size_tells bytes begins).1); waits = waits_on }
  where
    waits_on : (x : List ℕ) → length x ≡ more → (None ≡ early (check_from passed (bytes ++ x))) × (passed ≡ passed_from passed (bytes ++ x))
    waits_on x e =
        let file = bytes ++ x in
        let at = record_start bytes passed in
        let same : record_start file passed ≡ at = start_stays bytes x passed in
        let begins' : size_refusal file ≡ Ok tt = size_stays bytes x (λ o. cc (begins, o)) ∙ begins in
        let room : head_length ≤ length (drop at bytes) = omega (arith, length-drop at bytes) in
        let still : length (drop at bytes ++ x) < record_length slice_tag = omega (arith, length-append (drop at bytes) x, length-drop at bytes) in
        let cut' : header_refusal slice_tag (drop (record_start file passed) file) ≡ Err Cut = rw (same, drop-append-le at bytes x (omega arith)) (header_waits slice_tag (drop at bytes) x room cut still) in
        let fits : record_start file passed ≤ length file = rw same (omega (arith, length-append bytes x)) in
        let b = slice_bad file (taken_up file begins' passed fits) (rw (count_stays bytes x begins) some) (slice_short (slice_count file) (input_count file) passed (drop (record_start file passed) file) cut') in
        (ap early b.0, b.1)
