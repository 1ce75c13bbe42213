-- On any state, also one that no call left: with the sender's last word the judge decides on the bytes in the store and the run, and what is accepted the
-- judge accepts, and it stands at the front of the store. Assumes nothing.
use mathlib.Core.Path.{◌≡◌, ◌∙◌, refl, sym, subst}
use mathlib.Core.Bool.{Bool, true, false, true≢false}
use Rattle.std.specs.Prelude.{Some, None, Ok, Err}
use mathlib.Core.List.{List}
use Prim.Native.Nat.{ℕ}
use borrow.Author.Tests.{eqb-true}
use lib.Dec.{eqb}
use lib.ListN.{length, take}
use Rattle.slicefile.specs.declared.Refusal.{Refusal}
use Rattle.slicefile.specs.declared.Size.{Size}
use Rattle.slicefile.specs.Refusals.{Verdict}
use Rattle.column.specs.File.{file_limit}
use Rattle.column.specs.Judge.{Judged}
use Rattle.column.specs.Check.{check_from}
use Rattle.column.proofs.Verdicts.{not_both, accepted_sound}
use Rattle.column.proofs.PrefixLaws.{sound_short}
use Rattle.stream.specs.declared.Reader.{Reader}
use Rattle.stream.specs.declared.Fed.{Fed}
use Rattle.stream.specs.Feeding.{Reply, foreign, seen, Hears, judged, certain, waits, Keeps, FeedsBy, Feeds}
use Rattle.stream.proofs.Hearing.{more_or_given, same_verdict, given_early}
use Rattle.stream.proofs.Taking.{own_len, front_seen}
use Rattle.stream.proofs.Calls.{run_told}

-- ---- the sender's last word
all_heard : {bytes : List ℕ} {len passed : ℕ} {b : Bool} {next : Reader} → b ≡ true → Hears bytes len passed b next → (v : Verdict) × Judged bytes v × (next.said ≡ Some v)
all_heard e (judged {v} j) = (v, j, refl)
all_heard e (certain g) = absurd (true≢false (sym e))
all_heard e (waits g) = absurd (true≢false (sym e))

pub last_judged : {r : Reader} {store run : List ℕ} {fed : Fed} {after : List ℕ} → length store ≡ file_limit → r.said ≡ None → foreign r ≡ false → Feeds r store run true fed after
    → (v : Verdict) × Judged (seen r store run) v × (fed.reply ≡ Some v)
last_judged full waiting own f =
    let t = run_told full waiting own f in
    let h = all_heard refl t.takes.hears in
    (h.0, h.1, t.says ∙ h.2)

-- ---- accepted
hears_len : {bytes : List ℕ} {len passed : ℕ} {b : Bool} {next : Reader} → Hears bytes len passed b next → next.len ≡ len
hears_len (judged j) = refl
hears_len (certain e) = refl
hears_len (waits e) = refl

hears_accepted : {bytes : List ℕ} {len passed : ℕ} {size : Size} {b : Bool} {next : Reader} → next.said ≡ Some (Ok size) → Hears bytes len passed b next → Judged bytes (Ok size)
hears_accepted {bytes} e (judged j) = subst (Judged bytes) (same_verdict e) j
hears_accepted {bytes} {passed = passed} e (certain g) = let k = given_early (check_from passed bytes) (g ∙ e) in absurd (not_both _ refl k.3)
hears_accepted e (waits g) = absurd (more_or_given None refl e)

module _ (r : Reader) (store run : List ℕ) (last : Bool) (fed : Fed) (after : List ℕ) {size : Size} (accepts : fed.reply ≡ Some (Ok size)) where
  not_kept : {q : Refusal} → Keeps (Some (Err q)) r store fed after → ⊥
  not_kept k = not_both _ refl (same_verdict (sym k.says ∙ accepts))

  by_row : (sized : Bool) (said : Reply) (strange : Bool) → eqb (length store) file_limit ≡ sized → foreign r ≡ strange → said ≡ None → FeedsBy sized said strange r store run last fed after
      → Judged (seen r store run) (Ok size) × (take fed.reader.len after ≡ seen r store run)
  by_row false said strange e g o k = absurd (not_kept k)
  by_row true (Some v) strange e g o k = absurd (more_or_given (Some v) o refl)
  by_row true None true e g o k = absurd (not_kept k)
  by_row true None false e g o k =
      let j = hears_accepted (sym k.says ∙ accepts) k.takes.hears in
      (j, front_seen r store run (eqb-true (length store) file_limit e) (own_len r g) (sound_short (seen r store run) (accepted_sound (seen r store run) j)) (hears_len k.takes.hears) k.takes.stored)

  pub accepted_kept : r.said ≡ None → Feeds r store run last fed after → Judged (seen r store run) (Ok size) × (take fed.reader.len after ≡ seen r store run)
  accepted_kept o f = by_row (eqb (length store) file_limit) r.said (foreign r) refl refl o f.by
