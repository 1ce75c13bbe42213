-- The answers of the two calls from what their tests give. Assumes nothing.
use mathlib.Core.Path.{◌≡◌, refl}
use mathlib.Core.List.{List, ◌++◌}
use Prim.Native.Nat.{ℕ}
use Rattle.std.specs.Prelude.{Ok, Err}
use lib.ListN.{length, drop}
use Rattle.slicefile.specs.Format.{slice_tag, record_length, body_of}
use Rattle.slicefile.specs.Refusals.{refused, Tested}
use Rattle.slicefile.specs.declared.Reason.{Reason}
use Rattle.slicerecord.specs.Record.{record_of, record_bytes}
use Rattle.slicerecord.specs.declared.Record.{Record}
use Rattle.recordcalls.specs.Calls.{read_refusal, write_refusal, answer_with, answer_of, unless, read_record, written}

pub kept_refused : {A : Type 0} (t : Tested) (done kept : A) → (t ≡ Ok tt → ⊥) → kept ≡ unless t done kept
kept_refused (Ok tt) done kept ne = absurd (ne refl)
kept_refused (Err r) done kept ne = refl

answer_given : {A : Type 0} (t : Tested) (a : A) {b : A} → answer_with t a ≡ Ok b → (t ≡ Ok tt) × (a ≡ b)
answer_given (Ok tt) a e = (refl, cc e)
answer_given (Err r) a e = absurd (cc e)

-- the reader's answer where it refuses, and where not; and back from a record
pub read_refused : (s : List ℕ) (n m : ℕ) {r : Reason} → read_refusal s n m ≡ Err r → read_record s n m ≡ Err (refused r 0)
unfolding read_record
read_refused s n m e = rw e

pub read_done : (s : List ℕ) (n m : ℕ) → read_refusal s n m ≡ Ok tt → read_record s n m ≡ Ok (record_of (body_of slice_tag s))
unfolding read_record
read_done s n m e = rw e

pub read_given : (s : List ℕ) (n m : ℕ) {r : Record} → read_record s n m ≡ Ok r → (read_refusal s n m ≡ Ok tt) × (record_of (body_of slice_tag s) ≡ r)
unfolding read_record
read_given s n m e = answer_given (read_refusal s n m) (record_of (body_of slice_tag s)) e

-- the writer's answer and what it leaves where it refuses, and where not
pub write_refused : (r : Record) (n m : ℕ) (part : List ℕ) {k : Reason} → write_refusal r n m (length part) ≡ Err k
    → (Err (refused k 0) ≡ answer_of (write_refusal r n m (length part))) × (part ≡ written r n m part)
unfolding written
write_refused r n m part e = rw e (refl, refl)

pub write_done : (r : Record) (n m : ℕ) (part : List ℕ) → write_refusal r n m (length part) ≡ Ok tt
    → (Ok tt ≡ answer_of (write_refusal r n m (length part))) × (record_bytes r ++ drop (record_length slice_tag) part ≡ written r n m part)
unfolding written
write_done r n m part e = rw e (refl, refl)
