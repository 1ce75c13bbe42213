-- Demand 2's round trip as a host sees it, by the bodies and parts of the two exported record calls: "reading what was written gives the same record;
-- writing what was read gives the same bytes". Assumes nothing.
use mathlib.Core.Path.{◌≡◌, refl, ◌∙◌, ap}
use Rattle.std.specs.Prelude.{Ok, Err}
use mathlib.Core.List.{List, ◌++◌}
use Prim.Native.Nat.{ℕ, ◌≤◌}
use native.Mathlib.Omega.{arith}
use borrow.Author.Tests.{eqb-true, not-false}
use lib.ListN.{length, take, drop}
use Rattle.slicefile.specs.Format.{slice_tag, body_length, record_length, body_of}
use Rattle.slicefile.specs.declared.Reason.TheVariants.{WrongBuffer}
use Rattle.slicefile.specs.Refusals.{Tested}
use Rattle.rules.specs.Rules.{given, ◌or_else◌}
use Rattle.rules.proofs.Refusals.{or_else_left, or_else_right, given_none}
use Rattle.slicerecord.specs.Record.{record_of, body_bytes, Below}
use Rattle.slicerecord.proofs.RoundTrip.{bytes_of_record}
use Rattle.slicerecord.proofs.Typing.{bytes_typed}
use Rattle.column.proofs.Bounds.{Most}
use Rattle.recordcalls.specs.Calls.{read_refusal, write_refusal, answer_of, unless, written}
use Rattle.recordcalls.proofs.Answers.{read_done, read_given}
use Rattle.recordcalls.proofs.RoundTrip.{read_body_length, read_written, write_read}
use Rattle.quagmuffin.specs.Bodies.{bad_body, read_body_refusal, write_body_refusal, RecordRead, RecordWritten}
use Rattle.quagmuffin.specs.Packed.{pack_answer}
use Rattle.quagmuffin.proofs.Bodies.{read_body, read_sized, write_sized}
use Rattle.quagmuffin.proofs.Small.{read_body_most, write_body_most}

-- the number 0 is no refusal
no_refusal : (t : Tested) → Most 11 t → 0 ≡ pack_answer (answer_of t) → t ≡ Ok tt
no_refusal (Ok tt) h e = refl
no_refusal (Err r) h e = absurd (omega (arith, h.0))

-- a call that isn't refused was given a body of its length
sized : (body : List ℕ) (rest : Tested) → (given WrongBuffer (bad_body body) or_else rest) ≡ Ok tt → length body ≡ body_length slice_tag
sized body rest e = eqb-true _ _ (not-false _ (given_none WrongBuffer (bad_body body) (or_else_left (given WrongBuffer (bad_body body)) rest e)))

-- reading what was written gives the same body: the first 127 bytes of what the writer left, into any body of its length
pub reads_back : (body : List ℕ) (n m : ℕ) (part part' old new : List ℕ) {i : ℕ} → Below 256 body → length old ≡ body_length slice_tag
    → RecordWritten body n m part part' 0 → RecordRead (take (record_length slice_tag) part') n m old new i → (i ≡ 0) × (new ≡ body)
unfolding write_body_refusal
reads_back body n m part part' old new b long w r =
    let none = no_refusal (write_body_refusal body n m part) (write_body_most body n m part) w.0 in
    let l = sized body (write_refusal (record_of body) n m (length part)) none in
    let good : write_refusal (record_of body) n m (length part) ≡ Ok tt = or_else_right (given WrongBuffer (bad_body body)) _ none in
    let same : part' ≡ written (record_of body) n m part = w.1 ∙ (write_sized body n m part l).1 in
    let s = take (record_length slice_tag) part' in
    let read = read_given s n m (rw (← same) at (read_written (record_of body) (bytes_typed body b) n m part good)) in
    let z = read_sized s n m old long in (
      r.0 ∙ ap (λ (t : Tested). pack_answer (answer_of t)) (z.0 ∙ read.0),
      r.1 ∙ z.1 ∙ ap (λ (t : Tested). unless t (body_bytes (record_of (body_of slice_tag s))) old) read.0 ∙ ap body_bytes read.1 ∙ bytes_of_record body l b,
    )

-- writing what was read gives the same bytes, at the front of any part that has room, whose rest is unchanged
pub writes_back : (s : List ℕ) (n m : ℕ) (old body part part' : List ℕ) {i : ℕ} → Below 256 s → record_length slice_tag ≤ length part
    → RecordRead s n m old body 0 → RecordWritten body n m part part' i → (i ≡ 0) × (part' ≡ s ++ drop (record_length slice_tag) part)
unfolding read_body_refusal
writes_back s n m old body part part' b room r w =
    let none = no_refusal (read_body_refusal s n m old) (read_body_most s n m old) r.0 in
    let l = sized old (read_refusal s n m) none in
    let good : read_refusal s n m ≡ Ok tt = or_else_right (given WrongBuffer (bad_body old)) _ none in
    let same : body ≡ body_of slice_tag s =
    r.1 ∙ (read_sized s n m old l).1 ∙ ap (λ (t : Tested). unless t (body_bytes (record_of (body_of slice_tag s))) old) good ∙ read_body s n m b good in
    let long : length body ≡ body_length slice_tag = rw same (read_body_length s n m good) in
    let back = rw (← same) at (write_read s n m part b (read_done s n m good) room) in
    let z = write_sized body n m part long in
    (w.0 ∙ ap (λ (t : Tested). pack_answer (answer_of t)) (z.0 ∙ back.0), w.1 ∙ z.1 ∙ back.1)
