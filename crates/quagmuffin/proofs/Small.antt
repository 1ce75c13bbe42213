-- The refusals of a file and of the calls on it are numbered 1 to 11, each by its name, at a place within the longest file; an accepted file has at
-- most 64 slices and 64 inputs. So each answer packs into 64 bits. Assumes nothing.
use mathlib.Core.Path.{refl, subst}
use mathlib.Core.Bool.{Bool, not, ◌||◌}
use Rattle.std.specs.Prelude.{Ok, Err}
use mathlib.Core.List.{List}
use Prim.Native.Nat.{ℕ}
use native.Mathlib.Omega.{arith}
use lib.Dec.{ltb, eqb}
use lib.ListN.{length}
use Rattle.slicefile.specs.Format.{slice_tag, record_length, body_of, number_byte}
use Rattle.slicefile.specs.declared.Reason.TheVariants.{NotDue, WrongBuffer, OutOfRange}
use Rattle.slicefile.specs.Refusals.{Tested, Answer, Verdict}
use Rattle.rules.specs.Rules.{given}
use Rattle.framing.specs.Framing.{header_refusal, bad_size}
use Rattle.column.specs.Clock.{State}
use Rattle.column.specs.Judge.{Judged, bad, accepted, loop}
use Rattle.column.proofs.Bounds.{Most, given_most, or_else_most, test_most, most_more, header_most, body_most, SmallChecked, checked_small}
use Rattle.column.proofs.SoundLaws.{sound_file}
use Rattle.recordcalls.specs.Calls.{record_refusal, read_refusal, write_refusal, answer_of}
use Rattle.slicerecord.specs.Record.{record_of, record_bytes}
use Rattle.slicerecord.specs.declared.Record.{Record}
use Rattle.buffers.specs.Buffers.{bad_state, bad_lengths, bad_bytes, bad_words, settle_refusal, edit_refusal}
use Rattle.calls.specs.Calls.{Called, judged, refused, done}
use Rattle.quagmuffin.specs.Bodies.{bad_body, read_body_refusal, write_body_refusal}
use Rattle.quagmuffin.specs.Packed.{FitsAnswer, Fits, SmallAnswer, SmallVerdict}

-- a judged file's verdict
pub judged_small : (file : List ℕ) {v : Verdict} → Judged file v → SmallVerdict v
judged_small file (bad {r} e) =
    let s : SmallChecked (Err r) = subst SmallChecked e (checked_small file) in
    (s.0, omega (arith, s.1), s.2, s.3)
judged_small file (accepted e free) = let f = sound_file file e in (f.some, f.slices_fit, f.inputs_fit)
judged_small file (loop e below on least) = let f = sound_file file e in (omega arith, omega arith, omega (arith, f.slices_fit), refl)

pub small_fits : (v : Verdict) → SmallVerdict v → Fits v
small_fits (Ok size) s = (omega (arith, s.1), omega (arith, s.2))
small_fits (Err r) s = (omega (arith, s.1), omega (arith, s.2))

answer_packs : (a : Answer) → SmallAnswer a → FitsAnswer a
answer_packs (Ok u) s = tt
answer_packs (Err r) s = (omega (arith, s.1), omega (arith, s.2))

-- the answer of a call on a file, whose own refusal is at most 11
pub called_small : {file : List ℕ} {own : ℕ → ℕ → Tested} {Kept : Type 0} {Did : ℕ → ℕ → Type 0} {r : Answer} → ((n m : ℕ) → Most 11 (own n m))
    → Called file own Kept Did r → SmallAnswer r
called_small {file} most (judged j kept) = judged_small file j
called_small most (refused {size} {r} j e kept) = let l = subst (Most 11) e (most size.n size.m) in (l.0, l.1, omega arith, l.2)
called_small most (done j e did) = tt

-- and so it packs
pub called_fits : {file : List ℕ} {own : ℕ → ℕ → Tested} {Kept : Type 0} {Did : ℕ → ℕ → Type 0} {r : Answer} → ((n m : ℕ) → Most 11 (own n m))
    → Called file own Kept Did r → FitsAnswer r
called_fits {r = r} most c = answer_packs r (called_small most c)

-- the calls' own refusals
pub power_most : (n : ℕ) (st : State) → Most 11 (given WrongBuffer (bad_state n st))
power_most n st = given_most 11 WrongBuffer (bad_state n st) (omega arith, omega arith, refl)

pub settle_most : (file : List ℕ) (st : State) (inputs values : List ℕ) (n m : ℕ) → Most 11 (settle_refusal file st inputs values n m)
unfolding settle_refusal
settle_most file st inputs values n m =
    test_most 11 WrongBuffer (bad_lengths n m st inputs values) _ (omega arith, omega arith, refl)
    (given_most 11 OutOfRange (bad_bytes inputs || bad_words file st.contents) (omega arith, omega arith, refl))

pub edit_most : (argument : Bool) (file : List ℕ) (st : State) (inputs values : List ℕ) (n m : ℕ) → Most 11 (edit_refusal argument file st inputs values n m)
unfolding edit_refusal
edit_most argument file st inputs values n m =
    test_most 11 WrongBuffer (bad_lengths n m st inputs values) _ (omega arith, omega arith, refl)
    (given_most 11 OutOfRange (bad_bytes inputs || bad_bytes values || bad_words file st.contents || argument) (omega arith, omega arith, refl))

-- the record calls' refusals
record_most : (n m : ℕ) (s : List ℕ) → Most 11 (record_refusal n m s)
unfolding record_refusal
record_most n m s =
    let body = body_of slice_tag s in
    or_else_most 11 (header_refusal slice_tag s) _ (most_more 8 11 _ (omega arith) (header_most slice_tag s))
    (test_most 11 NotDue (not (ltb (number_byte body) n)) _ (omega arith, omega arith, refl) (most_more 8 11 _ (omega arith) (body_most n m (number_byte body) body)))

read_most : (s : List ℕ) (n m : ℕ) → Most 11 (read_refusal s n m)
unfolding read_refusal
read_most s n m =
    test_most 11 WrongBuffer (not (eqb (length s) (record_length slice_tag))) _ (omega arith, omega arith, refl)
    (test_most 11 OutOfRange (bad_size n m) _ (omega arith, omega arith, refl) (record_most n m s))

write_most : (r : Record) (n m size : ℕ) → Most 11 (write_refusal r n m size)
unfolding write_refusal
write_most r n m size =
    test_most 11 WrongBuffer (ltb size (record_length slice_tag)) _ (omega arith, omega arith, refl)
    (test_most 11 OutOfRange (bad_size n m) _ (omega arith, omega arith, refl) (record_most n m (record_bytes r)))

-- and by a body
pub read_body_most : (s : List ℕ) (n m : ℕ) (body : List ℕ) → Most 11 (read_body_refusal s n m body)
unfolding read_body_refusal
read_body_most s n m body = test_most 11 WrongBuffer (bad_body body) _ (omega arith, omega arith, refl) (read_most s n m)

pub write_body_most : (body : List ℕ) (n m : ℕ) (part : List ℕ) → Most 11 (write_body_refusal body n m part)
unfolding write_body_refusal
write_body_most body n m part = test_most 11 WrongBuffer (bad_body body) _ (omega arith, omega arith, refl) (write_most (record_of body) n m (length part))

pub answer_small : (t : Tested) → Most 11 t → SmallAnswer (answer_of t)
answer_small (Ok u) h = tt
answer_small (Err r) h = (h.0, h.1, omega arith, h.2)

pub answer_fits : (t : Tested) → Most 11 t → FitsAnswer (answer_of t)
answer_fits t h = answer_packs (answer_of t) (answer_small t h)
