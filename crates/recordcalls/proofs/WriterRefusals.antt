-- The writer gives none of the refusals 1, 2 and 3: the header that it makes is the one due. Assumes nothing.
use mathlib.Core.Path.{◌≡◌}
use mathlib.Core.Bool.{Bool, true, false, not}
use Rattle.std.specs.Prelude.{Ok, Err}
use Prim.Native.Nat.{ℕ, ◌%◌, ◌≤◌}
use lib.Dec.{ltb, eqb, lit≤}
use Rattle.slicefile.specs.Format.{slice_tag, record_length, body_of, number_byte}
use Rattle.slicefile.specs.Refusals.{number, Tested}
use Rattle.slicefile.specs.declared.Reason.{Reason}
use Rattle.slicefile.specs.declared.Reason.TheVariants.{NotDue, OutsideList, Combination, NoDriver, WrongBuffer, OutOfRange}
use Rattle.rules.specs.Rules.{given, ◌or_else◌, bad_choice, bad_combination, bad_driver, body_refusal}
use Rattle.framing.specs.Framing.{header_refusal, bad_size}
use Rattle.slicerecord.specs.Record.{record_bytes, Sized}
use Rattle.recordcalls.specs.Calls.{record_refusal, write_refusal}
use Rattle.slicerecord.specs.declared.Record.{Record}
use Rattle.slicerecord.proofs.Encoding.{length_body_bytes}

pub header_written : (r : Record) → Sized r → header_refusal slice_tag (record_bytes r) ≡ Ok tt
unfolding record_bytes header_refusal
header_written r z = rw (length_body_bytes r z)

-- a reason of number 4 or above, or none
record Late (t : Tested) : Type 0 where
  late : {k : Reason} → t ≡ Err k → 4 ≤ number k

late_given : (r : Reason) (t : Bool) → 4 ≤ number r → Late (given r t)
late_given r true h = record { late = λ {k} e. let same : r ≡ k = cc e in rw (← same) h }
late_given r false h = record { late = λ e. absurd (cc e) }

late_or_else : {a b : Tested} → Late a → Late b → Late (a or_else b)
late_or_else {a = Ok u} p q = q
late_or_else {a = Err r} p q = p

pub write_late : (r : Record) → Sized r → (n m size : ℕ) {k : Reason} → write_refusal r n m size ≡ Err k → 4 ≤ number k
unfolding write_refusal record_refusal body_refusal
write_late r z n m size =
    let body = body_of slice_tag (record_bytes r) in
    let s = number_byte body in
    let header : Late (header_refusal slice_tag (record_bytes r)) = rw (header_written r z) (record { late = λ e. absurd (cc e) }) in
    let driver = late_or_else (late_given Combination (bad_combination s body) (lit≤ tt)) (late_given NoDriver (bad_driver n m body) (lit≤ tt)) in
    let inside = late_or_else (late_given NotDue (not (eqb s (s % 256))) (lit≤ tt)) (late_or_else (late_given OutsideList (bad_choice body) (lit≤ tt)) driver) in
    let whole = late_or_else header (late_or_else (late_given NotDue (not (ltb s n)) (lit≤ tt)) inside) in
    (late_or_else (late_given WrongBuffer (ltb size (record_length slice_tag)) (lit≤ tt)) (late_or_else (late_given OutOfRange (bad_size n m) (lit≤ tt)) whole)).late
