-- What the two record calls answer: "The two record calls test 10, then n and m (11), before the rest; they give place 0 and no record".
use Rattle.std.specs.Prelude.{ℕ, Ok, Err, Result, not, List, ◌++◌, ltb, eqb, length, drop}
use Rattle.slicefile.specs.Format.{slice_tag, record_length, body_of, number_byte}
use Rattle.slicefile.specs.Refusals.{refused, Tested, Answer}
use Rattle.slicefile.specs.declared.Reason.TheVariants.{NotDue, WrongBuffer, OutOfRange}
use Rattle.slicefile.specs.declared.Refusal.{Refusal}
use Rattle.rules.specs.Rules.{given, ◌or_else◌, body_refusal}
use Rattle.framing.specs.Framing.{header_refusal, bad_size}
use Rattle.slicerecord.specs.Record.{record_of, record_bytes}
use Rattle.slicerecord.specs.declared.Record.{Record}

-- "both apply rules 2 to 7 to it, any number below n being due"
unfoldable pub record_refusal : ℕ → ℕ → List ℕ → Tested
record_refusal n m s =
    let body = body_of slice_tag s in
    header_refusal slice_tag s or_else given NotDue (not (ltb (number_byte body) n)) or_else body_refusal n m (number_byte body) body

-- the reader "takes 127 bytes": another length is 10
unfoldable pub read_refusal : List ℕ → ℕ → ℕ → Tested
read_refusal s n m = given WrongBuffer (not (eqb (length s) (record_length slice_tag))) or_else given OutOfRange (bad_size n m) or_else record_refusal n m s

-- the writer's part: "writer: shorter than 127" is 10. It never gives 1, 2 or 3: the header is its own
unfoldable pub write_refusal : Record → ℕ → ℕ → ℕ → Tested
write_refusal r n m size = given WrongBuffer (ltb size (record_length slice_tag)) or_else given OutOfRange (bad_size n m) or_else record_refusal n m (record_bytes r)

-- what a call gives where nothing is refused, or the reason; the place is 0
abbrev pub answer_with : {A : Type 0} → Tested → A → Result A Refusal
answer_with (Ok u) a = Ok a
answer_with (Err r) a = Err (refused r 0)

-- a call that gives nothing back
abbrev pub answer_of : Tested → Answer
answer_of t = answer_with t tt

-- what a call leaves by its refusal: the second on refusal, else the first
abbrev pub unless : {A : Type 0} → Tested → A → A → A
unless (Ok u) done kept = done
unless (Err r) done kept = kept

-- reading: the record, or "no record": "where the answer's form has to hold one, it is all zeros", and a refusal's form holds none
unfoldable pub read_record : List ℕ → ℕ → ℕ → Result Record Refusal
read_record s n m = answer_with (read_refusal s n m) (record_of (body_of slice_tag s))

-- writing: "puts a record into the first 127 bytes of the part it is lent, the rest unchanged"
unfoldable pub written : Record → ℕ → ℕ → List ℕ → List ℕ
written r n m part = unless (write_refusal r n m (length part)) (record_bytes r ++ drop (record_length slice_tag) part) part
