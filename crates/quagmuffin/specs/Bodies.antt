-- The record calls by the body of a record: 124 bytes, the record's fields in the file's layout; another length is 10, first of all.
use Rattle.std.specs.Prelude.{ℕ, ◌≡◌, Bool, not, List, eqb, length}
use Rattle.slicefile.specs.Format.{slice_tag, body_length, body_of}
use Rattle.slicefile.specs.declared.Reason.TheVariants.{WrongBuffer}
use Rattle.slicefile.specs.Refusals.{Tested, Answer}
use Rattle.rules.specs.Rules.{given, ◌or_else◌}
use Rattle.slicerecord.specs.Record.{record_of, body_bytes}
use Rattle.recordcalls.specs.Calls.{read_refusal, write_refusal, answer_of, unless, written}
use Rattle.quagmuffin.specs.Packed.{pack_answer}

abbrev pub bad_body : List ℕ → Bool
bad_body body = not (eqb (length body) (body_length slice_tag))

-- reading a record into a body: the refusal, and the body it leaves, filled from the record that was read, and unchanged on refusal
unfoldable pub read_body_refusal : List ℕ → ℕ → ℕ → List ℕ → Tested
read_body_refusal s n m body = given WrongBuffer (bad_body body) or_else read_refusal s n m

unfoldable pub body_read : List ℕ → ℕ → ℕ → List ℕ → List ℕ
body_read s n m body = unless (read_body_refusal s n m body) (body_bytes (record_of (body_of slice_tag s))) body

-- writing the record of a body: the refusal, and the part it leaves
unfoldable pub write_body_refusal : List ℕ → ℕ → ℕ → List ℕ → Tested
write_body_refusal body n m part = given WrongBuffer (bad_body body) or_else write_refusal (record_of body) n m (length part)

unfoldable pub body_written : List ℕ → ℕ → ℕ → List ℕ → List ℕ
body_written body n m part = unless (given WrongBuffer (bad_body body)) (written (record_of body) n m part) part

-- what the two calls answer and leave, and their answers as numbers
abbrev pub ReadInto : List ℕ → ℕ → ℕ → List ℕ → List ℕ → Answer → Type 0
ReadInto s n m old new answer =
    (answer ≡ answer_of (read_body_refusal s n m old)) × (new ≡ body_read s n m old)

abbrev pub WrittenFrom : List ℕ → ℕ → ℕ → List ℕ → List ℕ → Answer → Type 0
WrittenFrom body n m old new answer =
    (answer ≡ answer_of (write_body_refusal body n m old)) × (new ≡ body_written body n m old)

abbrev pub RecordRead : List ℕ → ℕ → ℕ → List ℕ → List ℕ → ℕ → Type 0
RecordRead s n m old new number =
    (number ≡ pack_answer (answer_of (read_body_refusal s n m old))) × (new ≡ body_read s n m old)

abbrev pub RecordWritten : List ℕ → ℕ → ℕ → List ℕ → List ℕ → ℕ → Type 0
RecordWritten body n m old new number =
    (number ≡ pack_answer (answer_of (write_body_refusal body n m old))) × (new ≡ body_written body n m old)
