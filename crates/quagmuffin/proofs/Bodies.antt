-- The record calls by a record's body: what a body in the file's layout says of the record, and the answers. Assumes nothing.
use mathlib.Core.Path.{◌≡◌, refl, sym}
use Rattle.std.specs.Prelude.{Ok}
use mathlib.Core.List.{List}
use Prim.Native.Nat.{ℕ}
use lib.ListN.{length}
use Rattle.slicefile.specs.Format.{slice_tag, head_length, body_length, body_of}
use Rattle.slicerecord.specs.Record.{record_of, body_bytes, Below}
use Rattle.slicerecord.specs.declared.Record.{Record}
use Rattle.recordcalls.specs.Calls.{read_refusal, write_refusal, unless, read_record, written}
use Rattle.recordcalls.proofs.Answers.{read_given}
use Rattle.recordcalls.proofs.RoundTrip.{read_body_length}
use Rattle.slicerecord.proofs.Pieces.{below_piece}
use Rattle.slicerecord.proofs.RoundTrip.{bytes_of_record}
use Rattle.quagmuffin.specs.Bodies.{read_body_refusal, body_read, ReadInto, write_body_refusal, body_written}

-- what is read from a record is its body
pub read_body : (s : List ℕ) (n m : ℕ) → Below 256 s → read_refusal s n m ≡ Ok tt → body_bytes (record_of (body_of slice_tag s)) ≡ body_of slice_tag s
read_body s n m b e = bytes_of_record (body_of slice_tag s) (read_body_length s n m e) (below_piece s head_length (body_length slice_tag) b)

-- with a body of the right length the two calls are those on the record
pub read_sized : (s : List ℕ) (n m : ℕ) (body : List ℕ) → length body ≡ body_length slice_tag
    → (read_body_refusal s n m body ≡ read_refusal s n m) × (body_read s n m body ≡ unless (read_refusal s n m) (body_bytes (record_of (body_of slice_tag s))) body)
unfolding read_body_refusal body_read
read_sized s n m body h = (rw h, rw h)

pub write_sized : (body : List ℕ) (n m : ℕ) (part : List ℕ) → length body ≡ body_length slice_tag
    → (write_body_refusal body n m part ≡ write_refusal (record_of body) n m (length part)) × (body_written body n m part ≡ written (record_of body) n m part)
unfolding write_body_refusal body_written
write_sized body n m part h = (rw h, rw h)

-- a body into which a record was read: the record's own bytes
pub read_stored : (s : List ℕ) (n m : ℕ) (body : List ℕ) {r : Record} → Below 256 s → length body ≡ body_length slice_tag → read_record s n m ≡ Ok r
    → ReadInto s n m body (body_of slice_tag s) (Ok tt)
read_stored s n m body b h e =
    let z = read_sized s n m body h in
    let none = (read_given s n m e).0 in
    rw (z.0, z.1, none) (refl, sym (read_body s n m b none))
