-- "Reading what was written gives the same record; writing what was read gives the same bytes." Assumes nothing.
use mathlib.Core.Path.{◌≡◌, refl, ◌∙◌, sym, ap}
use mathlib.Core.Bool.{not}
use mathlib.Core.List.{List, ◌++◌}
use Rattle.std.specs.Prelude.{Ok}
use Prim.Native.Nat.{ℕ, ◌≤◌}
use native.Mathlib.Omega.{arith}
use borrow.Author.Tests.{eqb-true, not-false, le-ltb}
use lib.Dec.{ltb, eqb}
use lib.ListN.{length, take, drop, length-drop}
use lib.Seq.{take_all, take_at, length-take-le}
use Rattle.slicefile.specs.Format.{slice_tag, head_length, body_length, record_length, byte_at, body_of}
use Rattle.slicefile.specs.Refusals.{Tested}
use Rattle.slicefile.specs.declared.Reason.TheVariants.{WrongBuffer, OutOfRange}
use Rattle.rules.specs.Rules.{given, ◌or_else◌}
use Rattle.framing.specs.Framing.{header_refusal, bad_size}
use Rattle.rules.proofs.Refusals.{or_else_left, or_else_right, given_none}
use Rattle.framing.proofs.RecordLaws.{header_tells}
use Rattle.slicerecord.specs.Record.{record_of, body_bytes, record_bytes, Below, Typed}
use Rattle.slicerecord.specs.declared.Record.{Record}
use Rattle.slicerecord.proofs.Pieces.{join, piece_byte, below_piece}
use Rattle.slicerecord.proofs.Encoding.{length_body_bytes, length_record_bytes}
use Rattle.slicerecord.proofs.RoundTrip.{bytes_of_record, record_of_bytes}
use Rattle.slicerecord.proofs.Typing.{bytes_typed}
use Rattle.recordcalls.specs.Calls.{record_refusal, read_refusal, write_refusal, read_record, written}
use Rattle.recordcalls.proofs.Answers.{read_done, read_given, write_done}

-- past their first test the two calls judge alike
rest : ℕ → ℕ → List ℕ → Tested
rest n m s = given OutOfRange (bad_size n m) or_else record_refusal n m s

-- what the reader accepts has 127 bytes
pub read_whole : (s : List ℕ) (n m : ℕ) → read_refusal s n m ≡ Ok tt → length s ≡ record_length slice_tag
unfolding read_refusal
read_whole s n m e = eqb-true _ _ (not-false _ (given_none WrongBuffer _ (or_else_left (given WrongBuffer (not (eqb (length s) (record_length slice_tag)))) _ e)))

-- and so a body of 124
pub read_body_length : (s : List ℕ) (n m : ℕ) → read_refusal s n m ≡ Ok tt → length (body_of slice_tag s) ≡ body_length slice_tag
read_body_length s n m e = length-take-le (body_length slice_tag) (drop head_length s) (rw length-drop (omega (arith, read_whole s n m e)))

read_rest : (s : List ℕ) (n m : ℕ) → read_refusal s n m ≡ Ok tt → rest n m s ≡ Ok tt
unfolding read_refusal rest
read_rest s n m e = or_else_right (given WrongBuffer (not (eqb (length s) (record_length slice_tag)))) _ e

rest_read : (s : List ℕ) (n m : ℕ) → length s ≡ record_length slice_tag → rest n m s ≡ Ok tt → read_refusal s n m ≡ Ok tt
unfolding read_refusal rest
rest_read s n m l e = rw (l, e)

write_rest : (r : Record) (n m size : ℕ) → write_refusal r n m size ≡ Ok tt → rest n m (record_bytes r) ≡ Ok tt
unfolding write_refusal rest
write_rest r n m size e = or_else_right (given WrongBuffer (ltb size (record_length slice_tag))) _ e

rest_write : (r : Record) (n m size : ℕ) → record_length slice_tag ≤ size → rest n m (record_bytes r) ≡ Ok tt → write_refusal r n m size ≡ Ok tt
unfolding write_refusal rest
rest_write r n m size l e = rw (le-ltb _ _ l, e)

-- reading what was written gives the same record
pub read_written : (r : Record) → Typed r → (n m : ℕ) (part : List ℕ) → write_refusal r n m (length part) ≡ Ok tt
    → read_record (take (record_length slice_tag) (written r n m part)) n m ≡ Ok r
unfolding record_bytes
read_written r t n m part h =
    let l = length_record_bytes r t.sized in
    let e : take (record_length slice_tag) (written r n m part) ≡ record_bytes r = rw (← (write_done r n m part h).1) (take_at (record_bytes r) (drop (record_length slice_tag) part) (record_length slice_tag) l) in
    let b : body_of slice_tag (record_bytes r) ≡ body_bytes r = take_all (body_length slice_tag) (body_bytes r) (omega (arith, length_body_bytes r t.sized)) in
    let q : record_of (body_of slice_tag (record_bytes r)) ≡ r = rw b (record_of_bytes r t) in
    rw e (read_done (record_bytes r) n m (rest_read (record_bytes r) n m l (write_rest r n m (length part) h)) ∙ ap Ok q)

-- what the reader gives is what the field types allow
pub read_typed : (s : List ℕ) (n m : ℕ) → Below 256 s → {r : Record} → read_record s n m ≡ Ok r → Typed r
read_typed s n m b e = rw (← (read_given s n m e).1) (bytes_typed (body_of slice_tag s) (below_piece s head_length (body_length slice_tag) b))

-- the bytes of the record that was read
pub bytes_of_read : (s : List ℕ) (n m : ℕ) → Below 256 s → read_refusal s n m ≡ Ok tt → record_bytes (record_of (body_of slice_tag s)) ≡ s
unfolding record_bytes record_refusal rest
bytes_of_read s n m b h =
    let l = read_whole s n m h in
    let told = header_tells slice_tag s (or_else_left (header_refusal slice_tag s) _ (or_else_right (given OutOfRange (bad_size n m)) _ (read_rest s n m h))) in
    let t0 : byte_at s 0 ≡ 2 = told.tag in
    let t1 : byte_at s 1 ≡ body_length slice_tag = omega (arith, told.told, b 1, b 2) in
    let t2 : byte_at s 2 ≡ 0 = omega (arith, told.told, b 1, b 2) in
    let body = bytes_of_record (body_of slice_tag s) (read_body_length s n m h) (below_piece s head_length (body_length slice_tag) b) in
    let whole = join s 0 1 126 (piece_byte s 0 (omega arith)) (join s 1 1 125 (piece_byte s 1 (omega arith)) (join s 2 1 124 {ys = body_of slice_tag s} (piece_byte s 2 (omega arith)) refl)) ∙ take_all (record_length slice_tag) s (omega arith) in
    rw body (rw (t0, t1, t2) at whole)

-- writing what was read gives the same bytes, and is not refused
pub write_read : (s : List ℕ) (n m : ℕ) (part : List ℕ) → Below 256 s → {r : Record} → read_record s n m ≡ Ok r → record_length slice_tag ≤ length part
    → (write_refusal r n m (length part) ≡ Ok tt) × (written r n m part ≡ s ++ drop (record_length slice_tag) part)
write_read s n m part b {r} e l =
    let g = read_given s n m e in
    let same : record_bytes r ≡ s = rw (← g.1) (bytes_of_read s n m b g.0) in
    let none : write_refusal r n m (length part) ≡ Ok tt = rest_write r n m (length part) l (rw same (read_rest s n m g.0)) in
    (none, sym (write_done r n m part none).1 ∙ rw same)
