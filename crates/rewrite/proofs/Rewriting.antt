-- A file rewritten so far: the buffer has the file's first bytes, and each record put behind them is the file's own. Assumes nothing.
use mathlib.Core.Path.{◌≡◌, ◌∙◌, refl, sym, ap}
use mathlib.Core.Bool.{false, not}
use Rattle.std.specs.Prelude.{Ok}
use mathlib.Core.List.{List, [], ◌∷◌, ◌++◌, append_assoc, append-nil}
use Prim.Native.Nat.{ℕ, ◌+◌, ◌-◌, ◌*◌, ◌%◌, ◌≤◌, ◌<◌}
use native.Mathlib.Nat.{add-sub_cancel_left}
use native.Mathlib.Omega.{arith}
use borrow.Author.Tests.{eqb-true, not-false, lt-ltb}
use lib.Dec.{eqb}
use lib.ListN.{length, take, drop, length-drop, take-append-drop, drop_of_length-le}
use lib.Seq.{take_all, take-add, take_at, take-append-add, length-take-le}
use Rattle.slicefile.specs.Format.{slice_limit, input_limit, size_tag, slice_tag, end_tag, record_length, end_record, byte_at, body_of, slice_count, input_count, number_byte}
use Rattle.slicefile.specs.declared.Reason.TheVariants.{NotDue, OutsideList}
use Rattle.rules.specs.Rules.{given, body_refusal}
use Rattle.framing.specs.Framing.{header_refusal, bad_size, slice_refusal, size_refusal}
use Rattle.rules.proofs.Refusals.{or_else_left, or_else_right, given_none}
use Rattle.framing.proofs.RecordLaws.{header_tells, size_whole}
use Rattle.framing.proofs.EndLaws.{end_bytes}
use Rattle.framing.proofs.PrefixLaws.{slice_stays, slice_cut}
use Rattle.slicerecord.proofs.Pieces.{piece, join, piece_byte}
use Rattle.recordcalls.specs.Calls.{record_refusal, read_refusal}
use Rattle.column.specs.File.{record_start}
use Rattle.column.specs.Check.{IsSound}
use Rattle.column.proofs.Places.{start_at}
use Rattle.column.proofs.SoundLaws.{SoundFile, sound_file, record_inside}

-- a piece of the file, put behind its first bytes
pub copied_next :
    (file out piece rest : List ℕ) (at k : ℕ) → at + k ≤ length file → length out ≡ length file → take at out ≡ take at file
    → piece ≡ take k (drop at file) → take (at + k) (take at out ++ (piece ++ rest)) ≡ take (at + k) file
copied_next file out piece rest at k fits size same e =
    let long : length (take at out) ≡ at = length-take-le at out (omega arith) in
    let short : length piece ≡ k = ap length e ∙ length-take-le k (drop at file) (rw length-drop (omega arith)) in
    let add = take-append-add (take at out) (piece ++ rest) k in
    rw long at add ∙ rw (take_at piece rest k short, same, e, take-add)

-- the number byte of a good slice
number_byte_lem : (n m s : ℕ) (body : List ℕ) → s < 256 → body_refusal n m s body ≡ Ok tt → number_byte body ≡ s
unfolding body_refusal
number_byte_lem n m s body l e =
    omega (arith, eqb-true (number_byte body) (s % 256) (not-false _ (given_none NotDue _ (or_else_left (given NotDue (not (eqb (number_byte body) (s % 256)))) _ e))))

module _ (file : List ℕ) {n m : ℕ} (f : SoundFile file n m) where
  whole : record_length size_tag ≤ length file
  whole = size_whole file f.begins

  -- the size record is made of n and m
  pub size_bytes : (1 ∷ 2 ∷ 0 ∷ n ∷ m ∷ []) ≡ take (record_length size_tag) (drop 0 file)
  unfolding size_refusal
  size_bytes =
      let told = header_tells size_tag file (or_else_left (header_refusal size_tag file) _ f.begins) in
      let t0 : byte_at file 0 ≡ 1 = told.tag in
      let t1 : byte_at file 1 ≡ 2 = omega (arith, told.told) in
      let t2 : byte_at file 2 ≡ 0 = omega (arith, told.told) in
      let five =
      join file 0 1 4 (piece_byte file 0 (omega (arith, whole)))
      (join file 1 1 3 (piece_byte file 1 (omega (arith, whole)))
      (join file 2 1 2 (piece_byte file 2 (omega (arith, whole)))
      (join file 3 1 1 (piece_byte file 3 (omega (arith, whole))) (piece_byte file 4 (omega (arith, whole)))))) in
      rw (t0, t1, t2, f.count, f.inputs) at five

  -- the record of slice s, whole and by itself
  abbrev pub slice_record : ℕ → List ℕ
  slice_record s = take (record_length slice_tag) (drop (record_start file s) file)

  pub record_size : (s : ℕ) → s < n → length (slice_record s) ≡ record_length slice_tag
  record_size s l = length-take-le (record_length slice_tag) (drop (record_start file s) file) (rw length-drop (omega (arith, record_inside file f s l)))

  record_good : (s : ℕ) → s < n → slice_refusal n m s (slice_record s) ≡ Ok tt
  record_good s l =
      let stays = slice_stays n m s (slice_record s) (drop (record_length slice_tag) (drop (record_start file s) file)) (λ z. omega (arith, slice_cut n m s (slice_record s) z, record_size s l)) in
      sym (rw take-append-drop at stays) ∙ f.each s l

  size_good : bad_size n m ≡ false
  unfolding size_refusal
  size_good =
      rw (f.count, f.inputs) at (given_none OutsideList (bad_size (slice_count file) (input_count file)) (or_else_right (header_refusal size_tag file) (given OutsideList (bad_size (slice_count file) (input_count file))) f.begins))

  -- the reader takes it: its number is below n
  pub record_read : (s : ℕ) → s < n → read_refusal (slice_record s) n m ≡ Ok tt
  unfolding read_refusal record_refusal slice_refusal
  record_read s l =
      let body = body_of slice_tag (slice_record s) in
      let g = record_good s l in
      let head = or_else_left (header_refusal slice_tag (slice_record s)) (body_refusal n m s body) g in
      let rest = or_else_right (header_refusal slice_tag (slice_record s)) (body_refusal n m s body) g in
      let number : number_byte body ≡ s = number_byte_lem n m s body (omega (arith, f.slices_fit)) rest in
      simp (record_size s l, size_good, head, number, lt-ltb s n l, rest)

  -- a slice's record, read from its place and put there, with what stood behind it
  pub slice_next : (out tail more : List ℕ) (s at next : ℕ) → s < n → at ≡ record_start file s → next ≡ at + record_length slice_tag → length out ≡ length file
      → take at out ≡ take at file → take next (take at out ++ ((take (at + record_length slice_tag - at) (drop at file) ++ tail) ++ more)) ≡ take next file
  slice_next out tail more s at next l here e size same =
      rw (e, append_assoc, add-sub_cancel_left)
      (copied_next file out (take (record_length slice_tag) (drop at file)) (tail ++ more) at (record_length slice_tag) (omega (arith, record_inside file f s l)) size same refl)

  -- the size record, put at the front of any buffer of the file's length
  pub size_next : (out front : List ℕ) → front ≡ 1 ∷ 2 ∷ 0 ∷ n ∷ m ∷ [] → length out ≡ length file
      → (length (front ++ drop (record_length size_tag) out) ≡ length file)
      × (take (record_length size_tag) (front ++ drop (record_length size_tag) out) ≡ take (record_length size_tag) file)
  size_next out front e size = (
    rw (e, length-drop) (omega (arith, size, whole)),
    copied_next file out front (drop (record_length size_tag) out) 0 (record_length size_tag) whole size refl (e ∙ size_bytes),
  )

  -- the end record, put last, makes it the file
  pub end_next : (out last : List ℕ) (at : ℕ) → at ≡ record_start file n → length out ≡ length file → take at out ≡ take at file → last ≡ end_record
      → take at out ++ (last ++ drop (length out - at) (drop at out)) ≡ file
  end_next out last at here size same e =
      let whole : drop at file ≡ take (record_length end_tag) (drop at file) = sym (take_all (record_length end_tag) (drop at file) (rw length-drop (omega (arith, f.size)))) in
      let rest : drop at file ≡ last = whole ∙ rw here (end_bytes (drop (record_start file n) file) f.ends) ∙ sym e in
      rw (same, drop_of_length-le (drop at out) {i = length out - at} (rw length-drop (omega arith)), append-nil, ← rest) (take-append-drop at file)

module _ (file : List ℕ) {n m : ℕ} (e : IsSound file n m) where
  -- a sound file in numbers
  pub sound_length : length file ≡ record_length size_tag + record_length slice_tag * n + record_length end_tag
  sound_length = omega (arith, (sound_file file e).size, start_at file n)

  pub sound_slices : n ≤ slice_limit
  sound_slices = (sound_file file e).slices_fit

  pub sound_inputs : m ≤ input_limit
  sound_inputs = (sound_file file e).inputs_fit
