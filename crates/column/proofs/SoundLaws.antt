-- What a file with sound records is: its length, its n and m, and each slice's record. Assumes nothing.
use mathlib.Core.Path.{◌≡◌, refl, ap}
use Rattle.std.specs.Prelude.{Ok, Err}
use mathlib.Core.List.{List}
use Prim.Native.Nat.{ℕ, zero, suc, ◌+◌, ◌-◌, ◌*◌, ◌≤◌, ◌<◌}
use native.Mathlib.Nat.{zero-add, add-zero, add-sub_cancel_left}
use native.Mathlib.Omega.{arith}
use borrow.Author.Tests.{ltb-false}
use lib.Dec.{ltb}
use lib.ListN.{length, take, drop, length-drop}
use lib.Seq.{drop-drop, length-take-le}
use Rattle.slicefile.specs.Format.{slice_limit, input_limit, size_tag, slice_tag, end_tag, head_length, body_length, record_length, slice_count, input_count}
use Rattle.slicefile.specs.declared.Reason.TheVariants.{BytesAfterEnd}
use Rattle.slicefile.specs.declared.Size.{Size}
use Rattle.slicefile.specs.Refusals.{sized, Tested, Verdict}
use Rattle.rules.specs.Rules.{given, body_refusal}
use Rattle.framing.specs.Framing.{header_refusal, slice_refusal, size_refusal}
use Rattle.rules.proofs.Refusals.{given_none, or_else_right}
use Rattle.framing.proofs.RecordLaws.{header_whole, slice_whole, size_tells}
use Rattle.column.specs.File.{size_length, slice_tag_of, record_start, file_length, slice_body}
use Rattle.column.specs.Check.{first_bad, check_end, check_slices, check_file}
use Rattle.column.proofs.Places.{start_from, start_at, size_inside, start_before, drop_start}

pub sound_first : (t : Tested) (place : ℕ) (rest : Verdict) {size : Size} → first_bad t place rest ≡ Ok size → (t ≡ Ok tt) × (rest ≡ Ok size)
sound_first (Ok u) place rest e = (refl, e)
sound_first (Err r) place rest e = absurd (cc e)

-- the slice records from s on, of which some are left: each is good, and the end record ends the bytes
record SoundSlices (n m left s : ℕ) (bytes : List ℕ) (end : Size) : Type 0 where
  pub size : length bytes ≡ record_length slice_tag * left + record_length end_tag
  pub count : n ≡ end.n
  pub inputs : m ≡ end.m
  pub each : (k : ℕ) → k < left → slice_refusal n m (s + k) (drop (record_length slice_tag * k) bytes) ≡ Ok tt
  pub ends : header_refusal end_tag (drop (record_length slice_tag * left) bytes) ≡ Ok tt

sound_end : (n m place : ℕ) (bytes : List ℕ) {size : Size} → check_end n m place bytes ≡ Ok size → (length bytes ≡ record_length end_tag) × (sized n m ≡ size) × (header_refusal end_tag bytes ≡ Ok tt)
unfolding check_end
sound_end n m place bytes e =
    let a = sound_first (header_refusal end_tag bytes) place _ e in
    let b = sound_first (given BytesAfterEnd (ltb (record_length end_tag) (length bytes))) (place + record_length end_tag) (Ok (sized n m)) a.1 in
    (omega (arith, header_whole end_tag bytes a.0, ltb-false (record_length end_tag) (length bytes) (given_none BytesAfterEnd _ b.0)), cc b.1, a.0)

sound_slices : (n m left s place : ℕ) (bytes : List ℕ) {size : Size} → check_slices n m left s place bytes ≡ Ok size → SoundSlices n m left s bytes size
unfolding check_slices
sound_slices n m zero s place bytes e =
    let a = sound_end n m place bytes e in
    record {
      size = omega arith;
      count = ap (λ (t : Size). t.n) a.1;
      inputs = ap (λ (t : Size). t.m) a.1;
      each = λ k l. absurd (omega arith);
      ends = a.2;
    }
sound_slices n m (suc left) s place bytes {size} e =
    let next = drop (record_length slice_tag) bytes in
    let a = sound_first (slice_refusal n m s bytes) place _ e in
    let r : SoundSlices n m left (suc s) next size = sound_slices n m left (suc s) (place + record_length slice_tag) next a.1 in
    record {
      size = omega (arith, r.size, length-drop (record_length slice_tag) bytes, slice_whole n m s bytes a.0);
      count = r.count;
      inputs = r.inputs;
      each = each_of a.0 r.each;
      ends = rw (more left, ← drop-drop) r.ends;
    }
  where
    more : (k : ℕ) → record_length slice_tag * suc k ≡ record_length slice_tag + record_length slice_tag * k
    more k = omega arith

    each_of :
        slice_refusal n m s bytes ≡ Ok tt
        → ((k : ℕ) → k < left → slice_refusal n m (suc s + k) (drop (record_length slice_tag * k) (drop (record_length slice_tag) bytes)) ≡ Ok tt)
        → (k : ℕ) → k < suc left → slice_refusal n m (s + k) (drop (record_length slice_tag * k) bytes) ≡ Ok tt
    each_of here later zero l = rw add-zero here
    each_of here later (suc k) l =
        let f : s + suc k ≡ suc s + k = omega arith in
        rw (f, more k, ← drop-drop) (later k (omega arith))

-- a file with sound records has 8 + 127n bytes, n and m are the size record's and within the limits, and each record is good
pub record SoundFile (file : List ℕ) (n m : ℕ) : Type 0 where
  pub size : length file ≡ file_length file n
  pub count : slice_count file ≡ n
  pub inputs : input_count file ≡ m
  pub some : 1 ≤ n
  pub slices_fit : n ≤ slice_limit
  pub inputs_fit : m ≤ input_limit
  pub begins : size_refusal file ≡ Ok tt
  pub each : (s : ℕ) → s < n → slice_refusal n m s (drop (record_start file s) file) ≡ Ok tt
  pub ends : header_refusal end_tag (drop (record_start file n) file) ≡ Ok tt

pub sound_file : (file : List ℕ) {size : Size} → check_file file ≡ Ok size → SoundFile file size.n size.m
unfolding check_file
sound_file file {size} e =
    let a = sound_first (size_refusal file) 0 _ e in
    let w = size_tells file a.0 in
    let first = drop (size_length file) file in
    let r : SoundSlices (slice_count file) (input_count file) (slice_count file) 0 first size = sound_slices (slice_count file) (input_count file) (slice_count file) 0 (size_length file) first a.1 in
    record {
      size = rw (← r.count) (omega (arith, r.size, length-drop (size_length file) file, size_inside file a.0, start_from file (slice_count file)));
      count = r.count;
      inputs = r.inputs;
      some = omega (arith, r.count);
      slices_fit = omega (arith, r.count);
      inputs_fit = omega (arith, r.inputs);
      begins = a.0;
      each = λ s l. rw (← r.count, ← r.inputs, ← drop_start) (rw zero-add at (r.each s (omega (arith, r.count))));
      ends = rw (← r.count, ← drop_start) r.ends;
    }

-- the record of a slice is inside the file
pub record_inside : (file : List ℕ) {n m : ℕ} → SoundFile file n m → (s : ℕ) → s < n → record_start file s + record_length slice_tag ≤ length file
record_inside file f s l = omega (arith, f.size, start_before file l)

-- the part of a file that is the body of slice s
pub body_part : (file : List ℕ) (s : ℕ)
    → let at = record_length size_tag + record_length slice_tag * s + head_length in take (at + body_length slice_tag - at) (drop at file) ≡ slice_body file s
unfolding slice_body slice_tag_of
body_part file s = rw (add-sub_cancel_left, ← start_at file s, ← drop-drop)

pub body_length_lem : (file : List ℕ) {n m : ℕ} → SoundFile file n m → (s : ℕ) → s < n → length (slice_body file s) ≡ body_length slice_tag
unfolding slice_body slice_tag_of
body_length_lem file f s l =
    length-take-le (body_length slice_tag) (drop head_length (drop (record_start file s) file)) (simp length-drop (omega (arith, record_inside file f s l)))

-- the body of a slice keeps the rules
pub body_good : (file : List ℕ) {n m : ℕ} → SoundFile file n m → (s : ℕ) → s < n → body_refusal n m s (slice_body file s) ≡ Ok tt
unfolding slice_refusal slice_body slice_tag_of
body_good file f s l = or_else_right (header_refusal slice_tag _) _ (f.each s l)
