-- Where the records of a file stand. Laws above speak of `size_length` and `record_start`; what they are in numbers is said here. Assumes nothing.
use mathlib.Core.Path.{◌≡◌, refl}
use Rattle.std.specs.Prelude.{Ok}
use mathlib.Core.List.{List, ◌++◌}
use Prim.Native.Nat.{ℕ, ◌+◌, ◌*◌, ◌≤◌, ◌<◌}
use native.Mathlib.Omega.{arith}
use lib.ListN.{length, drop}
use lib.Seq.{drop-drop}
use Rattle.slicefile.specs.Format.{slice_limit, size_tag, slice_tag, record_length}
use Rattle.framing.specs.Framing.{size_refusal}
use Rattle.framing.proofs.RecordLaws.{size_whole}
use Rattle.column.specs.File.{size_length, slice_tag_of, record_start, file_length, file_limit}

module _ (file : List ℕ) where
  -- ---- in numbers

  pub size_length_lem : size_length file ≡ record_length size_tag
  unfolding size_length
  size_length_lem = refl

  pub start_from : (s : ℕ) → record_start file s ≡ size_length file + record_length slice_tag * s
  unfolding record_start slice_tag_of
  start_from s = refl

  pub start_at : (s : ℕ) → record_start file s ≡ record_length size_tag + record_length slice_tag * s
  start_at s = omega (arith, start_from s, size_length_lem)

  -- no file of as many slices as there may be is longer than the longest
  pub file_within : (n : ℕ) → n ≤ slice_limit → file_length file n ≤ file_limit
  file_within n l = omega (arith, start_at n)

  -- ---- from record to record

  -- a good size record is inside the file
  pub size_inside : size_refusal file ≡ Ok tt → size_length file ≤ length file
  size_inside good = rw size_length_lem (size_whole file good)

  -- the first slice stands behind the size record, each other one behind the slice before it
  pub start_first : record_start file 0 ≡ size_length file
  start_first = omega (arith, start_from 0)

  pub start_next : (s : ℕ) → record_start file (s + 1) ≡ record_start file s + record_length slice_tag
  start_next s = omega (arith, start_from s, start_from (s + 1))

  -- a slice's record ends before any later record begins
  pub start_before : {s n : ℕ} → s < n → record_start file s + record_length slice_tag ≤ record_start file n
  start_before {s} {n} l = omega (arith, start_from s, start_from n)

  -- the bytes from slice s on, counted from the first slice
  pub drop_start : (s : ℕ) → drop (record_length slice_tag * s) (drop (size_length file) file) ≡ drop (record_start file s) file
  drop_start s = rw start_from (drop-drop (record_length slice_tag * s) (size_length file) file)

  -- bytes after a file don't move its first slice
  pub length_stays : (x : List ℕ) → size_length (file ++ x) ≡ size_length file
  unfolding size_length
  length_stays x = refl

  -- nor its other records
  pub start_stays : (x : List ℕ) (s : ℕ) → record_start (file ++ x) s ≡ record_start file s
  unfolding record_start slice_tag_of size_length
  start_stays x s = refl
