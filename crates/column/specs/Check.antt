-- Refusals 1 to 8 of a whole file: "the first bad record decides".
use Rattle.std.specs.Prelude.{ℕ, zero, suc, ◌+◌, ◌-◌, ◌≤◌, ◌<◌, ◌≡◌, Ok, Err, List, ltb, length, drop}
use Rattle.slicefile.specs.Format.{slice_tag, end_tag, record_length, slice_count, input_count}
use Rattle.slicefile.specs.declared.Reason.TheVariants.{BytesAfterEnd}
use Rattle.slicefile.specs.Refusals.{refused, sized, Tested, Verdict}
use Rattle.rules.specs.Rules.{given}
use Rattle.framing.specs.Framing.{header_refusal, slice_refusal, size_refusal}
use Rattle.column.specs.File.{size_length, record_start}

-- a reason, at its place, or the rest
abbrev pub first_bad : Tested → ℕ → Verdict → Verdict
first_bad (Ok u) place rest = rest
first_bad (Err r) place rest = Err (refused r place)

-- the end record at a place, and 8 for bytes after it, at the first of them
unfoldable pub check_end : ℕ → ℕ → ℕ → List ℕ → Verdict
check_end n m place s =
    first_bad (header_refusal end_tag s) place
    (first_bad (given BytesAfterEnd (ltb (record_length end_tag) (length s))) (place + record_length end_tag) (Ok (sized n m)))

-- the slice records from number s on, of which some are left, and the end record; the first of these bytes stands at a place
unfoldable pub check_slices : ℕ → ℕ → ℕ → ℕ → ℕ → List ℕ → Verdict
check_slices n m zero s place bytes = check_end n m place bytes
check_slices n m (suc left) s place bytes =
    let rest = check_slices n m left (suc s) (place + record_length slice_tag) (drop (record_length slice_tag) bytes) in
    first_bad (slice_refusal n m s bytes) place rest

-- the whole file: the size record first, then the slices it counts
unfoldable pub check_file : List ℕ → Verdict
check_file file =
    let rest = check_slices (slice_count file) (input_count file) (slice_count file) 0 (size_length file) (drop (size_length file) file) in
    first_bad (size_refusal file) 0 rest

-- ---- the check in parts: taken up at a slice, those before it having passed
unfoldable pub check_from : ℕ → List ℕ → Verdict
check_from s file =
    let n = slice_count file in
    let at = record_start file s in
    first_bad (size_refusal file) 0 (check_slices n (input_count file) (n - s) s at (drop at file))

-- a count that goes on only where no reason is given
abbrev pub stop_at : Tested → ℕ → ℕ → ℕ
stop_at (Ok u) count on = on
stop_at (Err r) count on = count

-- how many slices have passed then: those before the first bad one
unfoldable pub pass_slices : ℕ → ℕ → ℕ → ℕ → List ℕ → ℕ
pass_slices n m zero s bytes = s
pass_slices n m (suc left) s bytes = stop_at (slice_refusal n m s bytes) s (pass_slices n m left (suc s) (drop (record_length slice_tag) bytes))

unfoldable pub passed_from : ℕ → List ℕ → ℕ
passed_from s file =
    let n = slice_count file in
    stop_at (size_refusal file) s (pass_slices n (input_count file) (n - s) s (drop (record_start file s) file))

-- the records of the slices below a number are good
abbrev pub GoodBelow : List ℕ → ℕ → Type 0
GoodBelow file s = (i : ℕ) → i < s → slice_refusal (slice_count file) (input_count file) i (drop (record_start file i) file) ≡ Ok tt

-- so many slices of a file have passed, and the size record before them
pub record Passed (file : List ℕ) (count : ℕ) : Type 0 where
  pub begins : 0 < count → size_refusal file ≡ Ok tt
  pub within : count ≤ slice_count file
  pub good : GoodBelow file count

-- a file of n slices and m outside inputs whose records are all good
abbrev pub IsSound : List ℕ → ℕ → ℕ → Type 0
IsSound file n m = check_file file ≡ Ok (sized n m)
