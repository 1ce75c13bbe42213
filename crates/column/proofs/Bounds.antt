-- The refusals of a file's records are numbered 1 to 8, at a place within the longest file. Assumes nothing.
use mathlib.Core.Path.{◌≡◌, refl, subst}
use mathlib.Core.Bool.{Bool, true, false, not, ◌&&◌}
use Rattle.std.specs.Prelude.{Ok, Err}
use mathlib.Core.List.{List}
use Prim.Native.Nat.{ℕ, zero, suc, ◌+◌, ◌-◌, ◌*◌, ◌%◌, ◌≤◌}
use native.Mathlib.Omega.{arith}
use lib.Dec.{ltb, leb, eqb}
use lib.ListN.{length, drop}
use Rattle.slicefile.specs.Format.{slice_limit, size_tag, slice_tag, end_tag, head_length, body_length, record_length, byte_at, pair_at, body_of, slice_count, input_count, number_byte}
use Rattle.slicefile.specs.declared.Reason.{Reason}
use Rattle.slicefile.specs.declared.Reason.TheVariants.{Cut, UnknownTag, WrongLength, NotDue, OutsideList, Combination, NoDriver, BytesAfterEnd}
use Rattle.slicefile.specs.Refusals.{number, reason_of, sized, Tested, Verdict}
use Rattle.rules.specs.Rules.{given, ◌or_else◌, bad_choice, bad_combination, bad_driver, body_refusal}
use Rattle.framing.specs.Framing.{header_refusal, bad_size, slice_refusal, size_refusal}
use Rattle.framing.proofs.RecordLaws.{size_tells}
use Rattle.column.specs.File.{record_start, file_limit}
use Rattle.column.specs.Check.{first_bad, check_end, check_slices, check_file, check_from}
use Rattle.column.proofs.Places.{start_at}
use Rattle.column.proofs.CheckLaws.{from_start}

-- a reason that has a name and is numbered from 1 to a bound
abbrev pub Numbered : ℕ → Reason → Type 0
Numbered most r = (1 ≤ number r) × (number r ≤ most) × (reason_of (number r) ≡ r)

-- the reason that tests give, if any, is one
abbrev pub Most : ℕ → Tested → Type 0
Most most (Ok u) = Unit {0}
Most most (Err r) = Numbered most r

pub given_most : (most : ℕ) (r : Reason) (b : Bool) → Numbered most r → Most most (given r b)
given_most most r true h = h
given_most most r false h = tt

pub or_else_most : (most : ℕ) (a b : Tested) → Most most a → Most most b → Most most (a or_else b)
or_else_most most (Ok u) b h l = l
or_else_most most (Err r) b h l = h

-- the first of several tests
pub test_most : (most : ℕ) (r : Reason) (b : Bool) (rest : Tested) → Numbered most r → Most most rest → Most most (given r b or_else rest)
test_most most r b rest h l = or_else_most most (given r b) rest (given_most most r b h) l

-- a larger bound
pub most_more : (few most : ℕ) (t : Tested) → few ≤ most → Most few t → Most most t
most_more few most (Ok u) h l = tt
most_more few most (Err r) h l = (l.0, omega (arith, l.1), l.2)

pub header_most : (due : ℕ) (s : List ℕ) → Most 8 (header_refusal due s)
unfolding header_refusal
header_most due s =
    test_most 8 Cut (ltb (length s) head_length) _ (omega arith, omega arith, refl)
    (test_most 8 UnknownTag (not (leb size_tag (byte_at s 0) && leb (byte_at s 0) end_tag)) _ (omega arith, omega arith, refl)
    (test_most 8 NotDue (not (eqb (byte_at s 0) due)) _ (omega arith, omega arith, refl)
    (test_most 8 WrongLength (not (eqb (pair_at s 1) (body_length due))) _ (omega arith, omega arith, refl)
    (given_most 8 Cut (ltb (length s) (record_length due)) (omega arith, omega arith, refl)))))

pub body_most : (n m number : ℕ) (body : List ℕ) → Most 8 (body_refusal n m number body)
unfolding body_refusal
body_most n m number body =
    test_most 8 NotDue (not (eqb (number_byte body) (number % 256))) _ (omega arith, omega arith, refl)
    (test_most 8 OutsideList (bad_choice body) _ (omega arith, omega arith, refl)
    (test_most 8 Combination (bad_combination number body) _ (omega arith, omega arith, refl)
    (given_most 8 NoDriver (bad_driver n m body) (omega arith, omega arith, refl))))

slice_most : (n m number : ℕ) (s : List ℕ) → Most 8 (slice_refusal n m number s)
unfolding slice_refusal
slice_most n m number s = or_else_most 8 (header_refusal slice_tag s) _ (header_most slice_tag s) (body_most n m number (body_of slice_tag s))

size_most : (s : List ℕ) → Most 8 (size_refusal s)
unfolding size_refusal
size_most s =
    or_else_most 8 (header_refusal size_tag s) _ (header_most size_tag s)
    (given_most 8 OutsideList (bad_size (byte_at s 3) (byte_at s 4)) (omega arith, omega arith, refl))

-- what the records say of a file
abbrev pub SmallChecked : Verdict → Type 0
SmallChecked (Err r) = (1 ≤ number r.reason) × (number r.reason ≤ 8) × (r.place ≤ file_limit) × (reason_of (number r.reason) ≡ r.reason)
SmallChecked (Ok size) = Unit {0}

first_small : (t : Tested) (place : ℕ) (rest : Verdict) → Most 8 t → place ≤ file_limit → (t ≡ Ok tt → SmallChecked rest) → SmallChecked (first_bad t place rest)
first_small (Ok u) place rest h l later = later refl
first_small (Err r) place rest h l later = (h.0, h.1, l, h.2)

end_small : (n m place : ℕ) (s : List ℕ) → place + record_length end_tag ≤ file_limit → SmallChecked (check_end n m place s)
unfolding check_end
end_small n m place s l =
    first_small (header_refusal end_tag s) place _ (header_most end_tag s) (omega arith)
    (λ z. first_small (given BytesAfterEnd (ltb (record_length end_tag) (length s))) (place + record_length end_tag) (Ok (sized n m))
    (given_most 8 BytesAfterEnd (ltb (record_length end_tag) (length s)) (omega arith, omega arith, refl)) l (λ y. tt))

slices_small : (n m left s place : ℕ) (bytes : List ℕ) → place + record_length slice_tag * left + record_length end_tag ≤ file_limit
    → SmallChecked (check_slices n m left s place bytes)
unfolding check_slices
slices_small n m zero s place bytes l = end_small n m place bytes (omega arith)
slices_small n m (suc left) s place bytes l =
    first_small (slice_refusal n m s bytes) place _ (slice_most n m s bytes) (omega arith)
    (λ z. slices_small n m left (suc s) (place + record_length slice_tag) (drop (record_length slice_tag) bytes) (omega arith))

-- also where the check is taken up at a slice
pub from_small : (file : List ℕ) (s : ℕ) → s ≤ slice_limit → SmallChecked (check_from s file)
unfolding check_from
from_small file s h =
    first_small (size_refusal file) 0 _ (size_most file) (omega arith)
    (λ z. slices_small (slice_count file) (input_count file) (slice_count file - s) s (record_start file s) (drop (record_start file s) file)
    (omega (arith, start_at file s, (size_tells file z).1)))

pub checked_small : (file : List ℕ) → SmallChecked (check_file file)
checked_small file = subst SmallChecked (from_start file) (from_small file 0 (omega arith))
