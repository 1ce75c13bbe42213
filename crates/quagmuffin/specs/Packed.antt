-- An answer as one number: in the low 8 bits the refusal's number (0: none), above them its place; where the judge accepts, n in bits 8 to 23 and m
-- from bit 24.
use Rattle.std.specs.Prelude.{ℕ, ◌+◌, ◌*◌, ◌/◌, ◌%◌, ◌^◌, ◌≤◌, ◌<◌, ◌≡◌, Ok, Err, cond, eqb}
use Rattle.slicefile.specs.Format.{slice_limit, input_limit}
use Rattle.slicefile.specs.declared.Refusal.{Refusal}
use Rattle.slicefile.specs.Refusals.{number, reason_of, refused, sized, Answer, Verdict}
use Rattle.column.specs.File.{file_limit}

-- a number in the low 8 bits, and what stands above it
abbrev pub pack : ℕ → ℕ → ℕ
pack low above = low + 256 * above

abbrev pub pack_refusal : Refusal → ℕ
pack_refusal r = pack (number r.reason) r.place

abbrev pub pack_answer : Answer → ℕ
pack_answer (Ok u) = 0
pack_answer (Err r) = pack_refusal r

abbrev pub pack_verdict : Verdict → ℕ
pack_verdict (Ok size) = pack 0 (size.n + 65536 * size.m)
pack_verdict (Err r) = pack_refusal r

-- and back: what the header's QM_NUMBER, QM_PLACE, QM_SLICES and QM_INPUTS read off a number
abbrev pub unpack_refusal : ℕ → Refusal
unpack_refusal i = refused (reason_of (i % 256)) (i / 256)

abbrev pub unpack_answer : ℕ → Answer
unpack_answer i = cond (eqb (i % 256) 0) (Ok tt) (Err (unpack_refusal i))

abbrev pub unpack_verdict : ℕ → Verdict
unpack_verdict i = cond (eqb (i % 256) 0) (Ok (sized (i / 256 % 65536) (i / 16777216))) (Err (unpack_refusal i))

-- the number is an answer packed, of which the promise holds
pub record Packed {A : Type 0} (packed : A → ℕ) (Promise : A → Type 0) (number : ℕ) : Type 0 where
  pub answer : A
  pub promised : Promise answer
  pub same : number ≡ packed answer

-- what an exported call on a file promises, from what the call below it does
abbrev pub Answered : (Answer → Type 0) → ℕ → Type 0
Answered = Packed pack_answer

-- a refusal, an answer, a verdict that 64 bits hold
abbrev pub FitsRefusal : Refusal → Type 0
FitsRefusal r = (number r.reason < 256) × (r.place < 2 ^ 56)

abbrev pub FitsAnswer : Answer → Type 0
FitsAnswer (Ok u) = Unit {0}
FitsAnswer (Err r) = FitsRefusal r

abbrev pub Fits : Verdict → Type 0
Fits (Ok size) = (size.n < 65536) × (size.m < 2 ^ 40)
Fits (Err r) = FitsRefusal r

-- refusals 1 to 11, each by its name, at a place within the longest file
abbrev pub Small : Refusal → Type 0
Small r = (1 ≤ number r.reason) × (number r.reason ≤ 11) × (r.place ≤ file_limit) × (reason_of (number r.reason) ≡ r.reason)

abbrev pub SmallAnswer : Answer → Type 0
SmallAnswer (Ok u) = Unit {0}
SmallAnswer (Err r) = Small r

abbrev pub SmallVerdict : Verdict → Type 0
SmallVerdict (Ok size) = (1 ≤ size.n) × (size.n ≤ slice_limit) × (size.m ≤ input_limit)
SmallVerdict (Err r) = Small r
