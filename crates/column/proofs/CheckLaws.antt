-- The check of a file's records, step by step: a bad record decides, a good one leaves the rest to decide. Assumes nothing.
use mathlib.Core.Path.{◌≡◌, ◌∙◌, refl, sym, ap, ap₂}
use Rattle.std.specs.Prelude.{Ok, Err}
use mathlib.Core.List.{List, []}
use Prim.Native.Nat.{ℕ, zero, suc, ◌+◌, ◌-◌, ◌≤◌, ◌<◌}
use native.Mathlib.Nat.{sub-zero}
use native.Mathlib.Omega.{arith}
use lib.ListN.{length, take, drop, length-drop, drop_of_length-le}
use lib.Seq.{take_all, drop-drop}
use Rattle.slicefile.specs.Format.{slice_tag, record_length, slice_count, input_count}
use Rattle.slicefile.specs.declared.Reason.{Reason}
use Rattle.slicefile.specs.declared.Reason.TheVariants.{Cut}
use Rattle.slicefile.specs.Refusals.{refused, Tested, Verdict}
use Rattle.framing.specs.Framing.{header_refusal, slice_refusal, size_refusal}
use Rattle.framing.proofs.RecordLaws.{slice_whole}
use Rattle.column.specs.File.{record_start}
use Rattle.column.specs.Check.{first_bad, check_end, check_slices, check_file, check_from, stop_at, pass_slices, passed_from, GoodBelow}
use Rattle.column.proofs.Places.{size_inside, start_first, start_next}

pub bad_first : (t : Tested) (place : ℕ) (rest : Verdict) {r : Reason} → t ≡ Err r → Err (refused r place) ≡ first_bad t place rest
bad_first (Ok u) place rest e = absurd (cc e)
bad_first (Err a) place rest {r} e =
    let same : a ≡ r = cc in
    ap (λ (q : Reason). Err (refused q place)) (sym same)

pub good_first : (t : Tested) (place : ℕ) (rest : Verdict) → t ≡ Ok tt → first_bad t place rest ≡ rest
good_first (Ok u) place rest e = refl
good_first (Err r) place rest e = absurd (cc e)

-- a count stops at a bad record, and goes on after a good one
count_stops : (t : Tested) (count on : ℕ) {r : Reason} → t ≡ Err r → count ≡ stop_at t count on
count_stops (Ok u) count on e = absurd (cc e)
count_stops (Err a) count on e = refl

count_goes_on : (t : Tested) (count on : ℕ) → t ≡ Ok tt → stop_at t count on ≡ on
count_goes_on (Ok u) count on e = refl
count_goes_on (Err r) count on e = absurd (cc e)

-- where no bytes are left
nothing_left : (n m left s at : ℕ) → check_slices n m left s at [] ≡ Err (refused Cut at)
unfolding check_slices check_end slice_refusal header_refusal
nothing_left n m zero s at = refl
nothing_left n m (suc left) s at = refl

none_counted : (n m left s : ℕ) → pass_slices n m left s [] ≡ s
unfolding pass_slices slice_refusal header_refusal
none_counted n m zero s = refl
none_counted n m (suc left) s = refl

-- the whole of a list from a place on
pub tail_whole : (s : List ℕ) (at : ℕ) → take (length s - at) (drop at s) ≡ drop at s
tail_whole s at = take_all (length s - at) (drop at s) (rw length-drop (omega arith))

-- ---- the check taken up at one slice stands at another, whose record begins at a place: the records from there on decide it, and are counted
module _ (file : List ℕ) where
  abbrev n : ℕ
  n = slice_count file

  abbrev m : ℕ
  m = input_count file

  pub record Stands (from s at : ℕ) : Type 0 where
    pub place : at ≡ record_start file s
    pub inside : at ≤ length file
    pub decides : check_from from file ≡ check_slices n m (n - s) s at (drop at file)
    pub counts : passed_from from file ≡ pass_slices n m (n - s) s (drop at file)

  -- a bad size record decides
  pub size_bad : (from : ℕ) {r : Reason} → Err r ≡ size_refusal file → (Err (refused r 0) ≡ check_from from file) × (from ≡ passed_from from file)
  unfolding check_from passed_from
  size_bad from e = (bad_first (size_refusal file) 0 _ (sym e), count_stops (size_refusal file) from _ (sym e))

  module _ (begins : size_refusal file ≡ Ok tt) (s : ℕ) where
    -- a check stands where it is taken up
    pub taken_up : record_start file s ≤ length file → Stands s s (record_start file s)
    unfolding check_from passed_from
    taken_up fit =
        record { place = refl; inside = fit; decides = good_first (size_refusal file) 0 _ begins; counts = count_goes_on (size_refusal file) s _ begins }

    -- past the end there is nothing to take up
    pub cut_off : length file < record_start file s → (Err (refused Cut (record_start file s)) ≡ check_from s file) × (s ≡ passed_from s file)
    unfolding check_from passed_from
    cut_off short =
        let none : drop (record_start file s) file ≡ [] = drop_of_length-le file {i = record_start file s} (omega arith) in (
          sym (good_first (size_refusal file) 0 _ begins ∙ rw none (nothing_left n m (n - s) s (record_start file s))),
          sym (count_goes_on (size_refusal file) s _ begins ∙ rw none (none_counted n m (n - s) s)),
        )

  module _ {from s at : ℕ} (here : Stands from s at) where
    -- the next slice is bad
    pub slice_bad : s < n → {r : Reason} → Err r ≡ slice_refusal n m s (drop at file) → (Err (refused r at) ≡ check_from from file) × (s ≡ passed_from from file)
    unfolding check_slices pass_slices
    slice_bad l {r} e =
        let left : n - s ≡ suc (n - (s + 1)) = omega arith in
        let b : Err (refused r at) ≡ check_slices n m (suc (n - (s + 1))) s at (drop at file) = bad_first _ _ _ (sym e) in
        let c : s ≡ pass_slices n m (suc (n - (s + 1))) s (drop at file) = count_stops (slice_refusal n m s (drop at file)) s _ (sym e) in
        (rw (here.decides, left, ← b), rw (here.counts, left, ← c))

    -- it is good
    pub slice_good : s < n → Ok tt ≡ slice_refusal n m s (drop at file) → Stands from (s + 1) (at + record_length slice_tag)
    unfolding check_slices pass_slices
    slice_good l e =
        let next = at + record_length slice_tag in
        let good = sym e in
        let left : n - s ≡ suc (n - (s + 1)) = omega arith in
        let one : suc s ≡ s + 1 = omega arith in
        let rest : drop (record_length slice_tag) (drop at file) ≡ drop next file = drop-drop (record_length slice_tag) at file in
        let d : check_slices n m (suc (n - (s + 1))) s at (drop at file) ≡ check_slices n m (n - (s + 1)) (suc s) next (drop (record_length slice_tag) (drop at file)) = good_first (slice_refusal n m s (drop at file)) at _ good in
        let c : pass_slices n m (suc (n - (s + 1))) s (drop at file) ≡ pass_slices n m (n - (s + 1)) (suc s) (drop (record_length slice_tag) (drop at file)) = count_goes_on (slice_refusal n m s (drop at file)) s _ good in
        record {
          place = ap (λ (p : ℕ). p + record_length slice_tag) here.place ∙ sym (start_next file s);
          inside = omega (arith, here.inside, slice_whole n m s (drop at file) good, length-drop at file);
          decides = here.decides ∙ ap (λ (k : ℕ). check_slices n m k s at (drop at file)) left ∙ d ∙ ap₂ (λ (k : ℕ) (bytes : List ℕ). check_slices n m (n - (s + 1)) k next bytes) one rest;
          counts = here.counts ∙ ap (λ (k : ℕ). pass_slices n m k s (drop at file)) left ∙ c ∙ ap₂ (λ (k : ℕ) (bytes : List ℕ). pass_slices n m (n - (s + 1)) k bytes) one rest;
        }

    -- there is none: the end record decides
    pub slices_end : n ≤ s → (check_end n m at (drop at file) ≡ check_from from file) × (s ≡ passed_from from file)
    unfolding check_slices pass_slices
    slices_end l =
        let none : n - s ≡ 0 = omega arith in (
          sym (here.decides ∙ ap (λ (k : ℕ). check_slices n m k s at (drop at file)) none),
          sym (here.counts ∙ ap (λ (k : ℕ). pass_slices n m k s (drop at file)) none),
        )

  -- taken up at the first slice it is the check of the whole file
  pub from_start : check_from 0 file ≡ check_file file
  unfolding check_from check_file
  from_start = rw (sub-zero, start_first file)

  -- ---- "the first bad record decides", at its first byte
  module _ (begins : size_refusal file ≡ Ok tt) where
    -- behind good slices the check of the file stands at the next
    pub after_good : (s : ℕ) → s ≤ n → GoodBelow file s → Stands 0 s (record_start file s)
    after_good zero l good = taken_up begins 0 (rw (start_first file) (size_inside file begins))
    after_good (suc s) l good =
        let one : suc s ≡ s + 1 = omega arith in
        rw (one, start_next file s) (slice_good (after_good s (omega arith) (λ i h. good i (omega arith))) (omega arith) (sym (good s (omega arith))))

    -- the first bad slice is refused where its record begins
    pub slice_refused : (s : ℕ) {r : Reason} → s < n → GoodBelow file s
        → let at = record_start file s in slice_refusal n m s (drop at file) ≡ Err r → check_file file ≡ Err (refused r at)
    slice_refused s l good bad = sym ((slice_bad (after_good s (omega arith) good) l (sym bad)).0 ∙ from_start)

    -- and after good slices the end record decides
    pub end_decides : GoodBelow file n → let at = record_start file n in check_file file ≡ check_end n m at (drop at file)
    end_decides good = sym ((slices_end (after_good n (omega arith) good) (omega arith)).0 ∙ from_start)
