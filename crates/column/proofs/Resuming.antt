-- A check taken up behind slices that have passed says what the check of the whole file says, and the slices it counts have passed too. Assumes
-- nothing.
use mathlib.Core.Path.{◌≡◌, ◌∙◌, refl, sym, subst}
use Rattle.std.specs.Prelude.{Ok, Err}
use mathlib.Core.Logic.{◌⊎◌, inl, inr}
use mathlib.Core.List.{List, ◌++◌}
use Prim.Native.Nat.{ℕ, zero, suc, ◌+◌, ◌-◌, ◌≤◌}
use native.Mathlib.Decide.{ℕ_discrete}
use native.Mathlib.Omega.{arith}
use lib.ListN.{drop, length-drop}
use lib.Seq.{drop-append-le}
use Rattle.slicefile.specs.Format.{slice_limit, slice_tag, record_length, slice_count, input_count}
use Rattle.slicefile.specs.declared.Reason.{Reason}
use Rattle.slicefile.specs.Refusals.{Tested}
use Rattle.rules.proofs.Refusals.{tested_cases}
use Rattle.framing.specs.Framing.{slice_refusal, size_refusal}
use Rattle.framing.proofs.RecordLaws.{slice_whole, size_tells}
use Rattle.framing.proofs.PrefixLaws.{slice_stays, size_stays}
use Rattle.column.specs.File.{record_start}
use Rattle.column.specs.Check.{check_file, check_from, passed_from, GoodBelow, Passed}
use Rattle.column.proofs.Places.{start_stays}
use Rattle.column.proofs.CheckLaws.{Stands, size_bad, taken_up, slice_bad, slice_good, slices_end, from_start, after_good}
use Rattle.column.proofs.PrefixLaws.{count_stays, inputs_stay}

-- at first none has
pub none_passed : (file : List ℕ) → Passed file 0
none_passed file = record { begins = λ l. absurd (omega arith); within = omega arith; good = λ s l. absurd (omega arith) }

module _ (file : List ℕ) where
  abbrev refusal : ℕ → Tested
  refusal s = slice_refusal (slice_count file) (input_count file) s (drop (record_start file s) file)

  -- no more slices pass than a file has
  pub passed_fit : {count : ℕ} → Passed file count → count ≤ slice_limit
  passed_fit {count = zero} p = omega arith
  passed_fit {count = suc s} p = omega (arith, p.within, (size_tells file (p.begins (omega arith))).1)

  -- behind them the check of the file stands where it is taken up
  pub passed_check : {count : ℕ} → Passed file count → check_from count file ≡ check_file file
  passed_check {count = zero} p = from_start file
  passed_check {count = suc s} p =
      let begins = p.begins (omega arith) in
      let reached : Stands file 0 (suc s) (record_start file (suc s)) = after_good file begins (suc s) p.within p.good in
      (taken_up file begins (suc s) reached.inside).decides ∙ sym reached.decides ∙ from_start file

  -- one good slice more
  one_more : {s : ℕ} → GoodBelow file s → refusal s ≡ Ok tt → GoodBelow file (s + 1)
  one_more {s} below here i l = by_place (ℕ_discrete i s)
    where
      by_place : Dec (i ≡ s) → refusal i ≡ Ok tt
      by_place (yes e) = subst (λ (j : ℕ). refusal j ≡ Ok tt) (sym e) here
      by_place (no ne) = below i (omega arith)

  module _ (begins : size_refusal file ≡ Ok tt) where
    -- the slices counted from where the check stands
    counted : (left : ℕ) {from s at : ℕ} → slice_count file - s ≡ left → Stands file from s at → Passed file s → Passed file (passed_from from file)
    counted zero e here p = subst (Passed file) (slices_end file here (omega arith)).1 p
    counted (suc left) {from} {s} {at} e here p = by_refusal (counted left (omega arith)) (tested_cases (refusal s))
      where
        same : refusal s ≡ slice_refusal (slice_count file) (input_count file) s (drop at file)
        same = rw here.place

        by_refusal :
            (Stands file from (s + 1) (at + record_length slice_tag) → Passed file (s + 1) → Passed file (passed_from from file))
            → (refusal s ≡ Ok tt) ⊎ ((r : Reason) × (refusal s ≡ Err r)) → Passed file (passed_from from file)
        by_refusal on (inl z) =
            on (slice_good file here (omega arith) (sym z ∙ same)) record { begins = λ l. begins; within = omega arith; good = one_more p.good z }
        by_refusal on (inr b) = subst (Passed file) (slice_bad file here (omega arith) (sym b.1 ∙ same)).1 p

  -- the slices that a check counts have passed
  pub passed_on : {count : ℕ} → Passed file count → Passed file (passed_from count file)
  passed_on {count} p = by_size (tested_cases (size_refusal file))
    where
      by_size : (size_refusal file ≡ Ok tt) ⊎ ((r : Reason) × (size_refusal file ≡ Err r)) → Passed file (passed_from count file)
      by_size (inl z) = counted z _ refl (taken_up file z count (after_good file z count p.within p.good).inside) p
      by_size (inr b) = subst (Passed file) (size_bad file count (sym b.1)).1 p

  -- and stay so, whatever follows
  pub passed_stay : (x : List ℕ) {count : ℕ} → Passed file count → Passed (file ++ x) count
  passed_stay x {count = zero} p = none_passed (file ++ x)
  passed_stay x {count = suc s} p =
      let begins = p.begins (omega arith) in
      record {
        begins = λ l. size_stays file x (λ o. cc (sym begins ∙ o)) ∙ begins;
        within = rw (count_stays file x begins) p.within;
        good = λ i l.
            let z = p.good i l in
            let whole = slice_whole _ _ i (drop (record_start file i) file) z in
            rw (count_stays file x begins, inputs_stay file x begins, start_stays file x i, drop-append-le (record_start file i) file x (omega (arith, whole, length-drop (record_start file i) file)))
            (slice_stays _ _ i (drop (record_start file i) file) x (λ o. cc (sym z ∙ o)) ∙ z);
      }
