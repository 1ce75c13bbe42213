-- What is certain from the bytes seen: exactly what the check says by a number but 1; it stays, and the verdict with it. Assumes nothing.
use mathlib.Core.Path.{◌≡◌, ◌∙◌, refl, sym, ap, subst}
use mathlib.Core.Logic.{◌↔◌}
use Rattle.std.specs.Prelude.{Ok, Err}
use mathlib.Core.List.{List, [], ◌++◌, append-nil, append_assoc}
use Prim.Native.Nat.{ℕ, ◌≤◌, ◌<◌}
use native.Mathlib.Omega.{arith}
use lib.ListN.{length}
use Rattle.slicefile.specs.declared.Reason.TheVariants.{Cut}
use Rattle.slicefile.specs.declared.Refusal.{Refusal}
use Rattle.slicefile.specs.Refusals.{number, reason_of, Verdict}
use Rattle.column.specs.File.{file_limit}
use Rattle.column.specs.Check.{check_file}
use Rattle.column.specs.Judge.{Judged, bad, loop}
use Rattle.column.proofs.Bounds.{SmallChecked, checked_small}
use Rattle.column.proofs.PrefixLaws.{check_stays, check_cut, sound_short}
use Rattle.column.proofs.Verdicts.{judged_unique}
use Rattle.stream.specs.Sessions.{Certain}

-- a judge's refusal but 9 is the check's
by_check : (file : List ℕ) {r : Refusal} → number r.reason ≤ 8 → Judged file (Err r) → check_file file ≡ Err r
by_check file l (bad e) = e
by_check file l (loop e below on least) = absurd (omega arith)

-- a refusal of 2 or more is not that the bytes run out
pub other_number : (r : Refusal) → 2 ≤ number r.reason → r.reason ≡ Cut → ⊥
other_number r l z = omega (arith, ap number z)

module _ (bytes : List ℕ) where
  -- ---- "certain", and what the reader tests
  pub tests_certain : {r : Refusal} → check_file bytes ≡ Err r → (r.reason ≡ Cut → ⊥) → Certain bytes
  tests_certain {r} e ne x =
      let s : SmallChecked (Err r) = subst SmallChecked e (checked_small bytes) in
      let other : number r.reason ≡ 1 → ⊥ = λ z. ne (sym s.3 ∙ ap reason_of z) in
      (r, omega (arith, s.0, other), s.1, bad (check_stays bytes x ne e))

  pub certain_tested : Certain bytes → (r : Refusal) × (2 ≤ number r.reason) × (check_file bytes ≡ Err r)
  certain_tested c =
      let t = c [] in
      let j : Judged bytes (Err t.0) = subst (λ (b : List ℕ). Judged b (Err t.0)) (append-nil bytes) t.3 in
      (t.0, t.1, by_check bytes t.2 j)

  pub certain_exactly : Certain bytes ↔ ((r : Refusal) × (2 ≤ number r.reason) × (check_file bytes ≡ Err r))
  certain_exactly = (certain_tested, λ t. tests_certain t.2 (other_number t.0 t.1))

  -- ---- it stays, whatever follows, and so does the verdict
  pub certain_stays : (x : List ℕ) → Certain bytes → Certain (bytes ++ x)
  certain_stays x c y = subst (λ (b : List ℕ). (r : Refusal) × (2 ≤ number r.reason) × (number r.reason ≤ 8) × Judged b (Err r)) (sym (append_assoc bytes x y)) (c (x ++ y))

  pub verdict_stays : (x : List ℕ) {v : Verdict} → Certain bytes → Judged bytes v → Judged (bytes ++ x) v
  verdict_stays x c j =
      let t = certain_tested c in
      subst (Judged (bytes ++ x)) (judged_unique bytes (bad t.2) j) (bad (check_stays bytes x (other_number t.0 t.1) t.2))

  -- more bytes than the longest file has are certain
  pub long_certain : file_limit < length bytes → Certain bytes
  long_certain long = go (check_file bytes) refl
    where
      go : (c : Verdict) → check_file bytes ≡ c → Certain bytes
      go (Err r) e = tests_certain e (λ z. omega (arith, check_cut bytes z e))
      go (Ok size) e = absurd (omega (arith, sound_short bytes e))
