-- How a call on a file goes, put together: the judge's refusal handed on, a call on the plan as one on the file, its own refusal at place 0. Assumes nothing.
use mathlib.Core.Path.{◌≡◌, refl, sym, ◌∙◌, subst}
use Rattle.std.specs.Prelude.{Ok, Err}
use Rattle.std.specs.Result.{MatchResult, IsErrAnd}
use mathlib.Core.List.{List}
use Prim.Native.Nat.{ℕ}
use Rattle.slicefile.specs.declared.Reason.{Reason}
use Rattle.slicefile.specs.declared.Refusal.{Refusal}
use Rattle.slicefile.specs.declared.Size.{Size}
use Rattle.slicefile.specs.Refusals.{refused as refused_at, sized, Tested, Answer, Verdict}
use Rattle.column.specs.Judge.{Judged}
use Rattle.plan.specs.Plan.{Ready, Loaded}
use Rattle.calls.specs.Calls.{Called, judged, refused, done, Planned, turned_down, carried_out, refusal_of}

-- the judge's refusal, handed on
pub handed_on :
    (file : List ℕ) (own : ℕ → ℕ → Tested) {Kept : Type 0} {Did : ℕ → ℕ → Type 0} {v : Verdict} {r : Refusal} {a : Answer}
    → v ≡ Err r → Judged file v → a ≡ refusal_of v → Kept → Called file own Kept Did a
handed_on file own e j same kept = rw (same, e) (judged (rw e at j) kept)

-- a call on the plan of an accepted file is one on the file, where its own refusal is the file's and so is what was done
pub planned_called :
    (file : List ℕ) (own : ℕ → ℕ → Tested) {Kept : Type 0} {Did : ℕ → ℕ → Type 0} {size : Size} {by : Tested} {Made : Type 0} {r : Answer}
    → Judged file (Ok size) → by ≡ own size.n size.m → (Made → Did size.n size.m) → Planned by Kept Made r → Called file own Kept Did r
planned_called file own j same f (turned_down e kept) = refused j (sym same ∙ e) kept
planned_called file own j same f (carried_out e made) = done j (sym same ∙ e) (f made)

-- the own refusal of a call on a plan, by its reason
pub turned_by : {own t : Tested} {Kept Did : Type 0} {r : Reason} → t ≡ own → t ≡ Err r → Kept → Planned own Kept Did (Err (refused_at r 0))
turned_by same e kept = turned_down (sym same ∙ e) kept

-- the plan of a file that is loaded and accepted
pub loaded_ready : {file plan : List ℕ} {v : Verdict} {n m : ℕ} → v ≡ Ok (sized n m) → Loaded file plan v → Ready file n m plan
loaded_ready {file} {plan} e l = subst (Loaded file plan) e l

-- a reason that is told at place 0, in the words of `map_err`
pub told :
    (t : Tested) (a : Answer) {At : Reason → Refusal → Type 0} → MatchResult t (λ u. a ≡ Ok u) (λ r. IsErrAnd a (At r))
    → ((r : Reason) (d : Refusal) → At r d → d ≡ refused_at r 0) → {d : Refusal} → a ≡ Err d → (r : Reason) × (t ≡ Err r) × (d ≡ refused_at r 0)
told (Ok u) a m at_zero e = absurd (cc (m, e))
told (Err r) (Ok u) m at_zero e = absurd (cc e)
told (Err r) (Err d) m at_zero e = (r, refl, cc (at_zero r d m, e))
