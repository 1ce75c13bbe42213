-- `Judged` determines the verdict, and a loaded file is judged. Assumes nothing.
use mathlib.Core.Path.{◌≡◌, ◌∙◌, refl, ap, sym, subst}
use Rattle.std.specs.Prelude.{Ok, Err}
use mathlib.Core.List.{List}
use mathlib.Core.Logic.{◌↔◌}
use Prim.Native.Nat.{ℕ, ◌<◌}
use native.Mathlib.Decide.{dec_lt}
use native.Mathlib.Omega.{arith}
use Rattle.slicefile.specs.declared.Reason.TheVariants.{OnLoop}
use Rattle.slicefile.specs.declared.Refusal.{Refusal}
use Rattle.slicefile.specs.declared.Size.{Size}
use Rattle.slicefile.specs.Refusals.{refused, Verdict}
use Rattle.column.specs.Check.{check_file}
use Rattle.column.specs.Compile.{Loaded}
use Rattle.netlist.specs.Graph.{LoopFree}
use Rattle.netlist.specs.Table.{signal_count}
use Rattle.column.specs.Judge.{reads_at, Loop, Looped, Judged, bad, accepted, loop}

-- a verdict is not both
pub not_both : (v : Verdict) {r : Refusal} {size : Size} → v ≡ Err r → v ≡ Ok size → ⊥
not_both v e f = cc (sym e ∙ f)

same_size : (v : Verdict) {s t : Size} → v ≡ Ok s → v ≡ Ok t → s ≡ t
same_size v e f = cc

-- the smallest number with a property is one number
smallest_unique : (P : ℕ → Type 0) {p q : ℕ} → P p → P q → ((x : ℕ) → x < p → P x → ⊥) → ((x : ℕ) → x < q → P x → ⊥) → p ≡ q
smallest_unique P {p} {q} hp hq np nq = go (dec_lt p q) (dec_lt q p)
  where
    go : Dec (p < q) → Dec (q < p) → p ≡ q
    go (yes a) b = absurd (nq p a hp)
    go (no a) (yes b) = absurd (np q b hq)
    go (no a) (no b) = omega arith

-- an accepted file has no signal on a loop
no_signal : (v : Verdict) {s t : Size} {p : ℕ} (P : ℕ → Type 0) → v ≡ Ok s → v ≡ Ok t → ((x : ℕ) → x < signal_count s.n → P x → ⊥) → p < signal_count t.n → P p → ⊥
no_signal v {p = p} P e f g b l = g p (subst (λ (k : Size). p < signal_count k.n) (sym (same_size v e f)) b) l

pub judged_unique : (file : List ℕ) {v w : Verdict} → Judged file v → Judged file w → v ≡ w
judged_unique file (bad e) (bad f) = sym e ∙ f
judged_unique file (bad e) (accepted f g) = absurd (not_both (check_file file) e f)
judged_unique file (bad e) (loop f b l s) = absurd (not_both (check_file file) e f)
judged_unique file (accepted e g) (bad f) = absurd (not_both (check_file file) f e)
judged_unique file (accepted e g) (accepted f h) = sym e ∙ f
judged_unique file (accepted e g) (loop f b l s) = absurd (no_signal (check_file file) (Loop file) e f g b l)
judged_unique file (loop e b l s) (bad f) = absurd (not_both (check_file file) f e)
judged_unique file (loop e b l s) (accepted f h) = absurd (no_signal (check_file file) (Loop file) f e h b l)
judged_unique file (loop e b l s) (loop f b' l' s') = ap (λ (p : ℕ). Err (refused OnLoop p)) (smallest_unique (Loop file) l l' s s')

-- a file with a bad record
pub bad_judged : (file : List ℕ) {v : Verdict} {r : Refusal} → v ≡ check_file file → v ≡ Err r → Judged file (Err r)
bad_judged file e f = bad (sym e ∙ f)

-- a loaded file is judged
pub loaded_judged : (file table order : List ℕ) (v : Verdict) → Loaded file table order v → Judged file v
loaded_judged file table order (Err r) l = l
loaded_judged file table order (Ok size) l = l.verdict

-- the records of an accepted file are sound, and no signal of it is on a loop
pub accepted_sound : (file : List ℕ) {size : Size} → Judged file (Ok size) → check_file file ≡ Ok size
accepted_sound file (accepted e free) = e

pub accepted_free : (file : List ℕ) {size : Size} → Judged file (Ok size) → LoopFree (reads_at file) (signal_count size.n)
accepted_free file (accepted e free) = free

-- ---- demand 1: "a loop of wires is refused exactly when there is one, once the file is otherwise sound"
module _ (file : List ℕ) {size : Size} (sound : check_file file ≡ Ok size) where
  -- the judge refuses for a loop exactly when some signal is on one
  pub nine_exactly : {v : Verdict} → Judged file v → ((p : ℕ) × (v ≡ Err (refused OnLoop p))) ↔ Looped file size.n
  nine_exactly (bad e) = absurd (not_both (check_file file) e sound)
  nine_exactly (accepted e free) = (
    λ r. absurd (not_both (Err (refused OnLoop r.0)) refl (sym r.1)),
    λ l. absurd (no_signal (check_file file) (Loop file) e sound free l.1 l.2),
  )
  nine_exactly (loop {p = p} e below on least) = (
    λ r. (p, subst (λ (k : Size). p < signal_count k.n) (same_size (check_file file) e sound) below, on),
    λ l. (p, refl),
  )

  -- and for no other reason
  pub sound_nine : {r : Refusal} → Judged file (Err r) → r.reason ≡ OnLoop
  sound_nine (bad e) = absurd (not_both (check_file file) e sound)
  sound_nine (loop e below on least) = refl
