-- Power up by the judge's verdict: it refuses, the buffers are refused, or the state is filled. Assumes nothing.
use mathlib.Core.Path.{◌≡◌, ◌∙◌, sym, ap, ap₂, subst}
use mathlib.Core.Bool.{Bool, true, false}
use Rattle.std.specs.Prelude.{Ok, Err}
use mathlib.Core.List.{List}
use Prim.Native.Nat.{ℕ, ◌≤◌}
use Rattle.slicefile.specs.Format.{slice_limit}
use Rattle.slicefile.specs.declared.Reason.TheVariants.{WrongBuffer}
use Rattle.slicefile.specs.declared.Refusal.{Refusal}
use Rattle.slicefile.specs.Refusals.{refused as refused_at, sized, Verdict}
use Rattle.rules.specs.Rules.{given}
use Rattle.column.specs.Check.{IsSound}
use Rattle.column.specs.Clock.{State, state_of, power_up}
use Rattle.column.specs.Judge.{Judged}
use Rattle.column.proofs.Verdicts.{accepted_sound}
use Rattle.column.proofs.SoundLaws.{sound_file}
use Rattle.buffers.specs.Buffers.{bad_state}
use Rattle.buffers.proofs.Lengths.{state_lengths}
use Rattle.calls.specs.Calls.{judged, refused, done, PoweredUp}

module _ (file : List ℕ) {v : Verdict} (j : Judged file v) where
  module _ {n m : ℕ} (a : v ≡ Ok (sized n m)) where
    pub judged_sound : IsSound file n m
    judged_sound = accepted_sound file (subst (Judged file) a j)

    pub judged_fits : n ≤ slice_limit
    judged_fits = (sound_file file judged_sound).slices_fit

    pub buffers_refuse : (old new : State) {b : Bool} → b ≡ bad_state n old → b ≡ true → new ≡ old → PoweredUp file old new (Err (refused_at WrongBuffer 0))
    buffers_refuse old new e t kept = refused (subst (Judged file) a j) (ap (given WrongBuffer) (sym e ∙ t)) kept

    pub powered : (old : State) {b : Bool} {contents flops : List ℕ} → b ≡ bad_state n old → b ≡ false → contents ≡ (power_up file).contents → flops ≡ (power_up file).flops
        → PoweredUp file old (state_of contents flops) (Ok tt)
    powered old e t c f = done (subst (Judged file) a j) (ap (given WrongBuffer) (sym e ∙ t)) (ap₂ state_of c f)

  pub judge_refuses : (old new : State) {r : Refusal} → v ≡ Err r → new ≡ old → PoweredUp file old new (Err r)
  judge_refuses old new e kept = judged (subst (Judged file) e j) kept

-- what the function's proof takes
pub ruleset powers = (judged_sound, judged_fits, buffers_refuse, powered, judge_refuses, state_lengths)
