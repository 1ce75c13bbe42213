-- What clocks in a row answer and leave. Their inputs stand one clock after the other, m bytes each.
use Rattle.std.specs.Prelude.{ℕ, zero, suc, ◌*◌, ◌/◌, ◌≡◌, List, length, take, drop}
use Rattle.lent.specs.Lent.{Lent, Shown, was, left, shown}
use Rattle.slicefile.specs.Refusals.{Answer}
use Rattle.column.specs.Clock.{State, state_was, state_left, Run}
use Rattle.plan.specs.Plan.{Ready}
use Rattle.buffers.specs.Buffers.{settle_refusal}
use Rattle.calls.specs.Calls.{Called, Planned}
use Rattle.simulator.specs.Running.{plan_refusal}

-- how many clocks the inputs are for: none where m is 0
abbrev pub clock_count : List ℕ → ℕ → ℕ
clock_count inputs m = length inputs / m

-- the inputs of clock i
abbrev pub inputs_at : List ℕ → ℕ → ℕ → List ℕ
inputs_at inputs m i = take m (drop (m * i) inputs)

-- the last of k tables, the one that was lent where there is none
abbrev pub last_table : List ℕ → (ℕ → List ℕ) → ℕ → List ℕ
last_table old tables zero = old
last_table old tables (suc k) = tables k

-- k clocks: a run from the state as it was to the state as it is left, and the table settled before its last edge
pub record Ran (file : List ℕ) (m k : ℕ) (st moved : State) (inputs old new : List ℕ) : Type 0 where
  pub run : Run file st (inputs_at inputs m) k
  pub state : moved ≡ run.states k
  pub table : new ≡ last_table old run.tables k

-- the same by a plan, for whatever file it stands
abbrev pub RanPlan : List ℕ → ℕ → ℕ → ℕ → State → State → List ℕ → List ℕ → List ℕ → Type 0
RanPlan plan n m k st moved inputs old new = (file : List ℕ) → Ready file n m plan → Ran file m k st moved inputs old new

-- a row is refused as one clock is, but that its inputs are those of all its clocks; else all of them are done
abbrev pub RowCalled : List ℕ → State → State → List ℕ → List ℕ → List ℕ → Answer → Type 0
RowCalled file st moved inputs old new =
    Called file (λ n m. settle_refusal file st inputs old n (m * clock_count inputs m)) ((moved ≡ st) × (new ≡ old))
    (λ n m. Ran file m (clock_count inputs m) st moved inputs old new)

abbrev pub RowPlanned : List ℕ → ℕ → ℕ → State → State → List ℕ → List ℕ → List ℕ → Answer → Type 0
RowPlanned plan n m st moved inputs old new =
    Planned (plan_refusal plan n (m * clock_count inputs m) st inputs old) ((moved ≡ st) × (new ≡ old))
    (RanPlan plan n m (clock_count inputs m) st moved inputs old new)

-- the promise on lent buffers, as they were and as they are left
abbrev pub RunsRow : Shown → Lent → Lent → Shown → Lent → Answer → Type 0
RunsRow file contents flops inputs values =
    RowCalled (shown file) (state_was contents flops) (state_left contents flops) (shown inputs) (was values) (left values)
