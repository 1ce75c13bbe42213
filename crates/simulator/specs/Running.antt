-- What settle and clock answer and leave.
use Rattle.std.specs.Prelude.{ℕ, ◌≡◌, List}
use Rattle.lent.specs.Lent.{Lent, Shown, was, left, shown}
use Rattle.slicefile.specs.Refusals.{Tested, Answer}
use Rattle.column.specs.Clock.{State, state_of, state_was, state_left, env_of, clocked, SettledFor}
use Rattle.netlist.specs.Settle.{Settled}
use Rattle.netlist.specs.Table.{signal_count, net_of}
use Rattle.evaluation.specs.Numbers.{Bits}
use Rattle.plan.specs.Plan.{plan_edges, clocked_by}
use Rattle.buffers.specs.Buffers.{settle_refusal, settle_refusal_by, bad_words_by}
use Rattle.calls.specs.Calls.{Called, Planned}

-- "settle (fills values)"
abbrev pub SettleCalled : List ℕ → State → List ℕ → List ℕ → List ℕ → Answer → Type 0
SettleCalled file st inputs old new =
    Called file (settle_refusal file st inputs old) (new ≡ old) (λ n m. SettledFor file st inputs new)

-- "clock (leaves the value table settled before the edge, and the moved state)"
abbrev pub ClockCalled : List ℕ → State → State → List ℕ → List ℕ → List ℕ → Answer → Type 0
ClockCalled file st moved inputs old new =
    Called file (settle_refusal file st inputs old) ((moved ≡ st) × (new ≡ old))
    (λ n m. (moved ≡ clocked file st inputs new) × SettledFor file st inputs new)

-- the two over a plan of n slices and m outside inputs, whatever file it stands for
abbrev pub plan_refusal : List ℕ → ℕ → ℕ → State → List ℕ → List ℕ → Tested
plan_refusal plan n m st inputs values = settle_refusal_by (bad_words_by (plan_edges plan n) st.contents) st inputs values n m

abbrev pub SettledPlan : List ℕ → ℕ → State → List ℕ → List ℕ → Type 0
SettledPlan plan n st inputs values = Settled (net_of plan n) (signal_count n) (env_of st inputs) values

abbrev pub SettlePlanned : List ℕ → ℕ → ℕ → State → List ℕ → List ℕ → List ℕ → Answer → Type 0
SettlePlanned plan n m st inputs old new = Planned (plan_refusal plan n m st inputs old) (new ≡ old) (SettledPlan plan n st inputs new)

abbrev pub ClockPlanned : List ℕ → ℕ → ℕ → State → State → List ℕ → List ℕ → List ℕ → Answer → Type 0
ClockPlanned plan n m st moved inputs old new =
    Planned (plan_refusal plan n m st inputs old) ((moved ≡ st) × (new ≡ old)) ((moved ≡ clocked_by plan n st inputs new) × SettledPlan plan n st inputs new)

-- one clock by a plan: the value table settled before the edge, the moved state, and bits on the wires for the next clock
pub record Clocked (plan : List ℕ) (n : ℕ) (st moved : State) (inputs values wires : List ℕ) : Type 0 where
  pub settled : SettledPlan plan n st inputs values
  pub moves : moved ≡ clocked_by plan n st inputs values
  pub bits : Bits wires

-- the two calls' promises on lent buffers, as they were and as they are left
abbrev pub Settles : Shown → Shown → Shown → Shown → Lent → Answer → Type 0
Settles file contents flops inputs values =
    SettleCalled (shown file) (state_of (shown contents) (shown flops)) (shown inputs) (was values) (left values)

abbrev pub Clocks : Shown → Lent → Lent → Shown → Lent → Answer → Type 0
Clocks file contents flops inputs values =
    ClockCalled (shown file) (state_was contents flops) (state_left contents flops) (shown inputs) (was values) (left values)
