-- The calls by a plan that stands for a file are the calls on the file. Assumes nothing.
use mathlib.Core.Path.{◌≡◌, ◌∙◌}
use mathlib.Core.List.{List}
use Prim.Native.Nat.{ℕ, ◌≤◌, ◌<◌}
use native.Mathlib.Decide.{dec_lt}
use native.Mathlib.Omega.{arith}
use lib.ListN.{length, get_or, take, get_or-eq_default}
use Rattle.netlist.specs.Table.{signal_count, wire_count, wire_limit, net_of}
use Rattle.netlist.specs.Wires.{wires_of}
use Rattle.netlist.proofs.Agree.{settled_agree}
use Rattle.netlist.proofs.Bits.{settled_bits}
use Rattle.netlist.proofs.Wires.{wires_of_lem, on_inputs, on_values}
use Rattle.netlist.proofs.Zeros.{zeros, zeros_length, zeros_all}
use Rattle.slicefile.specs.Refusals.{Answer}
use Rattle.evaluation.specs.Numbers.{Bits}
use Rattle.column.specs.Clock.{State, env_of, clocked, SettledFor}
use Rattle.column.specs.File.{gate_at}
use Rattle.plan.specs.Plan.{Ready, Runnable, clocked_by}
use Rattle.plan.proofs.Plans.{ready_sound, ready_runs, clocked_same}
use Rattle.buffers.proofs.Modes.{settle_same}
use Rattle.buffers.proofs.Passed.{settle_passed}
use Rattle.calls.specs.Calls.{Planned, turned_down, carried_out}
use Rattle.calls.proofs.Calls.{planned_called}
use Rattle.simulator.specs.Running.{SettleCalled, ClockCalled, SettledPlan, SettlePlanned, ClockPlanned, plan_refusal}

-- a file's wires are as many as there may be
pub wires_fit : (file : List ℕ) {n m : ℕ} {plan : List ℕ} → Ready file n m plan → wire_count n m ≤ wire_limit
wires_fit file ready = let r = ready_runs file ready in omega (arith, r.few, r.narrow)

-- the wires lent to a call by a plan: the front of as many zeros as there are wires at most
pub wires_lent :
    {n m : ℕ} {plan : List ℕ} → Runnable n m plan
    → (length (take (wire_count n m) (zeros wire_limit)) ≡ wire_count n m) × Bits (take (wire_count n m) (zeros wire_limit))
wires_lent {n} {m} r =
    (zeros_length wire_limit (wire_count n m) (omega (arith, r.few, r.narrow)), λ i. rw (zeros_all wire_limit (wire_count n m) i) (omega arith))

module _ (file : List ℕ) {n m : ℕ} {plan : List ℕ} (r : Ready file n m plan) (st : State) (inputs : List ℕ) where
  pub settled_file : {values : List ℕ} → SettledPlan plan n st inputs values → SettledFor file st inputs values
  settled_file {values} s =
      rw (ready_sound file r).count (settled_agree (net_of plan n) (gate_at file) (signal_count n) r.represents.gates (env_of st inputs) values s)

  -- a settled table holds bits, and 0 past its end
  table_bits : {values : List ℕ} → SettledPlan plan n st inputs values → Bits values
  table_bits {values} s c = by (dec_lt c (signal_count n))
    where
      by : Dec (c < signal_count n) → get_or values c 0 < 2
      by (yes h) = settled_bits (net_of plan n) s c h
      by (no h) =
          let past : length values ≤ c = omega (arith, s.size) in
          rw (get_or-eq_default values 0 past) (omega arith)

  pub moved_file : (values : List ℕ) → length inputs ≡ m → Bits inputs → SettledPlan plan n st inputs values → clocked_by plan n st inputs values ≡ clocked file st inputs values
  moved_file values i b s =
      clocked_same file r st inputs values (wires_of inputs values) (wires_of_lem n m inputs values i s.size b (table_bits s)) (on_inputs n m inputs values i s.size) (on_values n m inputs values i s.size)

  module _ (old : List ℕ) where
    pub settle_file : (new : List ℕ) {a : Answer} → SettlePlanned plan n m st inputs old new a → SettleCalled file st inputs old new a
    settle_file new p = planned_called file _ r.verdict (settle_same file r st inputs old m) settled_file p

    pub clock_file : (moved : State) (new : List ℕ) {a : Answer} → ClockPlanned plan n m st moved inputs old new a → ClockCalled file st moved inputs old new a
    clock_file moved new p = planned_called file _ r.verdict (settle_same file r st inputs old m) (λ d. d) (as_file p)
      where
        as_file : {a : Answer}
            → ClockPlanned plan n m st moved inputs old new a
            → Planned (plan_refusal plan n m st inputs old) ((moved ≡ st) × (new ≡ old)) ((moved ≡ clocked file st inputs new) × SettledFor file st inputs new) a
        as_file (turned_down e kept) = turned_down e kept
        as_file (carried_out e d) =
            let p = settle_passed _ st inputs old n m e in
            carried_out e (d.0 ∙ moved_file new p.0.inputs p.1 d.1, settled_file d.1)
