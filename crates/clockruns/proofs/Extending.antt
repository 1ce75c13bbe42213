-- A row of clocks by a plan, one more at a time: what is lent to a clock, and the run that it extends. Assumes nothing.
use mathlib.Core.Path.{◌≡◌, ◌∙◌, refl, sym, ap}
use mathlib.Core.List.{List}
use Prim.Native.Nat.{ℕ, suc, ◌+◌, ◌*◌, ◌-◌, ◌≤◌, ◌<◌}
use native.Mathlib.Decide.{dec_lt}
use native.Mathlib.Nat.{mul-suc, mul-le-mul_left}
use native.Mathlib.Numerals.{add-one}
use native.Mathlib.Omega.{arith}
use lib.ListN.{length, get_or, take, drop, length-drop, get_or-eq_default}
use lib.Seq.{length-take-le, get_or-take, get_or-drop}
use Rattle.slicefile.specs.Refusals.{Answer}
use Rattle.evaluation.specs.Numbers.{Bits}
use Rattle.column.specs.Clock.{State, state_of, clocked, SettledFor}
use Rattle.column.proofs.Runs.{still, clock_last, last_state, last_table_lem}
use Rattle.plan.specs.Plan.{Ready}
use Rattle.simulator.specs.Running.{Clocked}
use Rattle.simulator.proofs.Planned.{settled_file, moved_file}
use Rattle.buffers.proofs.Modes.{settle_same}
use Rattle.calls.proofs.Calls.{planned_called}
use Rattle.clockruns.specs.Rows.{clock_count, inputs_at, Ran, RanPlan, RowCalled, RowPlanned}

-- the inputs of clock i, among those of k clocks
module _ (inputs : List ℕ) (m k i : ℕ) (all : length inputs ≡ m * k) (inside : i < k) where
  pub part_fits : m * i + m ≤ length inputs
  part_fits =
      let most : m * suc i ≤ m * k = mul-le-mul_left m inside in
      omega (arith, mul-suc m i)

  pub part_is : take (m * i + m - m * i) (drop (m * i) inputs) ≡ inputs_at inputs m i
  part_is = let e : m * i + m - m * i ≡ m = omega arith in rw e

  part_long : length (inputs_at inputs m i) ≡ m
  part_long = length-take-le m (drop (m * i) inputs) (omega (arith, length-drop (m * i) inputs, part_fits))

  pub part_bits : Bits inputs → Bits (inputs_at inputs m i)
  part_bits bits c = by (dec_lt c m)
    where
      by : Dec (c < m) → get_or (inputs_at inputs m i) c 0 < 2
      by (yes h) = rw (get_or-take m (drop (m * i) inputs) c 0 h, get_or-drop (m * i) inputs c 0) (bits (m * i + c))
      by (no h) =
          let past : length (inputs_at inputs m i) ≤ c = omega (arith, part_long) in
          rw (get_or-eq_default (inputs_at inputs m i) 0 past) (omega arith)

-- no clock
ran_none : (file : List ℕ) (m : ℕ) (st : State) (inputs old : List ℕ) → Ran file m 0 st st inputs old old
unfolding still
ran_none file m st inputs old = record { run = still file st (inputs_at inputs m); state = refl; table = refl }

-- and one more
module _ (inputs : List ℕ) (m k i : ℕ) (all : length inputs ≡ m * k) (inside : i < k) (given : Bits inputs) where
  abbrev part : List ℕ
  part = inputs_at inputs m i

  ran_next :
      (file : List ℕ) {n : ℕ} {plan : List ℕ} {st here moved : State} {old values new wires : List ℕ} → Ready file n m plan
      → Clocked plan n here moved part new wires → Ran file m i st here inputs old values → Ran file m (i + 1) st moved inputs old new
  ran_next file {here = here} {new = new} ready c r =
      let s : SettledFor file (r.run.states i) part new = rw r.state at (settled_file file ready here part c.settled) in
      rw (add-one i)
      record {
        run = clock_last file r.run new s;
        state = c.moves
            ∙ moved_file file ready here part new (part_long inputs m k i all inside) (part_bits inputs m k i all inside given) c.settled
            ∙ ap (λ (q : State). clocked file q part new) r.state
            ∙ sym (last_state file r.run new s);
        table = sym (last_table_lem file r.run new s);
      }

  pub plan_next :
      {n : ℕ} {plan : List ℕ} {st here moved : State} {old values new wires : List ℕ} → RanPlan plan n m i st here inputs old values
      → Clocked plan n here moved (take (m * i + m - m * i) (drop (m * i) inputs)) new wires → RanPlan plan n m (i + 1) st moved inputs old new
  plan_next r c file ready = ran_next file ready (rw (part_is inputs m k i all inside) at c) (r file ready)

-- i clocks have run, from the buffers as they were to the buffers as they are
pub record RunTo (plan : List ℕ) (n m i : ℕ) (contents₀ contents flops₀ flops inputs values₀ values wires₀ wires : List ℕ) : Type 0 where
  pub contents_size : length contents ≡ length contents₀
  pub flops_size : length flops ≡ length flops₀
  pub values_size : length values ≡ length values₀
  pub wires_size : length wires ≡ length wires₀
  pub bits : Bits wires
  pub ran : RanPlan plan n m i (state_of contents₀ flops₀) (state_of contents flops) inputs values₀ values

pub run_start : {plan : List ℕ} {n m : ℕ} {contents flops inputs values wires : List ℕ} → Bits wires → RunTo plan n m 0 contents contents flops flops inputs values values wires wires
run_start b =
    record { contents_size = refl; flops_size = refl; values_size = refl; wires_size = refl; bits = b; ran = λ file r. ran_none file _ _ _ _ }

-- a row by a plan that stands for a file is one of the file
pub row_file :
    (file : List ℕ) {n m : ℕ} {plan : List ℕ} → Ready file n m plan → (st moved : State) (inputs old new : List ℕ) {a : Answer}
    → RowPlanned plan n m st moved inputs old new a → RowCalled file st moved inputs old new a
row_file file {m = m} r st moved inputs old new p =
    planned_called file _ r.verdict (settle_same file r st inputs old (m * clock_count inputs m)) (λ made. made file r) p
