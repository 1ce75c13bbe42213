-- The netlist of a plan edited by marks is edited by the changes that they say, and where the plan stands for a file, so is the file. Assumes nothing.
use mathlib.Core.Path.{◌≡◌}
use mathlib.Core.List.{List}
use Prim.Native.Nat.{ℕ}
use Rattle.netlist.specs.declared.Gate.{Gate}
use Rattle.netlist.specs.Rule.{Env, env}
use Rattle.netlist.specs.Changes.{Change, touches_any}
use Rattle.netlist.specs.Table.{signal_count, net_of}
use Rattle.netlist.proofs.Agree.{agree_sym, well_formed_agree}
use Rattle.walks.specs.Marked.{touches_marked}
use Rattle.walks.specs.Walks.{EditedBy}
use Rattle.walks.proofs.Edits.{edited_as, edited_agree}
use Rattle.column.specs.File.{gate_at}
use Rattle.column.proofs.Netlist.{sound_well_formed}
use Rattle.plan.specs.Plan.{plan_table, Ready}
use Rattle.plan.proofs.Plans.{ready_sound}
use Rattle.edits.specs.Edits.{EditedFor, EditedPlan}

-- by marks that say what the changes touch
pub edited_plan :
    (plan : List ℕ) (n : ℕ) {table contents inputs old new : List ℕ} (changed edited : List ℕ) (cs : List Change) → table ≡ plan_table plan n
    → ((gate : Gate) → touches_marked changed edited gate ≡ touches_any cs gate) → EditedBy n table contents inputs changed edited old new
    → (flops : List ℕ) → EditedPlan plan n cs (env contents flops inputs) old new
edited_plan plan n changed edited cs t same d flops = edited_as (λ x. same (net_of plan n x)) (rw t at (d flops))

pub edited_file :
    (file : List ℕ) {n m : ℕ} {plan : List ℕ} → Ready file n m plan → {after : Env} {old new : List ℕ} (cs : List Change)
    → EditedPlan plan n cs after old new → EditedFor file cs after old new n
edited_file file {n} {plan = plan} r cs d =
    let g = net_of plan n in
    let a = r.represents.gates in
    edited_agree g (gate_at file) (signal_count n) a
    (well_formed_agree (gate_at file) g (signal_count n) (agree_sym a) (sound_well_formed file (ready_sound file r)))
    (touches_any cs) d
