-- `simulator::clock` meets its contract: the judge's refusal is handed on, and the plan stands for the file. Assumes nothing.
use mathlib.Core.Path.{refl, sym}
use Rattle.std.proofs.lemmas.Result.{err_from_is_err_and}
use Rattle.column.specs.Clock.{state_of}
use Rattle.plan.proofs.Plans.{ready_runs}
use Rattle.calls.specs.Calls.{judged}
use Rattle.simulator.proofs.Planned.{wires_lent, clock_file}
use Rattle.simulator.proofs.clock.Goals as goal

pub returns-in_err-n : goal.returns-in_err-n
returns-in_err-n c =
    let p = err_from_is_err_and c.from_residual.result c.from_residual.ensures.1 in
    rw (p.1, p.2) (judged c.in_err-n.ensures (refl, refl))

pub invariant_of-plan : goal.invariant_of-plan
invariant_of-plan c = record { runnable = ready_runs _ c.in_ok-n.ensures }

pub slice_bounds-clock_planned-end : goal.slice_bounds-clock_planned-end
slice_bounds-clock_planned-end c = sym (wires_lent (ready_runs _ c.in_ok-n.ensures)).0

pub clock_planned-requires : goal.clock_planned-requires
clock_planned-requires c = wires_lent (ready_runs _ c.in_ok-n.ensures)

pub returns : goal.returns
returns c =
    let a = c.args in
    clock_file a.file.now c.in_ok-n.ensures (state_of a.contents.now a.flops.now) a.inputs.now a.values.now _ _ c.clock_planned.ensures
