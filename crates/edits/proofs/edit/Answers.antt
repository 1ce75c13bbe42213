-- `edits::edit` meets its contract: the judge's refusal is handed on, and the plan stands for the file. Assumes nothing.
use Rattle.std.proofs.Common.{refl}
use Rattle.std.proofs.lemmas.Result.{err_from_is_err_and}
use Rattle.plan.proofs.Plans.{ready_runs}
use Rattle.calls.specs.Calls.{judged}
use Rattle.edits.proofs.Planned.{edits_file}
use Rattle.edits.proofs.edit.Goals as goal

pub returns-in_err-n : goal.returns-in_err-n
returns-in_err-n c =
    let p = err_from_is_err_and c.from_residual.result c.from_residual.ensures.1 in
    rw (p.1, p.2) (judged c.in_err-n.ensures (refl, refl))

pub invariant_of-plan : goal.invariant_of-plan
invariant_of-plan c = record { runnable = ready_runs _ c.in_ok-n.ensures }

pub returns : goal.returns
returns c = edits_file c.args.file.now c.in_ok-n.ensures _ _ _ c.args.values.now _ c.edit_planned.ensures
