-- `clockruns::run_clocks` meets its contract. The loop's invariant: i clocks have run, and the buffers keep their lengths. Assumes nothing.
use Rattle.clockruns.proofs.Extending.{RunTo}
use Rattle.clockruns.proofs.run_clocks.Given as goal

abbrev pub invariant-loop-i : goal.invariant-loop-i
invariant-loop-i l = RunTo l.plan.numbers.now l.plan.n l.plan.m l.i l.initial.contents l.contents l.initial.flops l.flops l.inputs l.initial.values l.values l.initial.wires l.wires
