-- `clockruns::run_clocks` meets its contract: each clock extends the run by one. Assumes nothing.
use mathlib.Core.Path.{◌≡◌, ◌∙◌}
use Prim.Native.Nat.{◌<◌}
use native.Mathlib.Omega.{arith}
use Rattle.clockruns.proofs.Extending.{run_start, part_is, part_bits, plan_next}
use Rattle.clockruns.proofs.run_clocks.Goals as goal

pub loop-i-init : goal.loop-i-init
loop-i-init c = run_start c.requires.wires_len.1

pub clock_by-requires-clause-bits : goal.clock_by-requires-clause-bits
clock_by-requires-clause-bits c =
    let a = c.args in
    let i = c.loop-i.i in
    let q = c.requires.inputs_len in
    let inside : i < a.k = omega arith in
    rw (part_is a.inputs.now a.plan.now.m a.k i q.0 inside) (part_bits a.inputs.now a.plan.now.m a.k i q.0 inside q.1, c.loop-i.invariant.bits)

pub loop-i-preserved : goal.loop-i-preserved
loop-i-preserved c =
    let q = c.requires in
    let a = c.args in
    let w = c.loop-i.invariant in
    let inside : c.loop-i.i < a.k = omega arith in
    record {
      contents_size = c.clock_by.auto.contents ∙ w.contents_size;
      flops_size = c.clock_by.auto.flops ∙ w.flops_size;
      values_size = c.clock_by.auto.values ∙ w.values_size;
      wires_size = c.clock_by.auto.wires ∙ w.wires_size;
      bits = c.clock_by.ensures.bits;
      ran = plan_next a.inputs.now a.plan.now.m a.k c.loop-i.i q.inputs_len.0 inside q.inputs_len.1 w.ran c.clock_by.ensures;
    }

pub returns : goal.returns
returns c =
    let e : c.loop-i.i ≡ c.args.k = omega arith in
    rw e at c.loop-i.invariant.ran
