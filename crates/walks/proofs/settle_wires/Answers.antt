use mathlib.Core.Path.{◌∙◌}
use Rattle.walks.proofs.Laying.{flops_now}
use Rattle.walks.proofs.Turns.{turn, set_still, settle_turn, settle_start, settle_end}
use Rattle.walks.proofs.settle_wires.Goals as goal

pub loop-signal-init : goal.loop-signal-init
loop-signal-init c = let on = flops_now c.spread_flops.ensures in (on.still, settle_start c.args.walk.now.walkable _ _ on.still _ on)

pub gate_value-value-requires-clause-table : goal.gate_value-value-requires-clause-table
gate_value-value-requires-clause-table c =
    let k = c.args.walk.now.walkable in
    let t = turn k _ c.loop-signal-test.true c.from-x.ensures in
    (t.2, t.3)

pub loop-signal-preserved : goal.loop-signal-preserved
loop-signal-preserved c =
    let k = c.args.walk.now.walkable in
    let v = c.loop-signal.invariant in
    let j = c.loop-signal.signal-index in
    let t = turn k j c.loop-signal-test.true c.from-x.ensures in
    (set_still k _ _ v.0 j t.0 t.1 _ c.gate_value-value.ensures, settle_turn k _ _ v.0 j t.0 t.1 _ c.gate_value-value.ensures _ v.1)

pub returns : goal.returns
returns c =
    let on = c.spread_flops.ensures in
    let v = c.loop-signal.invariant in
    record {
      still = record { wires = v.0.wires; inputs = v.0.inputs ∙ on.still.inputs };
      settled = rw on.still.inputs at (settle_end c.args.walk.now.walkable _ _ v.0 _ c.loop-signal.signal-index c.loop-signal-test.false v.1);
    }
