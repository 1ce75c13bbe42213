use mathlib.Core.Path.{sym, ◌∙◌}
use Prim.Native.Nat.{◌≤◌}
use native.Mathlib.Omega.{arith}
use lib.ListN.{length}
use Rattle.netlist.specs.Table.{signal_limit, signal_count}
use Rattle.walks.proofs.Laying.{still_same}
use Rattle.walks.proofs.Turns.{turn, set_still, edit_start, edit_turn, edit_pass, edit_end}
use Rattle.walks.proofs.edit_wires.Goals as goal
use Rattle.walks.proofs.edit_wires.Goals.{then-gate_reached, else-gate_reached}

pub loop-signal-init : goal.loop-signal-init
loop-signal-init c = (still_same c.requires.0, edit_start c.args.walk.now.walkable _ _ _ _ signal_limit)

pub gate_value-fresh-requires-clause-table : goal.gate_value-fresh-requires-clause-table
gate_value-fresh-requires-clause-table c =
    let k = c.args.walk.now.walkable in
    let t = turn k _ c.loop-signal-test.true c.from-x.ensures in
    (t.2, t.3)

pub loop-signal-preserved : goal.loop-signal-preserved
loop-signal-preserved c =
    let k = c.args.walk.now.walkable in
    let v = c.loop-signal.invariant in
    let j = c.loop-signal.signal-index in
    let t = turn k j c.loop-signal-test.true c.from-x.ensures in
    let long : signal_count c.args.walk.now.gates.n ≤ length c.loop-signal.marks = omega (arith, k.sized.0) in
    let r = c.gate_reached.ensures in
    elim c.if-gate_reached.branch [
      | then-gate_reached w ↦ (
        rw w.wires-is (set_still k _ _ v.0 j t.0 t.1 _ w.gate_value-fresh.ensures),
        rw (w.wires-is, w.marks-is) (edit_turn k _ _ _ _ v.0 j t.0 t.1 long v.1 _ w.gate_value-fresh.ensures (sym r ∙ w.if-gate_reached.true)),
      )
      | else-gate_reached w ↦ (
        rw w.wires-is v.0,
        rw (w.wires-is, w.marks-is) (edit_pass k _ _ _ _ v.0 j t.0 t.1 long v.1 (sym r ∙ w.if-gate_reached.false)),
      )
    ]

pub returns : goal.returns
returns c =
    record {
      still = c.loop-signal.invariant.0;
      done = edit_end c.args.walk.now.walkable _ _ _ _ c.loop-signal.marks c.loop-signal.invariant.0 c.requires.0 c.loop-signal.signal-index c.loop-signal-test.false c.loop-signal.invariant.1;
    }
