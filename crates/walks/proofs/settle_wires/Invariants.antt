-- `walks::settle_wires` meets its contract. The loop's invariant: the flip-flops and as many more signals as it has passed have their rules' values.
-- Assumes nothing.
use Prim.Native.Nat.{◌+◌, ◌*◌}
use Rattle.netlist.specs.Rule.{env}
use Rattle.netlist.specs.Table.{gate_of}
use Rattle.netlist.specs.Wires.{values_on, inputs_on}
use Rattle.netlist.specs.Invariant.{SettledTo}
use Rattle.walks.specs.Walks.{StillWires}
use Rattle.walks.proofs.settle_wires.Given as goal

abbrev pub invariant-loop-signal : goal.invariant-loop-signal
invariant-loop-signal l =
    let n = l.walk.gates.n in
    StillWires n l.walk.m l.initial.wires l.wires
    × SettledTo (gate_of l.walk.gates.table.now n) (env l.contents l.flops (inputs_on n l.initial.wires)) l.walk.order.now (8 * n + l.signal-index) (values_on n l.wires)
