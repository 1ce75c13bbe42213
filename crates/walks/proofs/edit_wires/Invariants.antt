-- `walks::edit_wires` meets its contract. The loop's invariant: `EditedAt` after the flip-flops and as many more signals as it has passed.
-- Assumes nothing.
use Prim.Native.Nat.{◌+◌, ◌*◌}
use Rattle.walks.specs.Walks.{StillWires}
use Rattle.walks.proofs.Turns.{EditedAt}
use Rattle.walks.proofs.edit_wires.Given as goal

abbrev pub invariant-loop-signal : goal.invariant-loop-signal
invariant-loop-signal l =
    let n = l.walk.gates.n in
    StillWires n l.walk.m l.initial.wires l.wires
    × EditedAt l.walk.gates.table.now n l.walk.order.now l.contents l.changed l.edited l.initial.wires (8 * n + l.signal-index) l.marks l.wires
