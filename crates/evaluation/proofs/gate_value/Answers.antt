-- `evaluation::gate_value` meets its contract, test by test of the head. Assumes nothing.
use mathlib.Core.Path.{◌≡◌, sym}
use mathlib.Core.List.{List}
use Prim.Native.Nat.{ℕ, ◌+◌, ◌*◌, ◌-◌, ◌<◌}
use native.Mathlib.Omega.{arith}
use lib.ListN.{length, get_or}
use Rattle.netlist.specs.Table.{row_length}
use Rattle.evaluation.specs.Numbers.{AreWires}
use Rattle.evaluation.proofs.Gates.{rule_lut, rule_zero, rule_select, rule_xor, rule_same}
use Rattle.evaluation.proofs.gate_value.Goals as goal

-- a source of the row is a wire
is_wire : (wires table : List ℕ) (x i : ℕ) → AreWires wires table (row_length * x + 1) 6 → 0 < i → i < row_length → get_or table (row_length * x + i) 0 < length wires
is_wire wires table x i h a b =
    let e : row_length * x + 1 + (i - 1) ≡ row_length * x + i = omega arith in
    rw e at (h (i - 1) (omega arith))

pub returns-then-head-n : goal.returns-then-head-n
returns-then-head-n c flops =
    let a = c.args in
    rw (c.contents_bit.ensures, c.from-head.ensures, c.number_on-k.ensures.0)
    (sym (rule_lut a.contents.now flops a.wires.now a.gates.now.table.now a.gates.now.n a.x (omega arith)))

pub wire-first-requires : goal.wire-first-requires
wire-first-requires c = (is_wire _ _ _ 1 c.requires.are_wires.0 (omega arith) (omega arith), c.requires.are_wires.1)

pub wire-second-requires : goal.wire-second-requires
wire-second-requires c = (is_wire _ _ _ 2 c.requires.are_wires.0 (omega arith) (omega arith), c.requires.are_wires.1)

pub wire-third-requires : goal.wire-third-requires
wire-third-requires c = (is_wire _ _ _ 3 c.requires.are_wires.0 (omega arith) (omega arith), c.requires.are_wires.1)

pub returns-then-head-n-2 : goal.returns-then-head-n-2
returns-then-head-n-2 c flops =
    let a = c.args in
    sym (rule_zero a.contents.now flops a.wires.now a.gates.now.table.now a.gates.now.n a.x (omega arith) (omega arith))

pub returns-then-head-n-3 : goal.returns-then-head-n-3
returns-then-head-n-3 c flops =
    let a = c.args in
    rw (c.choose-chosen.ensures, c.wire-first.ensures.0, c.wire-second.ensures.0, c.wire-third.ensures.0)
    (sym (rule_select a.contents.now flops a.wires.now a.gates.now.table.now a.gates.now.n a.x (omega arith) (omega arith) (omega arith)))

pub returns-then-head-n-4 : goal.returns-then-head-n-4
returns-then-head-n-4 c flops =
    let a = c.args in
    rw (c.wire-first.ensures.0, c.wire-second.ensures.0)
    (sym (rule_xor a.contents.now flops a.wires.now a.gates.now.table.now a.gates.now.n a.x (omega arith) (omega arith) (omega arith) (omega arith)))

pub returns : goal.returns
returns c flops =
    let a = c.args in
    rw c.wire-first.ensures.0
    (sym (rule_same a.contents.now flops a.wires.now a.gates.now.table.now a.gates.now.n a.x (omega arith) (omega arith) (omega arith) (omega arith) c.requires.table.1))
