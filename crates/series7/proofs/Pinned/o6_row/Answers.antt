-- `series7::Pinned::o6_row` meets its contract. Assumes nothing.
use Prim.Native.Nat.{◌+◌, ◌*◌}
use native.Mathlib.Omega.{arith}
use borrow.Author.Tests.{eq-eqb, ne_eqb}
use Rattle.netlist.specs.Table.{code_of, gate_numbers}
use Rattle.slicefile.specs.Lists.{tabulate}
use Rattle.series7.specs.Signals.{pins_of, family_gate}
use Rattle.sources.proofs.PinLaws.{pin_at}
use Rattle.series7.proofs.TablePins.{table_pins}
use Rattle.series7.proofs.Pinned.o6_row.Goals as goal

pub returns-then-self-l-eq2 : goal.returns-then-self-l-eq2
unfolding code_of gate_numbers pins_of family_gate
returns-then-self-l-eq2 c =
    let a = c.args.self.now.slice in
    let l = c.args.l in
    let pin = pin_at a.n a.m a.body.now c.args.self.now.pinned.3 in
    rw (eq-eqb _ 2 c.if-self-l-eq2.true, pin (6 * l + 1) (omega arith), pin (6 * l + 2) (omega arith), pin (6 * l + 3) (omega arith), pin (6 * l + 4) (omega arith), pin (6 * l + 5) (omega arith))

pub returns : goal.returns
unfolding code_of gate_numbers pins_of family_gate tabulate
returns c =
    let a = c.args.self.now.slice in
    rw (ne_eqb _ 2 c.if-self-l-eq2.false, table_pins a.n a.m a.body.now c.args.self.now.pinned.3 c.args.l 0 6 c.copy_from_slice.ensures.after (omega arith) (omega arith) (omega arith) (omega arith))
