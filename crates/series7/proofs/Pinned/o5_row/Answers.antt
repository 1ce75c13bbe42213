-- `series7::Pinned::o5_row` meets its contract. Assumes nothing.
use native.Mathlib.Omega.{arith}
use borrow.Author.Tests.{ne_eqb}
use Rattle.netlist.specs.Table.{code_of, gate_numbers}
use Rattle.slicefile.specs.Lists.{tabulate}
use Rattle.series7.specs.Signals.{pins_of, family_gate}
use Rattle.series7.proofs.TablePins.{table_pins}
use Rattle.series7.proofs.Pinned.o5_row.Goals as goal

pub returns : goal.returns
unfolding code_of gate_numbers pins_of family_gate tabulate
returns c =
    let a = c.args.self.now.slice in
    rw (ne_eqb _ 2 c.if-self-l-eq2.false, table_pins a.n a.m a.body.now c.args.self.now.pinned.3 c.args.l 0 5 c.copy_from_slice.ensures.after (omega arith) (omega arith) (omega arith) (omega arith))
