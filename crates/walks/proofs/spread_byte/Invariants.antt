-- `walks::spread_byte` meets its contract. The loop's invariant: the first b bits are put. Assumes nothing.
use Rattle.netlist.specs.Rule.{bit_at}
use Rattle.lent.specs.Put.{Put}
use Rattle.walks.proofs.spread_byte.Given as goal

abbrev pub invariant-loop-b : goal.invariant-loop-b
invariant-loop-b l = Put (bit_at l.byte) l.at l.b l.initial.wires l.wires
