-- `clockedge::move_all` meets its contract: the slices before s have moved. Assumes nothing.
use Rattle.clockedge.proofs.Together.{MovedTo}
use Rattle.clockedge.proofs.move_all.Given as goal

abbrev pub invariant-loop-s : goal.invariant-loop-s
invariant-loop-s l = MovedTo l.wires l.edges l.initial.contents l.initial.flops l.s l.contents l.flops
