-- `toposort::list_flops` meets its contract. The invariant: the flip-flops below q are listed. Assumes nothing.
use Rattle.toposort.specs.Components.{FlopsListed}
use Rattle.toposort.proofs.list_flops.Given as goal

abbrev pub invariant-loop-q : goal.invariant-loop-q
invariant-loop-q l = FlopsListed l.q l.marks l.order
