-- `walks::spread_flops` meets its contract. The loop's invariant: the bits of the first s slices are on their wires. Assumes nothing.
use Rattle.walks.specs.Walks.{FlopsOn}
use Rattle.walks.proofs.spread_flops.Given as goal

abbrev pub invariant-loop-s : goal.invariant-loop-s
invariant-loop-s l = FlopsOn l.n l.m l.flops l.s l.initial.wires l.wires
