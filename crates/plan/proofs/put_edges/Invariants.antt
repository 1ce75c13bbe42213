-- `plan::put_edges` meets its contract. The loop's invariant: the numbers of the slices before s are put. Assumes nothing.
use Prim.Native.Nat.{◌*◌}
use Rattle.lent.specs.Put.{Put}
use Rattle.clocknumbers.specs.Numbers.{edge_length}
use Rattle.plan.specs.Plan.{edges_place, edges_of}
use Rattle.plan.proofs.put_edges.Given as goal

abbrev pub invariant-loop-s : goal.invariant-loop-s
invariant-loop-s l = Put (edges_of l.sound.file.now l.sound.n l.sound.m) (edges_place l.sound.n) (edge_length * l.s) l.initial.plan l.plan
