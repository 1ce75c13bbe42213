use native.Mathlib.Omega.{arith}
use Rattle.toposort.proofs.Flops.{none_listed, one_more_listed}
use Rattle.toposort.proofs.list_flops.Goals as goal

pub loop-q-init : goal.loop-q-init
loop-q-init c = none_listed _ _ c.requires.unseen

pub loop-q-preserved : goal.loop-q-preserved
loop-q-preserved c = one_more_listed (omega arith) (omega arith) c.loop-q.invariant
