use native.Mathlib.Omega.{arith}
use Rattle.walks.proofs.Laying.{flops_next}
use Rattle.walks.proofs.spread_flops.Goals as goal

pub loop-s-preserved : goal.loop-s-preserved
loop-s-preserved c = flops_next _ c.loop-s.s (omega arith) c.loop-s.invariant c.spread_byte.ensures
