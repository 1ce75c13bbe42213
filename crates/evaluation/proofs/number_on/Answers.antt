use mathlib.Core.Path.{◌≡◌}
use Prim.Native.Nat.{◌-◌}
use native.Mathlib.Omega.{arith}
use lib.Dec.{lit<}
use Rattle.evaluation.specs.Numbers.{number_on}
use Rattle.evaluation.proofs.Numbers.{number_more, small_more}
use Rattle.evaluation.proofs.number_on.Goals as goal

pub loop-j-init : goal.loop-j-init
unfolding number_on
loop-j-init c =
    let none : c.args.k - c.args.k ≡ 0 = omega arith in
    (rw none, rw none (lit< tt))

pub loop-j-preserved : goal.loop-j-preserved
loop-j-preserved c =
    let a = c.args in
    let l = c.loop-j in (
      rw (number_more a.wires.now a.numbers.now a.i l.j a.k (omega arith) (omega arith), c.wire-b.ensures.0, l.invariant.0),
      small_more a.wires.now a.numbers.now a.i l.j a.k (omega arith) (omega arith) l.invariant.1 c.wire-b.ensures.1,
    )
