-- `rules::bad_driver` meets its contract, by the loop's invariant. Assumes nothing.
use mathlib.Core.Path.{◌≡◌}
use native.Mathlib.Omega.{arith}
use Rattle.slicefile.specs.Format.{pin_count}
use Rattle.rules.specs.Rules.{bad_driver}
use Rattle.rules.proofs.bad_driver.Goals as goal

pub returns : goal.returns
unfolding bad_driver
returns c =
    let e : c.loop-p.p ≡ pin_count = omega arith in
    rw e at c.loop-p.invariant
