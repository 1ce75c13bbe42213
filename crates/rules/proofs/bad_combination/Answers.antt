-- `rules::bad_combination` meets its contract, by the loop's invariant. Assumes nothing.
use mathlib.Core.Path.{◌≡◌}
use native.Mathlib.Omega.{arith}
use Rattle.rules.specs.Rules.{bad_combination}
use Rattle.rules.proofs.bad_combination.Goals as goal

pub returns : goal.returns
unfolding bad_combination
returns c =
    let at = c.loop-l in
    let e : at.l ≡ 4 = omega arith in
    rw (at.invariant.0, at.invariant.1, at.invariant.2, e)
