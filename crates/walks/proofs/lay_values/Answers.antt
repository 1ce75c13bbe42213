-- `walks::lay_values` meets its contract. Assumes nothing.
use native.Mathlib.Omega.{arith}
use Rattle.lent.proofs.Parts.{put_mid_all}
use Rattle.walks.proofs.Laying.{laid_values}
use Rattle.walks.proofs.lay_values.Goals as goal

pub returns : goal.returns
returns c =
    laid_values c.requires.3 c.requires.1 c.requires.2 (put_mid_all c.copy_bytes.ensures (omega arith) (omega (arith, c.requires.3.size)))
