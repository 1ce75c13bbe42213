-- `walks::lay_inputs` meets its contract. Assumes nothing.
use native.Mathlib.Omega.{arith}
use Prim.Native.Nat.{ℕ}
use lib.ListN.{length-set}
use Rattle.lent.proofs.Parts.{put_mid_all}
use Rattle.walks.proofs.Laying.{laid_inputs}
use Rattle.walks.proofs.lay_inputs.Goals as goal

pub returns : goal.returns
returns c =
    laid_inputs c.args.n c.args.inputs.now c.args.wires.now _ c.requires.n_bound.1 c.requires.bits.0 c.requires.bits.1
    (put_mid_all c.copy_bytes.ensures (omega (arith, length-set {A = ℕ})) (omega (arith, length-set {A = ℕ})))
