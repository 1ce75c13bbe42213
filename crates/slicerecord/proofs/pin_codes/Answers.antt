-- `slicerecord::pin_codes` meets its contract, by the loop's invariant. Assumes nothing.
use native.Mathlib.Omega.{arith}
use lib.ListN.{length-set}
use Rattle.slicefile.specs.Format.{pin_count, pin_code}
use Rattle.slicefile.proofs.Filling.{filled_next, filled_all}
use Rattle.slicerecord.proofs.pin_codes.Goals as goal

pub loop-p-preserved : goal.loop-p-preserved
loop-p-preserved c =
    let l = c.loop-p in
    record {
      size = simp length-set l.invariant.size;
      filled = filled_next (pin_code c.args.body.now) l.p l.codes _ (omega arith) c.pin_code.ensures l.invariant.filled;
    }

pub returns : goal.returns
returns c =
    let l = c.loop-p in
    filled_all (pin_code c.args.body.now) pin_count l.codes l.invariant.size (λ i h. l.invariant.filled i (omega arith))
