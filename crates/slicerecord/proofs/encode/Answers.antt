-- `slicerecord::encode` meets its contract: each field is stored after the one before. Assumes nothing.
use native.Mathlib.Omega.{arith}
use Rattle.slicerecord.specs.Record.{Sized}
use Rattle.slicerecord.proofs.Encoding.{encoded}
use Rattle.slicerecord.proofs.encode.Goals as goal

pub returns : goal.returns
returns c =
    -- the arrays that come in have their types' lengths
    let sized : Sized c.args.slice = record {
      modes = omega arith;
      shifts = omega arith;
      contents = omega arith;
      carries = omega arith;
      muxes = omega arith;
      mains = omega arith;
      seconds = omega arith;
      pins = omega arith;
    } in
    encoded _ sized c.put_bytes.ensures c.put_bytes-2.ensures c.put_bytes-3.ensures c.put_words.ensures c.put_bytes-4.ensures c.put_bytes-5.ensures
    c.put_bytes-6.ensures c.put_bytes-7.ensures c.put_bytes-8.ensures c.put_bytes-9.ensures c.put_codes.ensures
