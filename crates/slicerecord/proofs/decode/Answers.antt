-- `slicerecord::decode` meets its contract: each field is read from its bytes. Assumes nothing.
use Rattle.slicefile.specs.Lists.{tabulate}
use Rattle.slicerecord.specs.Record.{record_of}
use Rattle.slicerecord.proofs.decode.Goals as goal

pub returns : goal.returns
unfolding record_of tabulate
returns c =
    rw (
      c.letter_bytes.ensures,
      c.letter_bytes-2.ensures,
      c.contents_word.ensures,
      c.contents_word-2.ensures,
      c.contents_word-3.ensures,
      c.contents_word-4.ensures,
      c.letter_bytes-3.ensures,
      c.letter_bytes-4.ensures,
      c.letter_bytes-5.ensures,
      c.letter_bytes-6.ensures,
      c.pin_codes.ensures,
    )
