-- `recordcalls::write_record` meets its contract: the front of the part has a record's length. Assumes nothing.
use mathlib.Core.Path.{◌≡◌, ◌∙◌, sym}
use native.Mathlib.Omega.{arith}
use borrow.Author.Rules.{rules}
use lib.ListN.{length}
use lib.Seq.{length-take-le}
use Rattle.slicefile.specs.Format.{slice_tag, record_length}
use Rattle.recordcalls.proofs.write_record.Goals as goal

pub copy_from_slice-requires : goal.copy_from_slice-requires
copy_from_slice-requires c =
    let l : length c.encode-bytes.result ≡ record_length slice_tag = search rules in
    length-take-le (record_length slice_tag) c.args.part.now (omega arith) ∙ sym l
