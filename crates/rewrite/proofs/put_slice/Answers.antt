-- `rewrite::put_slice` meets its contract: a good record is read, and writing what was read gives the same bytes. Assumes nothing.
use mathlib.Core.Path.{◌∙◌, refl, sym}
use Rattle.recordcalls.proofs.Answers.{read_done}
use Rattle.recordcalls.proofs.RoundTrip.{write_read}
use Rattle.rewrite.proofs.put_slice.Goals as goal

pub unwrap-slice-requires : goal.unwrap-slice-requires
unwrap-slice-requires c = rw (c.read_record.ensures, read_done _ _ _ c.requires.0) refl

pub unwrap-requires : goal.unwrap-requires
unwrap-requires c =
    let w = write_read c.args.bytes.now c.args.n c.args.m c.args.part.now (λ i. (c.type_inv.bytes i).fits) (sym c.read_record.ensures ∙ c.unwrap-slice.ensures) c.requires.1 in
    rw (c.write_record.ensures.0, w.0) refl

pub returns : goal.returns
returns c =
    let w = write_read c.args.bytes.now c.args.n c.args.m c.args.part.now (λ i. (c.type_inv.bytes i).fits) (sym c.read_record.ensures ∙ c.unwrap-slice.ensures) c.requires.1 in
    c.write_record.ensures.1 ∙ w.1
