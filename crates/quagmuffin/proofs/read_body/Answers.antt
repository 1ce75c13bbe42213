-- `quagmuffin::read_body` meets its contract: what is stored is the body of the record that was read. Assumes nothing.
use mathlib.Core.Path.{sym, ◌∙◌}
use Rattle.quagmuffin.proofs.Bodies.{read_stored}
use Rattle.quagmuffin.proofs.read_body.Goals as goal

pub returns : goal.returns
returns c =
    let e = sym c.read_record.ensures ∙ c.in_ok-read_record.was in
    rw c.copy_bytes.ensures (read_stored c.args.bytes.now _ _ _ (λ i. (c.type_inv.bytes i).fits) c.if-body-ne-SLICE_BODY.false e)
