-- `clockedge::with_bit` meets its contract: the sum doesn't wrap. Assumes nothing.
use Rattle.netlist.proofs.Bits.{power}
use Rattle.clockedge.proofs.Bits.{with_bit_fits}
use Rattle.clockedge.proofs.with_bit.Goals as goal

pub overflow_add-result : goal.overflow_add-result
overflow_add-result c =
    rw (power c.args.i c.requires.0, c.from.ensures) (record { fits = with_bit_fits c.args.word c.args.i c.args.b c.requires.0 c.ranges.word.fits c.requires.1 })
