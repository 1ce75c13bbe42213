-- `walks::number_reached` meets its contract. Assumes nothing.
use Rattle.walks.proofs.Reached.{number_tests}
use Rattle.walks.proofs.number_reached.Goals as goal

pub returns : goal.returns
returns c =
    rw (c.saturating_sub.ensures, c.saturating_sub-2.ensures, c.from-wire.ensures)
    (number_tests c.args.n c.args.changed.now c.args.marks.now c.args.number c.requires.n_bound.0)
