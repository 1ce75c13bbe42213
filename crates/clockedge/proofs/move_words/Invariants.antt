-- `clockedge::move_words` meets its contract: the letters below l have moved. Assumes nothing.
use Rattle.clockedge.specs.Moved.{Moved}
use Rattle.clockedge.proofs.move_words.Given as goal

abbrev pub invariant-loop-l : goal.invariant-loop-l
invariant-loop-l l = Moved l.wires l.edge l.s l.l l.initial.contents l.contents
