-- `clockedge::next_word` meets its contract, by the table's kind. Assumes nothing.
use native.Mathlib.Omega.{arith}
use Rattle.std.proofs.lemmas.Bool.Decides.{nat_tests}
use Rattle.clockedge.specs.Moves.{written_by, word_by}
use Rattle.clockedge.proofs.next_word.Goals as goal

pub returns-then-enable-ne1 : goal.returns-then-enable-ne1
unfolding word_by
returns-then-enable-ne1 c = grind (arith, nat_tests)

pub returns-in-Logic : goal.returns-in-Logic
unfolding word_by written_by
returns-in-Logic c = grind (arith, nat_tests)

pub returns-in-Memory : goal.returns-in-Memory
unfolding word_by written_by
returns-in-Memory c = grind (arith, nat_tests)

pub returns-in-Shift : goal.returns-in-Shift
unfolding word_by written_by
returns-in-Shift c = grind (arith, nat_tests)

pub returns-in-ShiftFromNext : goal.returns-in-ShiftFromNext
unfolding word_by written_by
returns-in-ShiftFromNext c = grind (arith, nat_tests)
