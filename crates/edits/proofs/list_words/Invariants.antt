-- What the loop keeps: the edits before this one are those of the words. Assumes nothing.
use Rattle.std.specs.Prelude.{◌≡◌, ◌+◌, length}
use Rattle.editlist.specs.Listed.{edit_limit}
use Rattle.edits.specs.Words.{Handed}
use Rattle.edits.proofs.list_words.Given as goal

abbrev pub invariant-loop-i : goal.invariant-loop-i
invariant-loop-i l = (length l.edits ≡ edit_limit + 1) × Handed l.words l.i l.edits
