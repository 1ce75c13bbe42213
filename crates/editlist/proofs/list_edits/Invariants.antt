-- What the loop over the edits keeps: the words hold the edits before i. Assumes nothing.
use Rattle.std.specs.Prelude.{◌≡◌, length}
use Rattle.editlist.specs.Listed.{list_length, Listed}
use Rattle.editlist.proofs.list_edits.Given as goal

abbrev pub invariant-loop-i : goal.invariant-loop-i
invariant-loop-i l = (length l.words ≡ list_length) × Listed l.edits l.i l.words
