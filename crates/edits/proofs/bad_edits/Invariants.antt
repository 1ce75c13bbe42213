-- What the loop keeps: what is found is whether one of the edits before this one is bad. Assumes nothing.
use Rattle.std.proofs.Common.{◌≡◌, take}
use Rattle.buffers.specs.Buffers.{bad_table_by}
use Rattle.edits.specs.Edits.{any_bad}
use Rattle.edits.proofs.bad_edits.Given as goal

abbrev pub invariant-loop-edit : goal.invariant-loop-edit
invariant-loop-edit l = l.found ≡ any_bad (bad_table_by l.edges.numbers.now l.edges.n) l.m (take l.edit-index l.edits)
