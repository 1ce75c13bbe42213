-- What the loop keeps: the edits that are left are storable, and where they are stored, all are. Assumes nothing.
use Rattle.edits.specs.Storing.{store}
use Rattle.edits.proofs.Storing.{Before}
use Rattle.edits.proofs.store_edits.Given as goal

abbrev pub invariant-loop-edit : goal.invariant-loop-edit
invariant-loop-edit l =
    Before l.edits (store l.initial.contents l.initial.inputs l.initial.changed l.initial.edited) (store l.contents l.inputs l.changed l.edited) l.edit-index
