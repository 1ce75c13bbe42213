-- What the loop over the bytes keeps: those before i are copied. Assumes nothing.
use Rattle.lent.proofs.Putting.{Copied}
use Rattle.lent.proofs.copy_bytes.Given as goal

abbrev pub invariant-loop-i : goal.invariant-loop-i
invariant-loop-i l = Copied l.from l.i l.to
