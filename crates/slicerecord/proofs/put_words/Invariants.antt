-- `slicerecord::put_words` meets its contract: the words before i are stored. Assumes nothing.
use mathlib.Core.Path.{◌≡◌}
use lib.ListN.{take}
use lib.Seq.{sets}
use Rattle.slicerecord.specs.Record.{all_bytes}
use Rattle.slicerecord.proofs.put_words.Given as goal

abbrev pub invariant-loop-i : goal.invariant-loop-i
invariant-loop-i l = l.out ≡ sets l.initial.out l.at (all_bytes 8 (take l.i l.words))
