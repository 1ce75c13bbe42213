-- `buffers::bad_bytes` meets its contract. The loop's invariant: `found` says whether a byte before this one is bad. Assumes nothing.
use mathlib.Core.Path.{◌≡◌}
use lib.Dec.{ltb}
use lib.ListN.{get_or}
use Rattle.slicefile.specs.Lists.{any_below}
use Rattle.buffers.proofs.bad_bytes.Given as goal

abbrev pub invariant-loop-byte : goal.invariant-loop-byte
invariant-loop-byte l = l.found ≡ any_below l.byte-index (λ i. ltb 1 (get_or l.bytes i 0))
