-- `rewrite::put_records` meets its contract. The loop's invariant: the buffer has the file's bytes up to slice s. Assumes nothing.
use mathlib.Core.Path.{◌≡◌}
use Prim.Native.Nat.{◌+◌, ◌*◌}
use lib.ListN.{length, take}
use Rattle.slicefile.specs.Format.{size_tag, slice_tag, record_length}
use Rattle.rewrite.proofs.put_records.Given as goal

abbrev pub invariant-loop-s : goal.invariant-loop-s
invariant-loop-s l =
    let at = record_length size_tag + record_length slice_tag * l.s in
    (length l.out ≡ length l.file) × (take at l.out ≡ take at l.file)
