-- `column::lower_slice` meets its contract. The loop's invariant: the signals before signal k of the slice have their rows in the table. Assumes nothing.
use mathlib.Core.Path.{◌≡◌}
use Prim.Native.Nat.{◌+◌, ◌*◌}
use lib.ListN.{length}
use Rattle.netlist.specs.Table.{slice_signals, table_length}
use Rattle.column.specs.Compile.{LoweredTo}
use Rattle.column.proofs.lower_slice.Given as goal

abbrev pub invariant-loop-k : goal.invariant-loop-k
invariant-loop-k l = (length l.table ≡ table_length l.sound.n) × LoweredTo l.sound.file.now l.sound.n l.table (slice_signals * l.s + l.k)
