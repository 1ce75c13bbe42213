-- `calls::fill_flops` meets its contract. The loop's invariant: the bytes before s are filled. Assumes nothing.
use mathlib.Core.List.{List}
use Prim.Native.Nat.{ℕ}
use Rattle.slicefile.specs.Format.{power_up_bits}
use Rattle.column.specs.File.{slice_body}
use Rattle.slicefile.proofs.Filling.{Filled}
use Rattle.calls.proofs.fill_flops.Given as goal

-- the power-up bits of slice s
abbrev pub bits : List ℕ → ℕ → ℕ
bits file s = power_up_bits (slice_body file s)

abbrev pub invariant-loop-s : goal.invariant-loop-s
invariant-loop-s l = Filled (bits l.sound.file.now) l.s l.flops
