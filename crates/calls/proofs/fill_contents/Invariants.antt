-- `calls::fill_contents` meets its contract. The loop's invariant: the words before t are filled. Assumes nothing.
use mathlib.Core.List.{List}
use Prim.Native.Nat.{ℕ, ◌/◌, ◌%◌}
use Rattle.slicefile.specs.Format.{contents_word}
use Rattle.column.specs.File.{slice_body}
use Rattle.slicefile.proofs.Filling.{Filled}
use Rattle.calls.proofs.fill_contents.Given as goal

-- the contents of table t
abbrev pub word : List ℕ → ℕ → ℕ
word file t = contents_word (slice_body file (t / 4)) (t % 4)

abbrev pub invariant-loop-t : goal.invariant-loop-t
invariant-loop-t l = Filled (word l.sound.file.now) l.t l.contents
