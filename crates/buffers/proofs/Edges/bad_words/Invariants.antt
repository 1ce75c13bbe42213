-- `buffers::Edges::bad_words` meets its contract. The loop's invariant: `found` says whether a word before t is bad. Assumes nothing.
use mathlib.Core.Path.{◌≡◌}
use lib.ListN.{get_or}
use Rattle.slicefile.specs.Lists.{any_below}
use Rattle.buffers.specs.Buffers.{bad_word_by}
use Rattle.buffers.proofs.Edges.bad_words.Given as goal

abbrev pub invariant-loop-t : goal.invariant-loop-t
invariant-loop-t l = l.found ≡ any_below l.t (λ t. bad_word_by l.self.numbers.now t (get_or l.contents t 0))
