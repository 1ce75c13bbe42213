-- `rules::bad_combination` meets its contract. The loop's invariant: each flag says whether a letter before l passes its test. Assumes nothing.
use mathlib.Core.Path.{◌≡◌}
use Rattle.slicefile.specs.Lists.{any_below}
use Rattle.rules.specs.Rules.{mode_is, letter_combination}
use Rattle.rules.proofs.bad_combination.Given as goal

abbrev pub invariant-loop-l : goal.invariant-loop-l
invariant-loop-l l = (l.letters ≡ any_below l.l (letter_combination l.body)) × (l.memory ≡ any_below l.l (mode_is l.body 1)) × (l.shift ≡ any_below l.l (mode_is l.body 2))
