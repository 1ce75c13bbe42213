-- `rules::bad_choice` meets its contract. The loop's invariant: `letters` says whether a letter before l has a bad choice. Assumes nothing.
use mathlib.Core.Path.{◌≡◌}
use Rattle.slicefile.specs.Lists.{any_below}
use Rattle.rules.specs.Rules.{letter_choice}
use Rattle.rules.proofs.bad_choice.Given as goal

abbrev pub invariant-loop-l : goal.invariant-loop-l
invariant-loop-l l = (l.letters ≡ any_below l.l (letter_choice l.body))
