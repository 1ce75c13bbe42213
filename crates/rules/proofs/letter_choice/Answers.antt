-- `rules::letter_choice` meets its contract: the code is the definition. Assumes nothing.
use mathlib.Core.Path.{refl}
use Rattle.rules.specs.Rules.{letter_choice}
use Rattle.rules.proofs.letter_choice.Goals as goal

pub returns : goal.returns
unfolding letter_choice
returns c = refl
