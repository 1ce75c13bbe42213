-- `rules::letter_combination` meets its contract: the code is the definition, with the word that `contents_word` gives. Assumes nothing.
use Rattle.rules.specs.Rules.{letter_combination}
use Rattle.rules.proofs.letter_combination.Goals as goal

pub returns : goal.returns
unfolding letter_combination
returns c = rw c.contents_word-word.ensures
