-- `stream::hear` meets its contract. Assumes nothing.
use mathlib.Core.Path.{◌∙◌, refl, sym, ap}
use Rattle.stream.specs.Feeding.{early}
use Rattle.stream.proofs.Hearing.{some_said, none_said, hears_verdict, hears_more}
use Rattle.stream.proofs.hear.Goals as goal

pub returns-then-is_some : goal.returns-then-is_some
returns-then-is_some c =
    let given = some_said _ (sym c.is_some.ensures ∙ c.if-is_some.true) in
    hears_verdict _ _ _ refl (c.early_reply-said.ensures ∙ ap early c.check_from-progress.ensures.0) given.1

pub returns : goal.returns
returns c =
    let none = none_said _ (sym c.is_some.ensures ∙ c.if-is_some.false) in
    hears_more _ _ _ refl (c.early_reply-said.ensures ∙ ap early c.check_from-progress.ensures.0) none c.check_from-progress.ensures.1
