-- `stream::feed` meets its contract. Assumes nothing.
use mathlib.Core.Path.{◌∙◌, refl, sym}
use Rattle.stream.proofs.Hearing.{some_said, none_said}
use Rattle.stream.proofs.Calls.{feeds_wrong, feeds_again, feeds_strange, feeds_run}
use Rattle.stream.proofs.feed.Goals as goal

pub returns-then-store-ne-FILE_LIMIT : goal.returns-then-store-ne-FILE_LIMIT
returns-then-store-ne-FILE_LIMIT c = feeds_wrong c.if-store-ne-FILE_LIMIT.true record { says = c.kept.ensures.0; same = c.kept.ensures.1; untouched = refl }

pub returns-then-is_some : goal.returns-then-is_some
returns-then-is_some c =
    let given = some_said _ (sym c.is_some.ensures ∙ c.if-is_some.true) in
    feeds_again c.if-store-ne-FILE_LIMIT.false given.1 record { says = given.1; same = refl; untouched = refl }

pub returns-then-reader : goal.returns-then-reader
returns-then-reader c =
    let none = none_said _ (sym c.is_some.ensures ∙ c.if-is_some.false) in
    feeds_strange c.if-store-ne-FILE_LIMIT.false none c.if-reader.true
    record { says = c.kept-then-reader.ensures.0; same = c.kept-then-reader.ensures.1; untouched = refl }

pub returns : goal.returns
returns c =
    let none = none_said _ (sym c.is_some.ensures ∙ c.if-is_some.false) in
    feeds_run c.if-store-ne-FILE_LIMIT.false none c.if-reader.false record { says = refl; takes = c.take-next.ensures }
