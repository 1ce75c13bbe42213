-- `stream::stays_inside` meets its contract. Assumes nothing.
use mathlib.Core.Path.{◌∙◌, sym}
use mathlib.Core.Bool.{true≢false}
use native.Mathlib.Omega.{arith}
use borrow.Author.Tests.{ltb-true}
use Rattle.column.proofs.Places.{start_at}
use Rattle.column.proofs.CheckLaws.{tail_whole}
use Rattle.stream.proofs.Hearing.{none_given, inside_stays}
use Rattle.stream.proofs.stays_inside.Goals.{then-more-left, else-more-left, then-is_ok, else-is_ok}
use Rattle.stream.proofs.stays_inside.Goals as goal

pub returns-in-Err-Cut : goal.returns-in-Err-Cut
returns-in-Err-Cut c e =
    let a = c.args in
    let here = start_at a.bytes.now a.passed in
    let cut = rw (tail_whole, c.in-Err-Cut.field-0-is) at c.in-Err-Cut.ensures in
    elim c.if-is_ok.branch [
      | then-is_ok some ↦ elim c.if-more-left.branch [
        | then-more-left inside ↦
            let begins = sym inside.size_refusal.ensures ∙ none_given _ (sym inside.is_ok.ensures.value ∙ sym inside.value-is ∙ some.if-is_ok.true) in
            let next = ltb-true _ _ (sym some.value-is ∙ c.if-passed-from.true) in
            inside_stays a.bytes.now a.passed a.more begins (omega (arith, next, some.from.ensures)) (omega (arith, here, inside.if-more-left.true))
            (omega (arith, here, inside.if-more-left.true, c.saturating_sub-left.ensures)) (rw here (sym cut))
        | else-more-left w ↦ grind arith
      ]
      | else-is_ok w ↦ absurd (true≢false (sym c.if-passed-from.true ∙ w.value-is ∙ w.if-is_ok.false))
    ]
