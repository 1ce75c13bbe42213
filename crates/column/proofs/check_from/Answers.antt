-- `column::check_from` meets its contract, by the loop's invariant. Assumes nothing.
use mathlib.Core.Path.{◌∙◌, sym, subst}
use native.Mathlib.Omega.{arith}
use borrow.Author.Rules.{rules}
use Rattle.std.proofs.Math.Nat.{max-le, le-max_left, le-max_right}
use Rattle.framing.proofs.RecordLaws.{size_whole}
use Rattle.column.proofs.Places.{start_at}
use Rattle.column.proofs.CheckLaws.{tail_whole, Stands, size_bad, taken_up, cut_off, slice_bad, slice_good, slices_end}
use Rattle.column.proofs.check_from.Goals as goal

pub returns-in-Err : goal.returns-in-Err
returns-in-Err c =
    let b = size_bad _ _ c.in-Err.ensures in
    (c.stopped.ensures.0 ∙ b.0, c.stopped.ensures.1 ∙ b.1)

pub bounds-file-3 : goal.bounds-file-3
bounds-file-3 c = omega (arith, size_whole _ (sym c.in_default.ensures))

pub bounds-file-4 : goal.bounds-file-4
bounds-file-4 c = omega (arith, size_whole _ (sym c.in_default.ensures))

pub returns-then-file-at : goal.returns-then-file-at
returns-then-file-at c =
    let a = c.args in
    let here = start_at a.file.now a.passed in
    let b = cut_off a.file.now (sym c.in_default.ensures) a.passed (rw here c.if-file-at.true) in
    (c.stopped-then-file-at.ensures.0 ∙ rw (← here) b.0, c.stopped-then-file-at.ensures.1 ∙ b.1)

pub loop-s-init : goal.loop-s-init
loop-s-init c =
    let a = c.args in
    let here = start_at a.file.now a.passed in (
      omega (arith, c.type_inv.file 3),
      le-max_left a.passed c.from-n.result,
      subst (Stands a.file.now a.passed a.passed) here (taken_up a.file.now (sym c.in_default.ensures) a.passed (rw here c.if-file-at.false)),
    )

pub returns-in-Err-slice_refusal : goal.returns-in-Err-slice_refusal
returns-in-Err-slice_refusal c =
    let b = slice_bad _ c.loop-s.invariant.2 (search rules) (rw (c.from-n.ensures, c.from-m.ensures, tail_whole) at c.in-Err-slice_refusal.ensures) in
    (c.stopped-in-Err-slice_refusal.ensures.0 ∙ b.0, c.stopped-in-Err-slice_refusal.ensures.1 ∙ b.1)

pub loop-s-preserved : goal.loop-s-preserved
loop-s-preserved c = (
  c.loop-s.invariant.0,
  omega (arith, c.loop-s-test.true, le-max_right c.args.passed c.from-n.result),
  slice_good _ c.loop-s.invariant.2 (search rules) (rw (c.from-n.ensures, c.from-m.ensures, tail_whole) at c.in_default-slice_refusal.ensures),
)

pub check_end-requires : goal.check_end-requires
check_end-requires c =
    let at = c.loop-s in
    omega (arith, at.invariant.0, at.invariant.1, max-le {a = c.args.passed} {b = c.from-n.result} {k = 256} (omega arith) (omega arith), at.invariant.2.place, start_at c.args.file.now at.s)

pub returns : goal.returns
returns c =
    let at = c.loop-s in
    let b = slices_end _ at.invariant.2 (search rules) in (
      rw (c.from-n.ensures, c.from-m.ensures, tail_whole) at c.check_end.ensures ∙ b.0,
      omega (arith, c.max.ensures, at.invariant.1, max-le at.auto.s c.loop-s-test.false, b.1),
    )
