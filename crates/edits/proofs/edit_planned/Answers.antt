-- `edits::edit_planned` meets its contract: the marks say what the changes of the list touch. Assumes nothing.
use Rattle.std.proofs.Common.{◌≡◌, ◌∙◌, ◌*◌, Bool, ◌||◌, Ok, refl, sym, arith, rules, ap}
use mathlib.Core.Bool.{false, or-false}
use Rattle.std.proofs.lemmas.Result.{err_from_is_err_and}
use Rattle.slicefile.specs.Format.{slice_limit, input_limit}
use Rattle.walks.proofs.Reached.{marks_none}
use Rattle.buffers.proofs.Passed.{edit_passed}
use Rattle.calls.specs.Calls.{turned_down, carried_out}
use Rattle.calls.proofs.Calls.{told}
use Rattle.edits.specs.Edits.{changes_of}
use Rattle.edits.proofs.Storing.{list_there, stored_bits}
use Rattle.edits.proofs.Marks.{edited_plan}
use Rattle.edits.proofs.edit_planned.Goals as goal

-- what began with no mark
marked_alone : (touched any before : Bool) → touched ≡ (any || before) → before ≡ false → touched ≡ any
marked_alone touched any before e none = e ∙ ap (λ (m : Bool). any || m) none ∙ or-false any

pub returns-in_err-map_err : goal.returns-in_err-map_err
returns-in_err-map_err c =
    let h = told c.edit_refusal-tested.result c.map_err.result c.map_err.ensures.cases (λ r d p. search rules) c.in_err-map_err.was in
    let p = err_from_is_err_and c.from_residual.result c.from_residual.ensures.1 in
    let e = rw c.edges.ensures at (rw c.bad_edits-bad.ensures at c.edit_refusal-tested.ensures) in
    rw (p.1, p.2, h.2) (turned_down (sym e ∙ h.1) (refl, refl))

pub store_edits-requires : goal.store_edits-requires
store_edits-requires c =
    let none : c.edit_refusal-tested.result ≡ Ok tt = search rules in
    let p = edit_passed _ _ _ _ _ _ _ (sym c.edit_refusal-tested.ensures ∙ none) in
    record {
      all_storable = rw (p.0.contents, p.0.inputs) (list_there _ c.args.plan.now.n c.args.plan.now.m _ (sym c.bad_edits-bad.ensures ∙ p.3));
      marks = (omega (arith, p.0.inputs, c.args.plan.now.runnable.narrow), omega (arith, p.0.contents, c.args.plan.now.runnable.few));
    }

pub edit_by-requires : goal.edit_by-requires
edit_by-requires c =
    let none : c.edit_refusal-tested.result ≡ Ok tt = search rules in
    let p = edit_passed _ _ _ _ _ _ _ (sym c.edit_refusal-tested.ensures ∙ none) in
    let long = c.store_edits.auto.inputs ∙ p.0.inputs in
    let there = list_there _ c.args.plan.now.n c.args.plan.now.m _ (sym c.bad_edits-bad.ensures ∙ p.3) in
    let w = c.walk.ensures in
    rw (w.gates.1, w.order.1) (record {
      inputs_len = (long, p.0.values);
      m_bound = (c.args.plan.now.runnable.narrow, search rules, stored_bits _ _ there c.store_edits.ensures p.1, p.2);
    })

pub returns : goal.returns
returns c =
    let a = c.args in
    let none : c.edit_refusal-tested.result ≡ Ok tt = search rules in
    let e = rw c.edges.ensures at (rw c.bad_edits-bad.ensures at c.edit_refusal-tested.ensures) in
    let stored = c.store_edits.ensures in
    carried_out (sym e ∙ none) (
      stored.made a.flops.now,
      edited_plan a.plan.now.numbers.now a.plan.now.n _ _ (changes_of a.edits.now) c.walk.ensures.gates.0
          (λ gate. marked_alone _ _ _ (stored.marked gate) (marks_none input_limit (4 * slice_limit) gate))
          (rw c.walk.ensures.gates.1 at c.edit_by.ensures) a.flops.now,
    )
