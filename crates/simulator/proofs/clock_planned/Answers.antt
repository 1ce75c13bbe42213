-- `simulator::clock_planned` meets its contract. Assumes nothing.
use mathlib.Core.Path.{◌≡◌, ◌∙◌, refl, sym}
use borrow.Author.Rules.{rules}
use Rattle.std.specs.Prelude.{Ok}
use Rattle.buffers.proofs.Passed.{settle_passed}
use Rattle.std.proofs.lemmas.Result.{err_from_is_err_and}
use Rattle.calls.specs.Calls.{turned_down, carried_out}
use Rattle.calls.proofs.Calls.{told}
use Rattle.simulator.proofs.clock_planned.Goals as goal

pub returns-in_err-map_err : goal.returns-in_err-map_err
returns-in_err-map_err c =
    let t = told c.settle_refusal-tested.result c.map_err.result c.map_err.ensures.cases (λ r d p. search rules) c.in_err-map_err.was in
    let p = err_from_is_err_and c.from_residual.result c.from_residual.ensures.1 in
    rw (p.1, p.2, t.2) (turned_down (sym (rw c.edges.ensures at c.settle_refusal-tested.ensures) ∙ t.1) (refl, refl))

pub clock_by-requires : goal.clock_by-requires
clock_by-requires c =
    let e = rw c.edges.ensures at c.settle_refusal-tested.ensures in
    let none : c.settle_refusal-tested.result ≡ Ok tt = search rules in
    let p = settle_passed _ _ _ _ _ _ (sym e ∙ none) in
    let l = p.0 in
    record {
      inputs_len = (l.inputs, c.requires.0);
      contents_len = (l.contents, l.flops, l.values);
      bits = (p.1, c.requires.1);
    }

pub returns : goal.returns
returns c =
    let e = rw c.edges.ensures at c.settle_refusal-tested.ensures in
    let none : c.settle_refusal-tested.result ≡ Ok tt = search rules in
    carried_out (sym e ∙ none) (c.clock_by.ensures.moves, c.clock_by.ensures.settled)
