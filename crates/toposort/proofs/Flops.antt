-- The signals of the flip-flops are listed one by one. Assumes nothing.
use Prim.Native.Nat.{ℕ, ◌+◌, ◌<◌}
use mathlib.Core.Path.{◌≡◌, sym, ap, ◌∙◌}
use mathlib.Core.Logic.{inl, inr, ⊎_elim}
use mathlib.Core.List.{List}
use native.Mathlib.Omega.{arith}
use lib.ListN.{length, get_or, set}
use Rattle.netlist.specs.Table.{flop_signal}
use Rattle.toposort.specs.Tally.{done_mark}
use Rattle.toposort.specs.Components.{Unseen, FlopsListed}
use Rattle.toposort.proofs.Tally.{same_or_not, stored, tally_add, tally_none}

pub none_listed : (marks order : List ℕ) → Unseen marks → FlopsListed 0 marks order
none_listed marks order unseen =
    record {
      first = λ i l. absurd (omega arith);
      done = λ i l. absurd (omega arith);
      others = λ x. inl (unseen x);
      counted = sym (tally_none done_mark marks (λ i e. omega (arith, unseen i)));
    }

pub one_more_listed : {q : ℕ} {marks order : List ℕ} → flop_signal q < length marks → q < length order → FlopsListed q marks order
    → FlopsListed (q + 1) (set marks (flop_signal q) done_mark) (set order q (flop_signal q))
one_more_listed {q} {marks} {order} below room f =
    record {
      first = λ i l. stored order q x i room (λ p e. e ∙ ap flop_signal (sym p)) (λ p e. rw e (f.first i (omega arith)));
      done = λ i l. stored marks x done_mark (flop_signal i) below (λ p e. e) (λ p e. rw e (f.done i (again i l p)));
      others = λ y. stored marks x done_mark y below
          (λ p e. inr (q, omega arith, p))
          (λ p e. ⊎_elim (λ z. inl (rw e z)) (λ w. inr (w.0, omega (arith, w.1), w.2)) (f.others y));
      counted = omega (arith, f.counted, tally_add done_mark marks x below new);
    }
  where
    x : ℕ
    x = flop_signal q

    again : (i : ℕ) → i < q + 1 → (flop_signal i ≡ x → ⊥) → i < q
    again i l d = same_or_not i q (λ e. absurd (d (ap flop_signal e))) (λ e. omega arith)

    -- no other flip-flop has its signal
    new : get_or marks x 0 ≡ done_mark → ⊥
    new e = ⊎_elim (λ z. omega arith) (λ w. omega (arith, w.1, w.2)) (f.others x)
