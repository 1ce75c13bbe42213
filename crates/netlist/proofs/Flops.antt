-- The flip-flops' signals, which read nothing: where they stand first in an order, a walk may take them all at once. Assumes nothing.
use mathlib.Core.Path.{◌≡◌, refl, sym, ◌∙◌, ap, subst}
use mathlib.Core.Bool.{Bool, false, true≢false}
use mathlib.Core.List.Memᴰ
use mathlib.Core.List.{List}
use mathlib.Core.Logic.{⊎_elim}
use Prim.Native.Nat.{ℕ, ◌+◌, ◌*◌, ◌-◌, ◌/◌, ◌%◌, ◌≤◌, ◌<◌}
use native.Mathlib.Decide.{dec_lt}
use native.Mathlib.Omega.{arith}
use borrow.Author.Tests.{le-ltb, ne_eqb}
use lib.ListN.{get_or}
use Rattle.netlist.specs.declared.Gate.{Gate}
use Rattle.netlist.specs.declared.Gate.TheVariants.{Stored}
use Rattle.netlist.specs.Rule.{Env, bit_at, apply_gate, rule_of, sources_of, signals_in, reads_of}
use Rattle.netlist.specs.Graph.{Reads, Ordered, Affected}
use Rattle.netlist.specs.Settle.{reads_in, is_marked}
use Rattle.netlist.specs.Invariant.{SettledTo, EditedTo}
use Rattle.netlist.specs.Table.{slice_signals, signal_count, first_flop, select_head, stored_head, gate_with, gate_of, flop_signal, FlopRows, FlopsFirst}
use Rattle.netlist.proofs.Editing.{affected_cases}
use Rattle.netlist.proofs.Order.{distinct}

module _ (table : List ℕ) (n : ℕ) (rows : FlopRows n table) where
  -- the gate of a flip-flop's signal
  pub flop_gate : (q : ℕ) → q < 8 * n → gate_of table n (flop_signal q) ≡ Stored q
  unfolding gate_of gate_with
  flop_gate q h =
      let k = stored_head n + q in
      let e : k - stored_head n ≡ q = omega arith in
      rw (rows q h, le-ltb k (4 * n) (omega arith), le-ltb k (select_head n) (omega arith), ne_eqb k (select_head n) (λ z. omega arith), ne_eqb k (select_head n + 1) (λ z. omega arith), ne_eqb k (select_head n + 2) (λ z. omega arith), e)

  -- it reads nothing
  pub flop_reads : (q y : ℕ) → q < 8 * n → Reads (reads_in (gate_of table n)) (flop_signal q) y → ⊥
  unfolding reads_of sources_of signals_in
  flop_reads q y h r = Memᴰ.not-nil (subst (λ (gate : Gate). Reads (λ z. reads_of gate) 0 y) (flop_gate q h) r)

  module _ (order : List ℕ) (first : FlopsFirst n order) where
    -- a value table that has the stored bits is settled as far as the flip-flops go
    pub settle_flops :
        (e : Env) (values : List ℕ) → ((q : ℕ) → q < 8 * n → get_or values (flop_signal q) 0 ≡ bit_at (get_or e.flops (q / 8) 0) (q % 8))
        → SettledTo (gate_of table n) e order (8 * n) values
    unfolding rule_of apply_gate
    settle_flops e values bits q h = rw (first q h, flop_gate q h) (bits q h)

    -- no change of inputs or contents reaches a flip-flop
    flop_kept : (f : Gate → Bool) → ((k : ℕ) → f (Stored k) ≡ false) → (q : ℕ) → q < 8 * n
        → Affected (reads_in (gate_of table n)) (λ x. f (gate_of table n x)) (get_or order q 0) → ⊥
    flop_kept f none q h a =
        ⊎_elim (λ t. true≢false (sym t ∙ ap f (flop_gate q h) ∙ none q)) (λ w. flop_reads q w.0 h w.1)
        (affected_cases (reads_in (gate_of table n)) (λ x. f (gate_of table n x)) (subst (Affected (reads_in (gate_of table n)) (λ x. f (gate_of table n x))) (first q h) a))

    -- so a walk that edits may begin behind them, with no mark set
    pub edit_flops :
        (e : Env) (f : Gate → Bool) → ((k : ℕ) → f (Stored k) ≡ false) → (marks old : List ℕ) → ((x : ℕ) → is_marked marks x ≡ false)
        → EditedTo (gate_of table n) e (λ x. f (gate_of table n x)) order old (8 * n) marks old
    edit_flops e f none marks old clear =
        record {
          sound = λ q h m. absurd (true≢false (sym m ∙ clear (get_or order q 0)));
          complete = λ q h a. absurd (flop_kept f none q h a);
          recomputed = λ q h a. absurd (flop_kept f none q h a);
          kept = λ x d. refl;
        }

-- behind them the order has none
pub behind_flops :
    {reads : ℕ → List ℕ} (n : ℕ) {order : List ℕ} → Ordered reads (signal_count n) order → FlopsFirst n order
    → (i : ℕ) → 8 * n ≤ i → i < signal_count n → get_or order i 0 % slice_signals < first_flop
behind_flops n {order} o first i low h = by (dec_lt (get_or order i 0 % slice_signals) first_flop)
  where
    by : Dec (get_or order i 0 % slice_signals < first_flop) → get_or order i 0 % slice_signals < first_flop
    by (yes l) = l
    by (no l) =
        let x = get_or order i 0 in
        let below : x < signal_count n = (o.each i h).below in
        let q = 8 * (x / slice_signals) + (x % slice_signals - first_flop) in
        let e : flop_signal q ≡ x = omega arith in
        absurd (distinct o q i (omega arith) h (first q (omega arith) ∙ e))
