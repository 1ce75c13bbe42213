-- The number on a row of wires, by their bits; and the flip-flop byte after the edge, case by case. Assumes nothing.
use mathlib.Core.Path.{◌≡◌, refl, ◌∙◌, sym, ap}
use mathlib.Core.List.{List}
use Prim.Native.Nat.{ℕ, zero, suc, ◌+◌, ◌%◌}
use borrow.Author.Tests.{eq-eqb, ne_eqb}
use Rattle.netlist.specs.Rule.{bit_at, number}
use Rattle.slicefile.specs.Lists.{tabulate}
use Rattle.slicefile.proofs.Tabulate.{tabulate_from, tabulate_same}
use Rattle.series7.proofs.Numbers.{low_bits}
use Rattle.evaluation.specs.Numbers.{number_on}
use Rattle.clocknumbers.specs.Numbers.{enable_place, reset_place, flop_place}
use Rattle.clockedge.specs.Moves.{on_edge, edge_values, bit_by, flops_by}

-- the number on k wires from place i
on_from : (wires e : List ℕ) (i k : ℕ) → number_on wires e i k ≡ number (tabulate i k (on_edge wires e))
unfolding number_on tabulate
on_from wires e i zero = refl
on_from wires e i (suc k) = rw (on_from wires e (suc i) k)

pub number_on_lem : (wires e : List ℕ) (i k : ℕ) → number_on wires e i k ≡ number (tabulate 0 k (λ j. on_edge wires e (i + j)))
number_on_lem wires e i k = on_from wires e i k ∙ ap number (tabulate_from i k (on_edge wires e))

module _ (wires e : List ℕ) (old : ℕ) where
  by_bits : (f : ℕ → ℕ) → ((b : ℕ) → bit_by wires e old b ≡ f b) → flops_by wires e old ≡ number (tabulate 0 8 f)
  unfolding flops_by
  by_bits f p = ap number (tabulate_same 8 (bit_by wires e old) f (λ b h. p b))

  pub byte_reset : on_edge wires e reset_place ≡ 1 → flops_by wires e old ≡ edge_values e % 256
  unfolding bit_by
  byte_reset h = by_bits (bit_at (edge_values e)) (λ b. rw (eq-eqb (on_edge wires e reset_place) 1 h)) ∙ low_bits 8 (edge_values e)

  module _ (run : on_edge wires e reset_place ≡ 1 → ⊥) where
    pub byte_taken : on_edge wires e enable_place ≡ 1 → flops_by wires e old ≡ number_on wires e flop_place 8
    unfolding bit_by
    byte_taken h =
        by_bits (λ b. on_edge wires e (flop_place + b)) (λ b. rw (ne_eqb (on_edge wires e reset_place) 1 run, eq-eqb (on_edge wires e enable_place) 1 h))
        ∙ sym (number_on_lem wires e flop_place 8)

    pub byte_kept : (on_edge wires e enable_place ≡ 1 → ⊥) → flops_by wires e old ≡ old % 256
    unfolding bit_by
    byte_kept h =
        by_bits (bit_at old) (λ b. rw (ne_eqb (on_edge wires e reset_place) 1 run, ne_eqb (on_edge wires e enable_place) 1 h)) ∙ low_bits 8 old
