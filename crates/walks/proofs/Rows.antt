-- Whether a change reaches a signal's gate, by the head of its row in the gate table. Assumes nothing.
use mathlib.Core.Path.{◌≡◌, ◌∙◌}
use mathlib.Core.Bool.{Bool, false, ◌||◌, or_assoc, or-false}
use mathlib.Core.List.{List}
use Prim.Native.Nat.{ℕ, suc, ◌+◌, ◌-◌, ◌*◌, ◌≤◌, ◌<◌}
use native.Mathlib.Omega.{arith}
use borrow.Author.Tests.{lt-ltb, le-ltb, eq-eqb, ne_eqb}
use lib.ListN.{get_or}
use Rattle.netlist.specs.Rule.{sources_of, any_source}
use Rattle.netlist.specs.Settle.{is_marked}
use Rattle.netlist.specs.Table.{row_length, select_head, source_of, gate_with, gate_of}
use Rattle.netlist.specs.declared.Source.{Source}
use Rattle.walks.specs.Marked.{source_reached, any_reached, table_marked, gate_reached}
use Rattle.walks.proofs.Reached.{reached_by_sources}

-- one more number, before those that are left
pub any_more : (n : ℕ) (f : Source → Bool) (numbers : List ℕ) (i j k : ℕ) (found : Bool) {now : Bool} → j < k → now ≡ f (source_of n (get_or numbers (i + j) 0))
    → ((found || now) || any_reached n f numbers (i + (j + 1)) (k - (j + 1))) ≡ (found || any_reached n f numbers (i + j) (k - j))
unfolding any_reached
any_more n f numbers i j k found h e =
    let one : k - j ≡ suc (k - (j + 1)) = omega arith in
    let place : suc (i + j) ≡ i + (j + 1) = omega arith in
    rw (one, place, e) (or_assoc found _ _)

module _ (changed edited marks table : List ℕ) (n x : ℕ) where
  abbrev head : ℕ
  head = get_or table (row_length * x) 0

  abbrev reached : Bool
  reached = gate_reached changed edited marks (gate_of table n x)

  -- the same, by the gate's sources and its table
  abbrev tested : Bool
  tested = any_source (source_reached changed marks) (sources_of (gate_of table n x)) || table_marked edited (gate_of table n x)

  so : {b : Bool} → b ≡ tested → b ≡ reached
  so e = e ∙ reached_by_sources changed edited marks (gate_of table n x)

  -- one of the first k sources of the row is reached
  abbrev first : ℕ → Bool
  first k = any_reached n (source_reached changed marks) table (row_length * x + 1) k

  p2 : suc (row_length * x + 1) ≡ row_length * x + 2
  p2 = omega arith

  p3 : suc (row_length * x + 2) ≡ row_length * x + 3
  p3 = omega arith

  pub reached_lut : head < 4 * n → (first 6 || is_marked edited head) ≡ reached
  unfolding sources_of gate_with gate_of any_reached
  reached_lut h =
      let p4 : suc (row_length * x + 3) ≡ row_length * x + 4 = omega arith in
      let p5 : suc (row_length * x + 4) ≡ row_length * x + 5 = omega arith in
      let p6 : suc (row_length * x + 5) ≡ row_length * x + 6 = omega arith in
      so (simp (lt-ltb _ _ h, p2, p3, p4, p5, p6))

  pub reached_zero : 4 * n ≤ head → head < select_head n → is_marked edited (head - 4 * n) ≡ reached
  unfolding sources_of gate_with gate_of
  reached_zero a h = so (simp (le-ltb _ _ a, lt-ltb _ _ h))

  module _ (a : 4 * n ≤ head) (b : select_head n ≤ head) where
    pub reached_select : head ≡ select_head n → first 3 ≡ reached
    unfolding sources_of gate_with gate_of any_reached
    reached_select h = so (simp (le-ltb _ _ a, le-ltb _ _ b, eq-eqb _ _ h, p2, p3, or-false))

    module _ (d : head ≡ select_head n → ⊥) where
      pub reached_xor : head ≡ select_head n + 1 → first 2 ≡ reached
      unfolding sources_of gate_with gate_of any_reached
      reached_xor h = so (simp (le-ltb _ _ a, le-ltb _ _ b, ne_eqb _ _ d, eq-eqb _ _ h, p2, or-false))

      module _ (f : head ≡ select_head n + 1 → ⊥) where
        pub reached_same : head ≡ select_head n + 2 → source_reached changed marks (source_of n (get_or table (row_length * x + 1) 0)) ≡ reached
        unfolding sources_of gate_with gate_of
        reached_same h = so (simp (le-ltb _ _ a, le-ltb _ _ b, ne_eqb _ _ d, ne_eqb _ _ f, eq-eqb _ _ h, or-false))

        pub reached_stored : (head ≡ select_head n + 2 → ⊥) → false ≡ reached
        unfolding sources_of gate_with gate_of
        reached_stored h = so (simp (le-ltb _ _ a, le-ltb _ _ b, ne_eqb _ _ d, ne_eqb _ _ f, ne_eqb _ _ h))
