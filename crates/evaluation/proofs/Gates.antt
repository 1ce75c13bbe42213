-- What a signal's gate gives by the wires, by the head of its row in the gate table. Assumes nothing.
use mathlib.Core.Path.{◌≡◌}
use mathlib.Core.List.{List}
use Prim.Native.Nat.{ℕ, suc, ◌+◌, ◌*◌, ◌%◌, ◌≤◌, ◌<◌}
use native.Mathlib.Omega.{arith}
use borrow.Author.Tests.{lt-ltb, le-ltb, eq-eqb, ne_eqb}
use lib.ListN.{get_or}
use Rattle.netlist.specs.Rule.{bit_at, choose, apply_gate}
use Rattle.netlist.specs.Table.{row_length, select_head, stored_head, gate_with, gate_of}
use Rattle.netlist.specs.Wires.{on_wire}
use Rattle.netlist.proofs.Wires.{code_back}
use Rattle.evaluation.specs.Numbers.{number_on}

module _ (contents flops wires table : List ℕ) (n x : ℕ) where
  abbrev head : ℕ
  head = get_or table (row_length * x) 0

  -- the bit on source i of the row
  abbrev on : ℕ → ℕ
  on i = get_or wires (get_or table (row_length * x + i) 0) 0

  abbrev rule : ℕ
  rule = apply_gate contents flops (on_wire n wires) (gate_of table n x)

  -- the six sources of a look-up table as a row of wires
  pub rule_lut : head < 4 * n → rule ≡ bit_at (get_or contents head 0) (number_on wires table (row_length * x + 1) 6)
  unfolding apply_gate gate_with gate_of number_on
  rule_lut h =
      let p2 : suc (row_length * x + 1) ≡ row_length * x + 2 = omega arith in
      let p3 : suc (row_length * x + 2) ≡ row_length * x + 3 = omega arith in
      let p4 : suc (row_length * x + 3) ≡ row_length * x + 4 = omega arith in
      let p5 : suc (row_length * x + 4) ≡ row_length * x + 5 = omega arith in
      let p6 : suc (row_length * x + 5) ≡ row_length * x + 6 = omega arith in
      simp (lt-ltb _ _ h, code_back, p2, p3, p4, p5, p6)

  pub rule_zero : 4 * n ≤ head → head < select_head n → rule ≡ 0
  unfolding apply_gate gate_with gate_of
  rule_zero a h = simp (le-ltb _ _ a, lt-ltb _ _ h)

  module _ (a : 4 * n ≤ head) (b : select_head n ≤ head) where
    pub rule_select : head ≡ select_head n → rule ≡ choose (on 1) (on 2) (on 3)
    unfolding apply_gate gate_with gate_of
    rule_select h = simp (le-ltb _ _ a, le-ltb _ _ b, eq-eqb _ _ h, code_back)

    module _ (d : head ≡ select_head n → ⊥) where
      pub rule_xor : head ≡ select_head n + 1 → rule ≡ (on 1 + on 2) % 2
      unfolding apply_gate gate_with gate_of
      rule_xor h = simp (le-ltb _ _ a, le-ltb _ _ b, ne_eqb _ _ d, eq-eqb _ _ h, code_back)

      pub rule_same : (head ≡ select_head n + 1 → ⊥) → head < stored_head n → rule ≡ on 1
      unfolding apply_gate gate_with gate_of
      rule_same g h =
          let e : head ≡ select_head n + 2 = omega arith in
          simp (le-ltb _ _ a, le-ltb _ _ b, ne_eqb _ _ d, ne_eqb _ _ g, eq-eqb _ _ e, code_back)
