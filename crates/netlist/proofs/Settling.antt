-- Settling along a topological order, and that a settled table is the only one. Assumes nothing.
use mathlib.Core.Path.{◌≡◌, refl, sym, ◌∙◌, subst}
use mathlib.Core.List.{List}
use Prim.Native.Nat.{ℕ, ◌+◌, ◌≤◌, ◌<◌}
use native.Mathlib.Nat.{not-suc-le-zero}
use native.Mathlib.Omega.{arith}
use borrow.Author.Count.{below_more}
use lib.ListN.{length, get_or, set, length-set}
use lib.Seq.{get_or-set_same, get_or-set_other, ext_get_or}
use Rattle.netlist.specs.declared.Gate.{Gate}
use Rattle.netlist.specs.Rule.{Env}
use Rattle.netlist.specs.Graph.{Ordered}
use Rattle.netlist.specs.Settle.{reads_in, rule_in, Settled, settle_step, settle_by}
use Rattle.netlist.specs.Invariant.{SettledTo}
use Rattle.netlist.proofs.Locality.{rule_local}
use Rattle.netlist.proofs.Order.{reads_before, distinct, placed, order_induct}
use Rattle.netlist.proofs.Walk.{walk_induct}

module _ (g : ℕ → Gate) {N : ℕ} {order : List ℕ} (o : Ordered (reads_in g) N order) (e : Env) where
  -- storing at a signal leaves the rules of it and of all before it as they were
  pub rule_kept :
      (i j : ℕ) → i < N → j ≤ i → (t : List ℕ) (v : ℕ)
      → rule_in g e (set t (get_or order i 0) v) (get_or order j 0) ≡ rule_in g e t (get_or order j 0)
  rule_kept i j h l t v =
      rule_local e (set t (get_or order i 0) v) t (g (get_or order j 0))
      (λ y r.
      let b = reads_before o j (omega arith) refl r in
      get_or-set_other t (get_or order i 0) y v 0 (λ q. distinct o b.0 i (omega arith) h (b.2 ∙ q)))

  pub settle_none : (t : List ℕ) → SettledTo g e order 0 t
  settle_none t j h = absurd (not-suc-le-zero h)

  -- one signal more
  pub settle_next :
      (i : ℕ) → i < N → (t : List ℕ) → N ≤ length t → SettledTo g e order i t
      → SettledTo g e order (i + 1) (settle_step g e t (get_or order i 0))
  settle_next i h t long inv =
      below_more _ i
      (λ j l.
      get_or-set_other t (get_or order i 0) (get_or order j 0) v 0 (distinct o j i l h)
      ∙ inv j l
      ∙ sym (rule_kept i j h (omega arith) t v))
      (get_or-set_same t (get_or order i 0) v 0 (omega (arith, (o.each i h).below)) ∙ sym (rule_kept i i h (omega arith) t v))
    where
      v : ℕ
      v = rule_in g e t (get_or order i 0)

  -- all of them
  pub settle_all : (i : ℕ) → N ≤ i → (t : List ℕ) → length t ≡ N → SettledTo g e order i t → Settled g N e t
  settle_all i end t long inv =
      record {
        size = long;
        each =
            λ x h.
            let p = placed o x h in
            subst (λ (w : ℕ). get_or t w 0 ≡ rule_in g e t w) p.2 (inv p.0 (omega arith));
      }

  -- folding along the order settles any table
  pub settle_by_order : (t : List ℕ) → length t ≡ N → Settled g N e (settle_by g e t order)
  settle_by_order t long =
      let w =
      walk_induct (settle_step g e) (λ i s. SettledTo g e order i s × (length s ≡ N)) order t (settle_none t, long)
      (λ i h s p. (settle_next i (rw (← o.size) h) s (omega arith) p.0, length-set s _ _ ∙ p.1)) in
      settle_all (length order) (omega (arith, o.size)) (settle_by g e t order) w.1 w.0

  -- two tables that are settled for the same environment are the same
  pub settled_unique : (t t' : List ℕ) → Settled g N e t → Settled g N e t' → t ≡ t'
  settled_unique t t' s s' =
      ext_get_or 0 t t' (s.size ∙ sym s'.size)
      (λ x h.
      order_induct o (λ y. get_or t y 0 ≡ get_or t' y 0) (λ y l same. s.each y l ∙ rule_local e t t' (g y) same ∙ sym (s'.each y l)) x
      (rw (← s.size) h))
