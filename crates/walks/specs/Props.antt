-- That a table can be walked along an order is a proposition, as a fact kept beside the two has to be.
use Rattle.std.specs.Prelude.{ℕ, ◌≡◌, ◌<◌, List, get_or}
use mathlib.Core.Path.{◌∙◌, sym}
use mathlib.Core.HLevel.{¬_prop, is_prop→PathP}
use native.Mathlib.Decide.{dec_lt}
use native.Mathlib.Nat.{ℕ_set}
use native.Mathlib.Bridge.{le_prop}
use native.Mathlib.Omega.{arith}
use Rattle.netlist.specs.Graph.{Before, InOrder, Ordered}
use Rattle.walks.specs.Walks.{Walkable}

module _ {reads : ℕ → List ℕ} {N : ℕ} {order : List ℕ} (ordered : Ordered reads N order) where
  -- a signal stands at one place only
  one_place : (j k y : ℕ) → j < N → k < N → get_or order j 0 ≡ y → get_or order k 0 ≡ y → j ≡ k
  one_place j k y below_j below_k e d = by (dec_lt j k) (dec_lt k j)
    where
      by : Dec (j < k) → Dec (k < j) → j ≡ k
      by (yes l) _ = absurd ((ordered.each k below_k).first (j, l, e ∙ sym d))
      by (no _) (yes l) = absurd ((ordered.each j below_j).first (k, l, d ∙ sym e))
      by (no g) (no h) = omega arith

  before_one : (i y : ℕ) → i < N → IsProp (Before order i y)
  before_one i y below p q =
      let e = one_place p.0 q.0 y (omega (arith, p.1)) (omega (arith, q.1)) p.2 q.2 in
      λ l. (e l, is_prop→PathP (λ h. e h < i) (λ h. le_prop) p.1 q.1 l, is_prop→PathP (λ h. get_or order (e h) 0 ≡ y) (λ h. ℕ_set _ _) p.2 q.2 l)

  in_order_one : (i : ℕ) → i < N → IsProp (InOrder reads N order i)
  in_order_one i below a b = λ l. record {
    below = le_prop a.below b.below l;
    first = ¬_prop a.first b.first l;
    after = λ y r. before_one i y below (a.after y r) (b.after y r) l;
  }

pub Ordered-prop : (reads : ℕ → List ℕ) (N : ℕ) (order : List ℕ) → IsProp (Ordered reads N order)
Ordered-prop reads N order a b = λ l. record {
  size = ℕ_set _ _ a.size b.size l;
  each = λ i h. in_order_one a i h (a.each i h) (b.each i h) l;
}

pub Walkable-prop : (n m : ℕ) (table order : List ℕ) → IsProp (Walkable n m table order)
Walkable-prop n m table order = hlevel (Ordered-prop, le_prop, ℕ_set)
