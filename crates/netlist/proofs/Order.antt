-- Topological orders and loops. Assumes nothing.
use mathlib.Core.Path.{◌≡◌, refl, sym, ◌∙◌, subst}
use mathlib.Core.List.{List, ◌∷◌}
use mathlib.Core.Logic.{⊎_elim}
use Prim.Native.Nat.{ℕ, zero, suc, ◌≤◌, ◌<◌}
use native.Mathlib.Nat.{not-suc-le-zero, le_of_suc-le-suc}
use native.Mathlib.Decide.{ℕ_discrete}
use native.Mathlib.Omega.{arith}
use lib.ListN.{get_or}
use Rattle.netlist.specs.Graph.{Reads, Depends, LoopFree, Before, Ordered}
use Rattle.netlist.specs.Graph.Depends.{direct, through}
use Rattle.netlist.proofs.Pigeonhole.{search_below, Collision, pigeonhole}

-- chains joined
pub depends_more : {reads : ℕ → List ℕ} {x y z : ℕ} → Depends reads x y → Reads reads y z → Depends reads x z
depends_more (direct r) s = through r (direct s)
depends_more (through r d) s = through r (depends_more d s)

pub depends_trans : {reads : ℕ → List ℕ} {x y z : ℕ} → Depends reads x y → Depends reads y z → Depends reads x z
depends_trans (direct r) e = through r e
depends_trans (through r d) e = through r (depends_trans d e)

module _ {reads : ℕ → List ℕ} {N : ℕ} {order : List ℕ} (o : Ordered reads N order) where
  -- what a placed signal reads stands before it
  pub reads_before : (i : ℕ) → i < N → {x y : ℕ} → get_or order i 0 ≡ x → Reads reads x y → Before order i y
  reads_before i h {x} {y} e r = (o.each i h).after y (subst (λ (w : ℕ). Reads reads w y) (sym e) r)

  -- and so does all that it depends on
  pub depends_before : {x z : ℕ} → Depends reads x z → (i : ℕ) → i < N → get_or order i 0 ≡ x → Before order i z
  depends_before (direct r) i h e = reads_before i h e r
  depends_before (through r d) i h e =
      let b = reads_before i h e r in
      let c = depends_before d b.0 (omega arith) b.2 in
      (c.0, omega arith, c.2)

  -- each place holds another signal
  pub distinct : (i j : ℕ) → i < j → j < N → get_or order i 0 ≡ get_or order j 0 → ⊥
  distinct i j l h e = (o.each j h).first (i, l, e)

  -- each signal below N has a place
  pub placed : (x : ℕ) → x < N → Before order N x
  placed x h =
      ⊎_elim (λ w. w) (λ none. absurd (clash none (pigeonhole N (λ i. get_or (x ∷ order) i 0) small)))
      (search_below (λ i. ℕ_discrete (get_or order i 0) x) N)
    where
      small : (i : ℕ) → i < suc N → get_or (x ∷ order) i 0 < N
      small zero l = h
      small (suc i) l = (o.each i (le_of_suc-le-suc l)).below

      clash' :
          ((i : ℕ) → i < N → get_or order i 0 ≡ x → ⊥)
          → (i j : ℕ) → i < j → j < suc N → get_or (x ∷ order) i 0 ≡ get_or (x ∷ order) j 0 → ⊥
      clash' none zero zero l b e = not-suc-le-zero l
      clash' none zero (suc j) l b e = none j (le_of_suc-le-suc b) (sym e)
      clash' none (suc i) zero l b e = not-suc-le-zero l
      clash' none (suc i) (suc j) l b e = distinct i j (le_of_suc-le-suc l) (le_of_suc-le-suc b) e

      clash : ((i : ℕ) → i < N → get_or order i 0 ≡ x → ⊥) → Collision (λ i. get_or (x ∷ order) i 0) (suc N) → ⊥
      clash none c = clash' none c.0 c.1 c.2 c.3 c.4

  -- a net that has a topological order has no loop
  pub loop_free : LoopFree reads N
  loop_free x h l =
      let p = placed x h in
      let b = depends_before l p.0 p.1 p.2 in
      distinct b.0 p.0 b.1 p.1 (b.2 ∙ sym p.2)

  -- an ordered net is well_formed
  pub reads_below : (x : ℕ) → x < N → {y : ℕ} → Reads reads x y → y < N
  reads_below x h r =
      let p = placed x h in
      let b = reads_before p.0 p.1 p.2 r in
      subst (λ (w : ℕ). w < N) b.2 (o.each b.0 (omega arith)).below

  -- induction along the reads
  pub order_induct : (P : ℕ → Type 0) → ((x : ℕ) → x < N → ((y : ℕ) → Reads reads x y → P y) → P x) → (x : ℕ) → x < N → P x
  order_induct P step x h = let p = placed x h in subst P p.2 (go N (omega arith) p.0 p.1)
    where
      go : (i : ℕ) → i ≤ N → (j : ℕ) → j < i → P (get_or order j 0)
      go zero l j b = absurd (not-suc-le-zero b)
      go (suc i) l j b =
          step (get_or order j 0) (o.each j (omega arith)).below
          (λ y r. let w = reads_before j (omega arith) refl r in subst P w.2 (go i (omega arith) w.0 (omega arith)))
