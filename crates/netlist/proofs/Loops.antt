-- Every well_formed net has a topological order or a loop. Assumes nothing.
use mathlib.Core.Path.{◌≡◌, refl, sym, ◌∙◌, ap, subst, subst⁻¹}
use mathlib.Core.List.{List, [], ◌∷◌, Memᴰ}
use mathlib.Core.Logic.{◌⊎◌, inl, inr, ⊎_elim}
use Prim.Native.Nat.{ℕ, zero, suc, ◌+◌, ◌≤◌, ◌<◌}
use native.Mathlib.Nat.{not-suc-le-zero, lt_irrefl}
use native.Mathlib.Decide.{ℕ_discrete}
use native.Mathlib.Omega.{arith}
use borrow.Author.Count.{below_more}
use lib.ListN.{length, get_or, set, replicate, length-set, length-replicate}
use lib.Seq.{get_or-set_same, get_or-set_other}
use Rattle.netlist.specs.Graph.{Reads, Depends, Loop, LoopFree, WellFormed, Before, InOrder, Ordered}
use Rattle.netlist.specs.Graph.Depends.{direct}
use Rattle.netlist.specs.Invariant.{OrderedTo, Ready}
use Rattle.netlist.proofs.Order.{depends_more}
use Rattle.netlist.proofs.Pigeonhole.{lt_suc_cases, search_below, pigeonhole}

-- whether y stands before place k
before? : (order : List ℕ) (k y : ℕ) → Dec (Before order k y)
before? order k y =
    ⊎_elim (λ w. yes w) (λ none. no (λ w. none w.0 w.1 w.2)) (search_below (λ j. ℕ_discrete (get_or order j 0) y) k)

-- all of some signals stand before place k, or one does not
all_before : (order : List ℕ) (k : ℕ) (ys : List ℕ) → ((y : ℕ) → Memᴰ y ys → Before order k y) ⊎ ((y : ℕ) × Memᴰ y ys × (Before order k y → ⊥))
all_before order k [] = inl (λ y m. elim m [ ])
all_before order k (z ∷ zs) = step (before? order k z) (all_before order k zs)
  where
    both : Before order k z → ((y : ℕ) → Memᴰ y zs → Before order k y) → (y : ℕ) → Memᴰ y (z ∷ zs) → Before order k y
    both p all y (Memᴰ.head e) = subst⁻¹ (λ (w : ℕ). Before order k w) e p
    both p all y (Memᴰ.tail m) = all y m

    step :
        Dec (Before order k z) → ((y : ℕ) → Memᴰ y zs → Before order k y) ⊎ ((y : ℕ) × Memᴰ y zs × (Before order k y → ⊥))
        → ((y : ℕ) → Memᴰ y (z ∷ zs) → Before order k y) ⊎ ((y : ℕ) × Memᴰ y (z ∷ zs) × (Before order k y → ⊥))
    step (no n) rest = inr (z, Memᴰ.head refl, n)
    step (yes p) (inl all) = inl (both p all)
    step (yes p) (inr w) = inr (w.0, Memᴰ.tail w.1, w.2)

-- storing at place k or above leaves what stands before place i, up to k
module _ (order : List ℕ) (k v i : ℕ) (h : i ≤ k) where
  pub before_set : (y : ℕ) → Before order i y → Before (set order k v) i y
  before_set y b = (b.0, b.1, get_or-set_other order k b.0 v 0 (λ q. lt_irrefl k (omega arith)) ∙ b.2)

  pub before_unset : (y : ℕ) → Before (set order k v) i y → Before order i y
  before_unset y b = (b.0, b.1, sym (get_or-set_other order k b.0 v 0 (λ q. lt_irrefl k (omega arith))) ∙ b.2)

module _ (reads : ℕ → List ℕ) (N : ℕ) where
  -- place i of a list with another element stored at k holds x, which can stand there
  in_order :
      (order : List ℕ) (k v i x : ℕ) → i ≤ k → get_or (set order k v) i 0 ≡ x → x < N → Ready reads order i x
      → InOrder reads N (set order k v) i
  in_order order k v i x h e b r =
      record {
        below = rw e b;
        first = λ w. r.fresh (rw e at (before_unset order k v i h (get_or (set order k v) i 0) w));
        after = λ y m. before_set order k v i h y (r.after y (subst (λ (w : ℕ). Reads reads w y) e m));
      }

  -- one more place
  pub place_next :
      (order : List ℕ) (k x : ℕ) → k < length order → OrderedTo reads N order k → x < N → Ready reads order k x
      → OrderedTo reads N (set order k x) (k + 1)
  place_next order k x l pre b r =
      below_more _ k
      (λ i h.
      let o = pre i h in
      in_order order k x i (get_or order i 0) (omega arith) (get_or-set_other order k i x 0 (λ q. lt_irrefl k (omega arith))) o.below
      (record { fresh = o.first; after = o.after }))
      (in_order order k x k x (omega arith) (get_or-set_same order k x 0 l) b r)

  -- all N places
  pub ordered : (order : List ℕ) (k : ℕ) → length order ≡ N → N ≤ k → OrderedTo reads N order k → Ordered reads N order
  ordered order k size h pre = record { size = size; each = λ i l. pre i (omega arith) }

  -- a set of signals below N, each of which reads another of the set, has a loop
  module _ {P : ℕ → Type 0} (next : (x : ℕ) → x < N → P x → (y : ℕ) × Reads reads x y × (y < N) × P y) where
    Member : Type 0
    Member = (x : ℕ) × (x < N) × P x

    chain : Member → ℕ → Member
    unfolding Member
    chain s zero = s
    chain s (suc i) = let c = chain s i in let w = next c.0 c.1 c.2 in (w.0, w.2, w.3)

    number : Member → ℕ → ℕ
    unfolding Member
    number s i = (chain s i).0

    link : (s : Member) (i : ℕ) → Reads reads (number s i) (number s (suc i))
    unfolding Member chain number
    link s i = let c = chain s i in (next c.0 c.1 c.2).1

    links : (s : Member) (i j : ℕ) → i < j → Depends reads (number s i) (number s j)
    links s i zero h = absurd (not-suc-le-zero h)
    links s i (suc j) h =
        ⊎_elim (λ q. direct (subst⁻¹ (λ (k : ℕ). Reads reads (number s k) (number s (suc j))) q (link s j)))
        (λ l. depends_more (links s i j l) (link s j)) (lt_suc_cases h)

    chain_loops : (x : ℕ) → x < N → P x → (y : ℕ) × (y < N) × Loop reads y
    unfolding Member number
    chain_loops x h p =
        let s : Member = (x, h, p) in
        let c = pigeonhole N (number s) (λ i l. (chain s i).1) in
        (number s c.0, (chain s c.0).1, subst⁻¹ (λ (z : ℕ). Depends reads (number s c.0) z) c.4 (links s c.0 c.1 c.2))

  -- fewer than N places lack some signal
  lacks : (order : List ℕ) (k : ℕ) → k < N → (x : ℕ) × (x < N) × (Before order k x → ⊥)
  lacks order k short = ⊎_elim (λ w. w) (λ none. absurd (full none)) (search_below (λ x. refuted (before? order k x)) N)
    where
      refuted : {A : Type 0} → Dec A → Dec (A → ⊥)
      refuted (yes a) = no (λ n. n a)
      refuted (no n) = yes n

      found : {x : ℕ} → Dec (Before order k x) → ℕ
      found (yes w) = w.0
      found (no n) = 0

      place : ℕ → ℕ
      place x = found (before? order k x)

      found_right : {x : ℕ} (d : Dec (Before order k x)) → ((Before order k x → ⊥) → ⊥) → (found d < k) × (get_or order (found d) 0 ≡ x)
      found_right (yes w) nn = (w.1, w.2)
      found_right (no n) nn = absurd (nn n)

      full : ((x : ℕ) → x < N → (Before order k x → ⊥) → ⊥) → ⊥
      full none =
          let right : (x : ℕ) → x < N → (place x < k) × (get_or order (place x) 0 ≡ x) = λ x h. found_right (before? order k x) (none x h) in
          let c = pigeonhole k place (λ i l. (right i (omega arith)).0) in
          let q : c.0 ≡ c.1 =
          sym (right c.0 (omega arith)).1 ∙ ap (λ (n : ℕ). get_or order n 0) c.4 ∙ (right c.1 (omega arith)).1 in
          omega arith

  ready? : (order : List ℕ) (k x : ℕ) → Dec (Ready reads order k x)
  ready? order k x = go (before? order k x) (all_before order k (reads x))
    where
      go :
          Dec (Before order k x)
          → ((y : ℕ) → Reads reads x y → Before order k y) ⊎ ((y : ℕ) × Reads reads x y × (Before order k y → ⊥)) → Dec (Ready reads order k x)
      go (yes p) d = no (λ r. r.fresh p)
      go (no n) (inl a) = yes (record { fresh = n; after = a })
      go (no n) (inr w) = no (λ r. w.2 (r.after w.0 w.1))

  module _ (wf : WellFormed reads N) where
    -- where no signal can stand at place k below N, there is a loop
    pub stuck : (order : List ℕ) (k : ℕ) → k < N → ((x : ℕ) → x < N → Ready reads order k x → ⊥) → (x : ℕ) × (x < N) × Loop reads x
    stuck order k short none = let s = lacks order k short in chain_loops next s.0 s.1 s.2
      where
        next : (x : ℕ) → x < N → (Before order k x → ⊥) → (y : ℕ) × Reads reads x y × (y < N) × (Before order k y → ⊥)
        next x h n =
            ⊎_elim (λ a. absurd (none x h (record { fresh = n; after = a }))) (λ w. (w.0, w.1, wf x w.0 h w.1, w.2))
            (all_before order k (reads x))

    build :
        (left : ℕ) (order : List ℕ) (k : ℕ) → length order ≡ N → OrderedTo reads N order k → k + left ≡ N
        → ((full : List ℕ) × Ordered reads N full) ⊎ ((x : ℕ) × (x < N) × Loop reads x)
    build zero order k size pre e = inl (order, ordered order k size (omega arith) pre)
    build (suc left) order k size pre e =
        ⊎_elim
        (λ w.
        build left (set order k w.0) (k + 1) (length-set order k w.0 ∙ size) (place_next order k w.0 (omega arith) pre w.1 w.2)
        (omega arith))
        (λ none. inr (stuck order k (omega arith) none))
        (search_below (ready? order k) N)

    -- a topological order, or a signal on a loop
    pub order_or_loop : ((order : List ℕ) × Ordered reads N order) ⊎ ((x : ℕ) × (x < N) × Loop reads x)
    order_or_loop = build N (replicate N 0) 0 (length-replicate N 0) (λ i h. absurd (not-suc-le-zero h)) (omega arith)

    -- a net with no loop has a topological order
    pub some_order : LoopFree reads N → (order : List ℕ) × Ordered reads N order
    some_order free = ⊎_elim (λ w. w) (λ w. absurd (free w.0 w.1 w.2)) order_or_loop
