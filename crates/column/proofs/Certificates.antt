-- Certificates for loops, as tests that compute: an order in which each signal comes after all it reads shows that none is on a loop, and a
-- chain of reads from a signal to itself that it is. Assumes nothing.
use mathlib.Core.Path.{subst, sym}
use mathlib.Core.Logic.{◌⊎◌, inl, inr, ⊎_elim}
use mathlib.Core.Bool.{Bool, true, false, ◌&&◌, ◌||◌}
use mathlib.Core.List.{List, [], ◌∷◌, ◌++◌, Memᴰ}
use Prim.Native.Nat.{ℕ, zero, suc, ◌<◌}
use native.Mathlib.Nat.{not-suc-le-zero, eq-or-lt_of_le, le_of_suc-le-suc}
use lib.Dec.{T, eqb, eqb→eq, eqb_refl}
use Rattle.netlist.specs.Graph.{Reads, Depends, direct, through}
use Rattle.slicefile.proofs.Tests.{and_left, and_right}
use Rattle.column.specs.Cases.{names}

pub and_both : (a b : Bool) → T (a && b) → T a × T b
and_both a b t = (and_left a b t, and_right a b t)

or_cases : (a b : Bool) → T (a || b) → T a ⊎ T b
or_cases true b t = inl tt
or_cases false b t = inr t

or_left : (a b : Bool) → T a → T (a || b)
or_left true b t = tt
or_left false b t = absurd t

or_right : (a b : Bool) → T b → T (a || b)
or_right true b t = tt
or_right false b t = t

-- the test passes at every number below the bound
unfoldable pub all_below : ℕ → (ℕ → Bool) → Bool
all_below zero f = true
all_below (suc k) f = f k && all_below k f

pub all_at : (k : ℕ) (f : ℕ → Bool) → T (all_below k f) → (x : ℕ) → x < k → T (f x)
unfolding all_below
all_at zero f t x h = absurd (not-suc-le-zero h)
all_at (suc k) f t x h =
    ⊎_elim (λ e. subst (λ (y : ℕ). T (f y)) (sym e) (and_left (f k) (all_below k f) t)) (λ l. all_at k f (and_right (f k) (all_below k f) t) x l)
    (eq-or-lt_of_le (le_of_suc-le-suc h))

-- a list names just its members
named : {y : ℕ} {ys : List ℕ} → Memᴰ y ys → T (names ys y)
named {y = y} (Memᴰ.head {x = x} {xs = xs} e) = or_left (eqb y x) (names xs y) (subst (λ (v : ℕ). T (eqb y v)) e (eqb_refl y))
named {y = y} (Memᴰ.tail {x = x} {xs = xs} m) = or_right (eqb y x) (names xs y) (named m)

member : (ys : List ℕ) (y : ℕ) → T (names ys y) → Memᴰ y ys
member [] y t = absurd t
member (x ∷ xs) y t = ⊎_elim (λ e. Memᴰ.head (eqb→eq y x e)) (λ u. Memᴰ.tail (member xs y u)) (or_cases (eqb y x) (names xs y) t)

-- a number that a joined list names is named by one of the two
names_cases : (xs ys : List ℕ) (x : ℕ) → T (names (xs ++ ys) x) → T (names xs x) ⊎ T (names ys x)
names_cases [] ys x t = inr t
names_cases (z ∷ zs) ys x t =
    ⊎_elim (λ e. inl (or_left (eqb x z) (names zs x) e)) (λ u. ⊎_elim (λ v. inl (or_right (eqb x z) (names zs x) v)) inr (names_cases zs ys x u))
    (or_cases (eqb x z) (names (zs ++ ys) x) t)

-- each of the first list is named by the second
abbrev pub all_named : List ℕ → List ℕ → Bool
all_named [] zs = true
all_named (y ∷ ys) zs = names zs y && all_named ys zs

-- what the listed signals read is named by zs
abbrev pub read_within : (ℕ → List ℕ) → List ℕ → List ℕ → Bool
read_within reads [] zs = true
read_within reads (x ∷ xs) zs = all_named (reads x) zs && read_within reads xs zs

-- the order, latest first, stands over a base that is closed under reads: each signal reads only signals after it in the list, or of the base
abbrev pub ordered : (ℕ → List ℕ) → List ℕ → List ℕ → Bool
ordered reads [] base = read_within reads base base
ordered reads (x ∷ xs) base = all_named (reads x) (xs ++ base) && ordered reads xs base

-- z is read at the end of a chain from x through ys
abbrev pub chained : (ℕ → List ℕ) → ℕ → List ℕ → ℕ → Bool
chained reads x [] z = names (reads x) z
chained reads x (y ∷ ys) z = names (reads x) y && chained reads y ys z

named_at : {y : ℕ} (ys zs : List ℕ) → T (all_named ys zs) → Memᴰ y ys → T (names zs y)
named_at ys zs t (Memᴰ.head {x = x} {xs = xs} e) = subst (λ (v : ℕ). T (names zs v)) (sym e) (and_left (names zs x) (all_named xs zs) t)
named_at ys zs t (Memᴰ.tail {x = x} {xs = xs} m) = named_at xs zs (and_right (names zs x) (all_named xs zs) t) m

module _ (reads : ℕ → List ℕ) where
  within_at : (xs zs : List ℕ) → T (read_within reads xs zs) → (x y : ℕ) → T (names xs x) → Reads reads x y → T (names zs y)
  within_at [] zs t x y h r = absurd h
  within_at (w ∷ ws) zs t x y h r =
      ⊎_elim
      (λ e. named_at (reads w) zs (and_left (all_named (reads w) zs) (read_within reads ws zs) t) (subst (λ (v : ℕ). Reads reads v y) (eqb→eq x w e) r))
      (λ u. within_at ws zs (and_right (all_named (reads w) zs) (read_within reads ws zs) t) x y u r)
      (or_cases (eqb x w) (names ws x) h)

  -- an order with its base is closed under direct reads
  step_within : (xs base : List ℕ) → T (ordered reads xs base) → (x y : ℕ) → T (names (xs ++ base) x) → Reads reads x y → T (names (xs ++ base) y)
  step_within [] base t x y h r = within_at base base t x y h r
  step_within (w ∷ ws) base t x y h r =
      or_right (eqb y w) (names (ws ++ base) y)
      (⊎_elim
      (λ e. named_at (reads w) (ws ++ base) (and_left (all_named (reads w) (ws ++ base)) (ordered reads ws base) t) (subst (λ (v : ℕ). Reads reads v y) (eqb→eq x w e) r))
      (λ u. step_within ws base (and_right (all_named (reads w) (ws ++ base)) (ordered reads ws base) t) x y u r)
      (or_cases (eqb x w) (names (ws ++ base) x) h))

  -- and under dependence
  depends_within : (xs base : List ℕ) → T (ordered reads xs base) → {x y : ℕ} → T (names (xs ++ base) x) → Depends reads x y → T (names (xs ++ base) y)
  depends_within xs base t {x} {y} h (direct r) = step_within xs base t x y h r
  depends_within xs base t {x} {y} h (through {y = w} r d) = depends_within xs base t (step_within xs base t x w h r) d

  -- what an ordered signal depends on comes after it in the list, or is of the base
  depends_after : (w : ℕ) (ws base : List ℕ) → T (ordered reads (w ∷ ws) base) → {y : ℕ} → Depends reads w y → T (names (ws ++ base) y)
  depends_after w ws base t (direct r) = named_at (reads w) (ws ++ base) (and_left (all_named (reads w) (ws ++ base)) (ordered reads ws base) t) r
  depends_after w ws base t (through r d) =
      depends_within ws base (and_right (all_named (reads w) (ws ++ base)) (ordered reads ws base) t)
      (named_at (reads w) (ws ++ base) (and_left (all_named (reads w) (ws ++ base)) (ordered reads ws base) t) r)
      d

  -- no signal of the order outside the base depends on itself
  pub no_loop : (xs base : List ℕ) → T (ordered reads xs base) → (x : ℕ) → T (names xs x) → (T (names base x) → ⊥) → Depends reads x x → ⊥
  no_loop [] base t x h out d = h
  no_loop (w ∷ ws) base t x h out d =
      let rest : T (ordered reads ws base) = and_right (all_named (reads w) (ws ++ base)) (ordered reads ws base) t in
      let deeper : T (names ws x) → ⊥ = λ u. no_loop ws base rest x u out d in
      ⊎_elim
      (λ e. ⊎_elim deeper out (names_cases ws base x (depends_after w ws base t (subst (λ (v : ℕ). Depends reads v x) (eqb→eq x w e) d))))
      deeper
      (or_cases (eqb x w) (names ws x) h)

  pub chain_depends : (x : ℕ) (ys : List ℕ) (z : ℕ) → T (chained reads x ys z) → Depends reads x z
  chain_depends x [] z t = direct (member (reads x) z t)
  chain_depends x (y ∷ ys) z t =
      through (member (reads x) y (and_left (names (reads x) y) (chained reads y ys z) t))
      (chain_depends y ys z (and_right (names (reads x) y) (chained reads y ys z) t))
