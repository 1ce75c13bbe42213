-- The signals that a signal reads are those at its six places, and the gate table has them. Assumes nothing.
use mathlib.Core.Path.{◌≡◌, refl, sym, ap, ◌∙◌}
use mathlib.Core.Bool.{Bool, true, false, cond}
use mathlib.Core.List.{List, [], ◌∷◌, Memᴰ}
use Prim.Native.Nat.{ℕ, zero, suc, ◌+◌, ◌*◌, ◌-◌, ◌≤◌, ◌<◌}
use native.Mathlib.Nat.{not-suc-le-zero, le_of_suc-le-suc}
use native.Mathlib.Omega.{arith}
use borrow.Author.Tests.{le-ltb, ne_eqb}
use lib.Dec.{ltb, eqb, lit≤}
use lib.ListN.{length, get_or}
use Rattle.netlist.specs.declared.Source.{Source}
use Rattle.netlist.specs.declared.Source.TheVariants.{Constant, Input, Signal}
use Rattle.netlist.specs.declared.Gate.{Gate}
use Rattle.netlist.specs.declared.Gate.TheVariants.{Lut, ZeroOf, Select, Xor, Same, Stored}
use Rattle.std.specs.Prelude.{Some, None}
use Rattle.netlist.specs.Rule.{sources_of, signals_in, reads_of}
use Rattle.netlist.specs.Graph.{Reads}
use Rattle.netlist.specs.Settle.{reads_in}
use Rattle.netlist.specs.Table.{row_length, source_of, select_head, stored_head, gate_with, gate_of, flop_signal, FlopRows}
use Rattle.toposort.specs.Reading.{as_read, read_in, read_at, head_of, place_count, first_mark}

-- a signal among sources has a place
place_in : (ss : List Source) (y : ℕ) → Memᴰ y (signals_in ss) → (i : ℕ) × (i < length ss) × (read_in ss i ≡ Some y)
unfolding signals_in as_read read_in
place_in [] y m = elim m [ ]
place_in (Constant b ∷ ss) y m = let w = place_in ss y m in (suc w.0, omega arith, w.2)
place_in (Input j ∷ ss) y m = let w = place_in ss y m in (suc w.0, omega arith, w.2)
place_in (Signal z ∷ ss) y (Memᴰ.head e) = (0, omega arith, ap Some (sym e))
place_in (Signal z ∷ ss) y (Memᴰ.tail m) = let w = place_in ss y m in (suc w.0, omega arith, w.2)

six : (gate : Gate) → length (sources_of gate) ≤ 6
unfolding sources_of
six (Lut t p1 p2 p3 p4 p5 p6) = lit≤ tt
six (ZeroOf t) = lit≤ tt
six (Select s one none) = lit≤ tt
six (Xor a b) = lit≤ tt
six (Same a) = lit≤ tt
six (Stored k) = lit≤ tt

-- what is at a place is a signal among the sources
in_place : (ss : List Source) (i y : ℕ) → read_in ss i ≡ Some y → Memᴰ y (signals_in ss)
unfolding signals_in as_read read_in
in_place [] i y e = cc
in_place (Constant b ∷ ss) zero y e = cc
in_place (Constant b ∷ ss) (suc i) y e = in_place ss i y e
in_place (Input j ∷ ss) zero y e = cc
in_place (Input j ∷ ss) (suc i) y e = in_place ss i y e
in_place (Signal z ∷ ss) zero y e = Memᴰ.head (cc)
in_place (Signal z ∷ ss) (suc i) y e = Memᴰ.tail (in_place ss i y e)

module _ (g : ℕ → Gate) (x : ℕ) where
  -- a signal reads what stands at one of its six places, and only that
  pub place_of : (y : ℕ) → Reads (reads_in g) x y → (i : ℕ) × (i < 6) × (read_at g x i ≡ Some y)
  unfolding reads_of
  place_of y r =
      let w = place_in (sources_of (g x)) y r in
      let back : 5 - (5 - w.0) ≡ w.0 = omega (arith, six (g x)) in
      (5 - w.0, omega arith, rw back w.2)

  pub reads_of_lem : (i y : ℕ) → read_at g x i ≡ Some y → Reads (reads_in g) x y
  unfolding reads_of
  reads_of_lem i y e = in_place (sources_of (g x)) (5 - i) y e

  -- a place has one content
  pub not_both : (i y : ℕ) → read_at g x i ≡ None → read_at g x i ≡ Some y → ⊥
  not_both i y p q = cc

  pub same_signal : (i y z : ℕ) → read_at g x i ≡ Some y → read_at g x i ≡ Some z → y ≡ z
  same_signal i y z p q = cc

-- the sources p 1 to p k
first : ℕ → (ℕ → Source) → List Source
first zero p = []
first (suc k) p = p 1 ∷ first k (λ i. p (suc i))

first_in : (k : ℕ) (p : ℕ → Source) (i : ℕ) → i < k → read_in (first k p) i ≡ as_read (p (suc i))
unfolding first read_in
first_in zero p i h = absurd (not-suc-le-zero h)
first_in (suc k) p zero h = refl
first_in (suc k) p (suc i) h = first_in k (λ j. p (suc j)) i (le_of_suc-le-suc h)

first_out : (k : ℕ) (p : ℕ → Source) (i : ℕ) → k ≤ i → read_in (first k p) i ≡ None
unfolding first read_in
first_out zero p i h = refl
first_out (suc k) p zero h = absurd (not-suc-le-zero h)
first_out (suc k) p (suc i) h = first_out k (λ j. p (suc j)) i (le_of_suc-le-suc h)

first_length : (k : ℕ) (p : ℕ → Source) → length (first k p) ≡ k
unfolding first
first_length zero p = refl
first_length (suc k) p = ap suc (first_length k (λ i. p (suc i)))

-- a gate of the table reads its first sources, as many as its head says
first_sources : (n head : ℕ) (p : ℕ → Source) → sources_of (gate_with n head p) ≡ first (place_count n head) p
unfolding sources_of gate_with place_count first
first_sources n head p =
    by (ltb head (4 * n)) (ltb head (select_head n)) (eqb head (select_head n)) (eqb head (select_head n + 1)) (eqb head (select_head n + 2))
  where
    by :
        (a b c d e : Bool)
        → sources_of
        (cond a (Lut head (p 1) (p 2) (p 3) (p 4) (p 5) (p 6))
        (cond b (ZeroOf (head - 4 * n))
        (cond c (Select (p 1) (p 2) (p 3)) (cond d (Xor (p 1) (p 2)) (cond e (Same (p 1)) (Stored (head - stored_head n)))))))
        ≡ first (cond a 6 (cond b 0 (cond c 3 (cond d 2 (cond e 1 0))))) p
    by true b c d e = refl
    by false true c d e = refl
    by false false true d e = refl
    by false false false true e = refl
    by false false false false true = refl
    by false false false false false = refl

module _ (table : List ℕ) (n x : ℕ) where
  abbrev head : ℕ
  head = head_of table x

  abbrev source : ℕ → Source
  source i = source_of n (get_or table (row_length * x + i) 0)

  -- a gate has as many sources as its head says
  pub places : length (sources_of (gate_of table n x)) ≡ place_count n head
  unfolding gate_of
  places = ap length (first_sources n head source) ∙ first_length (place_count n head) source

  -- source k of a row is read as what it is, where the gate has it
  pub counted_source : (k : ℕ) → k < length (sources_of (gate_of table n x))
      → read_in (sources_of (gate_of table n x)) k ≡ as_read (source_of n (get_or table (row_length * x + suc k) 0))
  unfolding gate_of
  counted_source k h = rw (first_sources n head source) (first_in (place_count n head) source k (rw places at h))

  -- and as nothing elsewhere
  pub other_source : (k : ℕ) → place_count n head ≤ k → read_in (sources_of (gate_of table n x)) k ≡ None
  unfolding gate_of
  other_source k h = rw (first_sources n head source) (first_out (place_count n head) source k h)

pub places_most : (n head : ℕ) → place_count n head ≤ 6
unfolding place_count
places_most n head =
    by (ltb head (4 * n)) (ltb head (select_head n)) (eqb head (select_head n)) (eqb head (select_head n + 1)) (eqb head (select_head n + 2))
  where
    by : (a b c d e : Bool) → cond a 6 (cond b 0 (cond c 3 (cond d 2 (cond e 1 0)))) ≤ 6
    by true b c d e = lit≤ tt
    by false true c d e = lit≤ tt
    by false false true d e = lit≤ tt
    by false false false true e = lit≤ tt
    by false false false false true = lit≤ tt
    by false false false false false = lit≤ tt

-- nothing is read before the first mark
pub none_before : (table : List ℕ) (n x i y : ℕ) → suc i < first_mark n (head_of table x) → read_at (gate_of table n) x i ≡ Some y → ⊥
none_before table n x i y h r = not_both (gate_of table n) x i y (other_source table n x (5 - i) (omega arith)) r

-- a flip-flop has no places
flop_places : (n q : ℕ) → place_count n (stored_head n + q) ≡ 0
unfolding place_count
flop_places n q =
    let h = select_head n in
    let k = stored_head n + q in
    rw (le-ltb k (4 * n) (omega arith), le-ltb k h (omega arith), ne_eqb k h (λ e. omega arith), ne_eqb k (h + 1) (λ e. omega arith), ne_eqb k (h + 2) (λ e. omega arith))

-- so its signal reads nothing
pub flop_reads : (table : List ℕ) (n : ℕ) → FlopRows n table → (q y : ℕ) → q < 8 * n → Reads (reads_in (gate_of table n)) (flop_signal q) y → ⊥
flop_reads table n rows q y h r =
    let w = place_of (gate_of table n) (flop_signal q) y r in
    let none : place_count n (head_of table (flop_signal q)) ≡ 0 = rw (rows q h) (flop_places n q) in
    not_both (gate_of table n) (flop_signal q) w.0 y (other_source table n (flop_signal q) (5 - w.0) (omega arith)) w.2
