-- A row that is put into the gate table is the row that is read, and every other signal keeps its row; a row that has a gate's numbers says the
-- gate, and the numbers of a gate that fits are in their range. Assumes nothing.
use mathlib.Core.Path.{◌≡◌, refl, ◌∙◌, ap}
use mathlib.Core.Bool.{true, false}
use mathlib.Core.List.{List, [], ◌∷◌}
use mathlib.Core.Logic.{◌⊎◌, inl, inr}
use Prim.Native.Nat.{ℕ, zero, suc, ◌+◌, ◌*◌, ◌-◌, ◌≤◌, ◌<◌}
use native.Mathlib.Nat.{not-suc-le-zero, le_of_suc-le-suc}
use native.Mathlib.Decide.{dec_lt}
use native.Mathlib.Omega.{arith}
use borrow.Author.Tests.{lt-ltb, le-ltb, eq-eqb, ne_eqb}
use lib.Dec.{lit<}
use lib.ListN.{length, get_or, set, length-set}
use lib.Seq.{sets, get_or-set_same, get_or-set_other}
use Rattle.netlist.specs.declared.Source.{Source}
use Rattle.netlist.specs.declared.Source.TheVariants.{Constant, Input, Signal}
use Rattle.netlist.specs.declared.Gate.{Gate}
use Rattle.netlist.specs.declared.Gate.TheVariants.{Lut, ZeroOf, Select, Xor, Same, Stored}
use Rattle.netlist.specs.Table.{row_length, signal_wire, input_wire, wire_count, code_of, source_of, select_head, stored_head, gate_numbers, gate_with, gate_of, SourceFits, GateFits}

-- a run of stores leaves what stands before it and after it
sets_other : (vs l : List ℕ) (i j : ℕ) → (j < i) ⊎ (i + length vs ≤ j) → get_or (sets l i vs) j 0 ≡ get_or l j 0
sets_other [] l i j h = refl
sets_other (a ∷ vs) l i j (inl h) = sets_other vs (set l i a) (suc i) j (inl (omega arith)) ∙ get_or-set_other l i j a 0 (λ e. omega arith)
sets_other (a ∷ vs) l i j (inr h) = sets_other vs (set l i a) (suc i) j (inr (omega arith)) ∙ get_or-set_other l i j a 0 (λ e. omega arith)

-- and puts its elements in their places
sets_at : (vs l : List ℕ) (i k : ℕ) → k < length vs → i + length vs ≤ length l → get_or (sets l i vs) (i + k) 0 ≡ get_or vs k 0
sets_at [] l i k h fits = absurd (not-suc-le-zero h)
sets_at (a ∷ vs) l i zero h fits =
    let e : i + 0 ≡ i = omega arith in
    rw e (sets_other vs (set l i a) (suc i) i (inl (omega arith)) ∙ get_or-set_same l i a 0 (omega arith))
sets_at (a ∷ vs) l i (suc k) h fits =
    let e : i + suc k ≡ suc i + k = omega arith in
    rw e (sets_at vs (set l i a) (suc i) k (le_of_suc-le-suc h) (omega (arith, length-set l i a)))

-- the code of a source that fits is a wire of the netlist
pub code_wire : (n m : ℕ) (s : Source) → SourceFits n m s → code_of n s < wire_count n m
unfolding code_of
code_wire n m (Constant true) f = omega arith
code_wire n m (Constant false) f = omega arith
code_wire n m (Input j) f = omega arith
code_wire n m (Signal x) f = omega arith

-- a source's code says the source
pub source_back : (n m : ℕ) (s : Source) → SourceFits n m s → source_of n (code_of n s) ≡ s
unfolding code_of source_of
source_back n m (Constant true) f = refl
source_back n m (Constant false) f = refl
source_back n m (Input j) f =
    let e : input_wire n + j - input_wire n ≡ j = omega arith in
    rw (le-ltb (input_wire n + j) signal_wire (omega arith), le-ltb (input_wire n + j) (input_wire n) (omega arith), e)
source_back n m (Signal x) f =
    let e : signal_wire + x - signal_wire ≡ x = omega arith in
    rw (le-ltb (signal_wire + x) signal_wire (omega arith), lt-ltb (signal_wire + x) (input_wire n) (omega arith), e)

-- a gate goes by its head and its six sources
gate_same :
    (n head head' : ℕ) (p q : ℕ → Source) → head ≡ head' → ((i : ℕ) → i < row_length → p i ≡ q i) → gate_with n head p ≡ gate_with n head' q
unfolding gate_with
gate_same n head head' p q e f =
    rw (e, f 1 (lit< tt), f 2 (lit< tt), f 3 (lit< tt), f 4 (lit< tt), f 5 (lit< tt), f 6 (lit< tt))

-- a gate's numbers say the gate
gate_back :
    (n m : ℕ) (gate : Gate) → GateFits n m gate
    → gate_with n (get_or (gate_numbers n gate) 0 0) (λ i. source_of n (get_or (gate_numbers n gate) i 0)) ≡ gate
unfolding gate_numbers gate_with GateFits
gate_back n m (Lut t p1 p2 p3 p4 p5 p6) f =
    rw (lt-ltb t (4 * n) f.0, source_back n m p1 f.1, source_back n m p2 f.2, source_back n m p3 f.3, source_back n m p4 f.4, source_back n m p5 f.5, source_back n m p6 f.6)
gate_back n m (ZeroOf t) f =
    let e : 4 * n + t - 4 * n ≡ t = omega arith in
    rw (le-ltb (4 * n + t) (4 * n) (omega arith), lt-ltb (4 * n + t) (select_head n) (omega arith), e)
gate_back n m (Select s one none) f =
    let h = select_head n in
    rw (le-ltb h (4 * n) (omega arith), le-ltb h h (omega arith), eq-eqb h h refl, source_back n m s f.0, source_back n m one f.1, source_back n m none f.2)
gate_back n m (Xor a b) f =
    let h = select_head n in
    rw (le-ltb (h + 1) (4 * n) (omega arith), le-ltb (h + 1) h (omega arith), ne_eqb (h + 1) h (λ e. omega arith), eq-eqb (h + 1) (h + 1) refl, source_back n m a f.0, source_back n m b f.1)
gate_back n m (Same a) f =
    let h = select_head n in
    rw (le-ltb (h + 2) (4 * n) (omega arith), le-ltb (h + 2) h (omega arith), ne_eqb (h + 2) h (λ e. omega arith), ne_eqb (h + 2) (h + 1) (λ e. omega arith), eq-eqb (h + 2) (h + 2) refl, source_back n m a f)
gate_back n m (Stored q) f =
    let h = select_head n in
    let k = stored_head n + q in
    let e : k - stored_head n ≡ q = omega arith in
    rw (le-ltb k (4 * n) (omega arith), le-ltb k h (omega arith), ne_eqb k h (λ e. omega arith), ne_eqb k (h + 1) (λ e. omega arith), ne_eqb k (h + 2) (λ e. omega arith), e)

-- a gate has the seven numbers of a row
pub seven : (n : ℕ) (gate : Gate) → length (gate_numbers n gate) ≡ row_length
unfolding gate_numbers
seven n (Lut t p1 p2 p3 p4 p5 p6) = refl
seven n (ZeroOf t) = refl
seven n (Select s one none) = refl
seven n (Xor a b) = refl
seven n (Same a) = refl
seven n (Stored q) = refl

-- signal x's row put into a table
module _ (table row : List ℕ) (x : ℕ) (size : length row ≡ row_length) where
  -- its numbers stand at its places
  pub put_at :
      row_length * x + row_length ≤ length table → (i : ℕ) → i < row_length
      → get_or (sets table (row_length * x) row) (row_length * x + i) 0 ≡ get_or row i 0
  put_at fits i h = sets_at row table (row_length * x) i (omega arith) (omega arith)

  -- any other signal keeps its numbers
  pub put_other :
      (y : ℕ) → (y ≡ x → ⊥) → (i : ℕ) → i < row_length
      → get_or (sets table (row_length * x) row) (row_length * y + i) 0 ≡ get_or table (row_length * y + i) 0
  put_other y d i h = sets_other row table (row_length * x) (row_length * y + i) (side (dec_lt y x))
    where
      side : Dec (y < x) → (row_length * y + i < row_length * x) ⊎ (row_length * x + length row ≤ row_length * y + i)
      side (yes l) = inl (omega arith)
      side (no l) =
          let strict : x < y = omega arith in
          inr (omega arith)

first : (x : ℕ) → row_length * x + 0 ≡ row_length * x
first x = omega arith

-- a signal whose row has a gate's numbers has the gate
pub row_gate :
    (table : List ℕ) (n m x : ℕ) (gate : Gate) → GateFits n m gate
    → ((i : ℕ) → i < row_length → get_or table (row_length * x + i) 0 ≡ get_or (gate_numbers n gate) i 0)
    → gate_of table n x ≡ gate
unfolding gate_of
row_gate table n m x gate f at =
    gate_same n _ _ _ (λ i. source_of n (get_or (gate_numbers n gate) i 0)) (rw (first x) at (at 0 (lit< tt))) (λ i h. ap (source_of n) (at i h))
    ∙ gate_back n m gate f

-- each number of a list is below a bound
abbrev Below : ℕ → List ℕ → Type 0
Below b [] = Unit {0}
Below b (x ∷ xs) = (x < b) × Below b xs

below_at : (b : ℕ) (xs : List ℕ) → 0 < b → Below b xs → (i : ℕ) → get_or xs i 0 < b
below_at b [] h t i = h
below_at b (x ∷ xs) h t zero = t.0
below_at b (x ∷ xs) h t (suc i) = below_at b xs h t.1 i

-- no flip-flop
abbrev pub NotStored : Gate → Type 0
NotStored (Lut t p1 p2 p3 p4 p5 p6) = Unit {0}
NotStored (ZeroOf t) = Unit {0}
NotStored (Select s one none) = Unit {0}
NotStored (Xor a b) = Unit {0}
NotStored (Same a) = Unit {0}
NotStored (Stored q) = ⊥

-- the row of a gate that fits
module _ (n m : ℕ) where
  some : 0 < wire_count n m
  some = omega arith

  -- each source is a wire
  pub row_source : (gate : Gate) → GateFits n m gate → (i : ℕ) → get_or (gate_numbers n gate) (suc i) 0 < wire_count n m
  unfolding gate_numbers GateFits
  row_source (Lut t p1 p2 p3 p4 p5 p6) f =
      below_at _ (code_of n p1 ∷ code_of n p2 ∷ code_of n p3 ∷ code_of n p4 ∷ code_of n p5 ∷ code_of n p6 ∷ []) some
      (code_wire n m p1 f.1, (code_wire n m p2 f.2, (code_wire n m p3 f.3, (code_wire n m p4 f.4, (code_wire n m p5 f.5, (code_wire n m p6 f.6, tt))))))
  row_source (ZeroOf t) f = below_at _ (0 ∷ 0 ∷ 0 ∷ 0 ∷ 0 ∷ 0 ∷ []) some (some, (some, (some, (some, (some, (some, tt))))))
  row_source (Select s one none) f =
      below_at _ (code_of n s ∷ code_of n one ∷ code_of n none ∷ 0 ∷ 0 ∷ 0 ∷ []) some
      (code_wire n m s f.0, (code_wire n m one f.1, (code_wire n m none f.2, (some, (some, (some, tt))))))
  row_source (Xor a b) f =
      below_at _ (code_of n a ∷ code_of n b ∷ 0 ∷ 0 ∷ 0 ∷ 0 ∷ []) some
      (code_wire n m a f.0, (code_wire n m b f.1, (some, (some, (some, (some, tt))))))
  row_source (Same a) f =
      below_at _ (code_of n a ∷ 0 ∷ 0 ∷ 0 ∷ 0 ∷ 0 ∷ []) some (code_wire n m a f, (some, (some, (some, (some, (some, tt))))))
  row_source (Stored q) f = below_at _ (0 ∷ 0 ∷ 0 ∷ 0 ∷ 0 ∷ 0 ∷ []) some (some, (some, (some, (some, (some, (some, tt))))))

  -- the head is below the flip-flops', but for a flip-flop
  pub row_head : (gate : Gate) → GateFits n m gate → NotStored gate → get_or (gate_numbers n gate) 0 0 < stored_head n
  unfolding gate_numbers GateFits
  row_head (Lut t p1 p2 p3 p4 p5 p6) f d = omega (arith, f.0)
  row_head (ZeroOf t) f d = omega arith
  row_head (Select s one none) f d = omega arith
  row_head (Xor a b) f d = omega arith
  row_head (Same a) f d = omega arith
  row_head (Stored q) f d = absurd d
