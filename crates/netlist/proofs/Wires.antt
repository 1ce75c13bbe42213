-- Where the wires hold a value table and the inputs, a source's bit is the wire at its number; and what a store to a signal's wire leaves.
-- Assumes nothing.
use mathlib.Core.Path.{◌≡◌, refl, sym, ◌∙◌, ap, ap₂}
use mathlib.Core.Bool.{Bool, true, false, cond}
use mathlib.Core.List.{List, [], ◌∷◌, ◌++◌}
use Prim.Native.Nat.{ℕ, zero, suc, ◌+◌, ◌*◌, ◌-◌, ◌≤◌, ◌<◌}
use native.Mathlib.Decide.{ℕ_discrete, dec_lt}
use native.Mathlib.Omega.{arith}
use borrow.Author.Tests.{lt-ltb, le-ltb}
use lib.Dec.{eqb, ltb}
use lib.ListN.{length, get_or, set, take, drop, length-set, length-append, take-append-drop, get_or-append}
use lib.Seq.{get_or-take, get_or-drop, get_or-set_same, get_or-set_other, take-set-lt, drop-set-add, drop-set-lt, drop-drop, take_at, drop_at, get_or-append-add}
use Rattle.netlist.specs.declared.Source.{Source}
use Rattle.netlist.specs.declared.Source.TheVariants.{Input, Signal}
use Rattle.netlist.specs.declared.Gate.TheVariants.{Lut, ZeroOf, Select, Xor, Same, Stored}
use Rattle.netlist.specs.Rule.{env, value_of, apply_gate, rule_of}
use Rattle.netlist.specs.Table.{signal_count, signal_wire, input_wire, code_of, source_of, select_head, stored_head, row_length, gate_with, gate_of, SourceFits}
use Rattle.netlist.specs.Wires.{IsWires, wires_of, values_on, inputs_on, on_wire}
use Rattle.netlist.proofs.Table.{source_back}

-- the three kinds of number
module _ {C : Type 0} (n c : ℕ) where
  by_number : (c ≡ 0 → C) → (c ≡ 1 → C) → (signal_wire ≤ c → c < input_wire n → C) → (input_wire n ≤ c → C) → C
  by_number low high signal input = go (ℕ_discrete c 0) (ℕ_discrete c 1) (dec_lt c (input_wire n))
    where
      go : Dec (c ≡ 0) → Dec (c ≡ 1) → Dec (c < input_wire n) → C
      go (yes e) b d = low e
      go (no a) (yes e) d = high e
      go (no a) (no b) (yes h) = signal (omega arith) h
      go (no a) (no b) (no h) = input (omega arith)

-- the source at a number
signal_at : (n c : ℕ) → signal_wire ≤ c → c < input_wire n → source_of n c ≡ Signal (c - signal_wire)
unfolding source_of
signal_at n c a h = rw (le-ltb c signal_wire a, lt-ltb c (input_wire n) h)

input_at : (n c : ℕ) → input_wire n ≤ c → source_of n c ≡ Input (c - input_wire n)
unfolding source_of
input_at n c h = rw (le-ltb c signal_wire (omega arith), le-ltb c (input_wire n) h)

-- the number of the source at a number is that number
pub code_back : (n c : ℕ) → code_of n (source_of n c) ≡ c
unfolding code_of source_of
code_back n c =
    by_number n c (λ e. rw e) (λ e. rw e)
    (λ a h. ap (code_of n) (signal_at n c a h) ∙ omega arith)
    (λ h. ap (code_of n) (input_at n c h) ∙ omega arith)

module _ {n m : ℕ} {wires : List ℕ} (w : IsWires n m wires) where
  -- the bit on the source at a number
  pub wire_value : (c : ℕ) → value_of (inputs_on n wires) (values_on n wires) (source_of n c) ≡ get_or wires c 0
  unfolding value_of source_of
  wire_value c =
      by_number n c
      (λ e. rw e (sym w.low))
      (λ e. rw e (sym w.high))
      (λ a h.
      let e : signal_wire + (c - signal_wire) ≡ c = omega arith in
      let v : get_or (values_on n wires) (c - signal_wire) 0 ≡ get_or wires c 0 =
      get_or-take (signal_count n) (drop signal_wire wires) (c - signal_wire) 0 (omega arith)
      ∙ get_or-drop signal_wire wires (c - signal_wire) 0
      ∙ ap (λ (i : ℕ). get_or wires i 0) e in
      rw (signal_at n c a h, v) (omega (arith, w.bits c)))
      (λ h.
      let e : input_wire n + (c - input_wire n) ≡ c = omega arith in
      let v : get_or (inputs_on n wires) (c - input_wire n) 0 ≡ get_or wires c 0 =
      get_or-drop (input_wire n) wires (c - input_wire n) 0 ∙ ap (λ (i : ℕ). get_or wires i 0) e in
      rw (input_at n c h, v) (omega (arith, w.bits c)))

  -- the bit on a source of the netlist
  pub wire_source : (s : Source) → SourceFits n m s → on_wire n wires s ≡ value_of (inputs_on n wires) (values_on n wires) s
  wire_source s f = sym (wire_value (code_of n s)) ∙ ap (value_of (inputs_on n wires) (values_on n wires)) (source_back n m s f)

-- a gate of the table goes by the bits on the sources at its numbers
gate_by :
    (a f : List ℕ) (n head : ℕ) (v w : Source → ℕ) (p : ℕ → Source) → ((i : ℕ) → v (p i) ≡ w (p i))
    → apply_gate a f v (gate_with n head p) ≡ apply_gate a f w (gate_with n head p)
unfolding apply_gate gate_with
gate_by a f n head v w p e =
    by (ltb head (4 * n)) (ltb head (select_head n)) (eqb head (select_head n)) (eqb head (select_head n + 1)) (eqb head (select_head n + 2))
  where
    by :
        (b c d g h : Bool) → let gate =
        cond b (Lut head (p 1) (p 2) (p 3) (p 4) (p 5) (p 6))
        (cond c (ZeroOf (head - 4 * n))
        (cond d (Select (p 1) (p 2) (p 3)) (cond g (Xor (p 1) (p 2)) (cond h (Same (p 1)) (Stored (head - stored_head n))))))
        in apply_gate a f v gate ≡ apply_gate a f w gate
    by true c d g h = rw (e 1, e 2, e 3, e 4, e 5, e 6)
    by false true d g h = refl
    by false false true g h = rw (e 1, e 2, e 3)
    by false false false true h = rw (e 1, e 2)
    by false false false false true = e 1
    by false false false false false = refl

-- what a gate gives by the wires is its rule
pub rule_on_wires :
    {n m : ℕ} {wires : List ℕ} (w : IsWires n m wires) (contents flops table : List ℕ) (x : ℕ)
    → apply_gate contents flops (on_wire n wires) (gate_of table n x)
    ≡ rule_of (env contents flops (inputs_on n wires)) (values_on n wires) (gate_of table n x)
unfolding rule_of gate_of
rule_on_wires {n} {wires = wires} w contents flops table x =
    gate_by contents flops n _ _ _ (λ i. source_of n (get_or table (row_length * x + i) 0))
    (λ i. let c = get_or table (row_length * x + i) 0 in ap (λ (k : ℕ). get_or wires k 0) (code_back n c) ∙ sym (wire_value w c))

-- a bit stored on a signal's wire: the value table has it, the inputs are the same
module _ {n m : ℕ} {wires : List ℕ} (w : IsWires n m wires) (x v : ℕ) (h : x < signal_count n) where
  pub values_set : values_on n (set wires (signal_wire + x) v) ≡ set (values_on n wires) x v
  values_set = ap (take (signal_count n)) (drop-set-add signal_wire wires x v) ∙ take-set-lt (signal_count n) (drop signal_wire wires) x v h

  pub inputs_set : inputs_on n (set wires (signal_wire + x) v) ≡ inputs_on n wires
  inputs_set = drop-set-lt (input_wire n) wires (signal_wire + x) v (omega arith)

  pub wires_set : v < 2 → IsWires n m (set wires (signal_wire + x) v)
  wires_set small =
      record {
        size = length-set wires (signal_wire + x) v ∙ w.size;
        low = get_or-set_other wires (signal_wire + x) 0 v 0 (λ e. omega arith) ∙ w.low;
        high = get_or-set_other wires (signal_wire + x) 1 v 0 (λ e. omega arith) ∙ w.high;
        bits = λ c. at c (ℕ_discrete c (signal_wire + x));
      }
    where
      at : (c : ℕ) → Dec (c ≡ signal_wire + x) → get_or (set wires (signal_wire + x) v) c 0 < 2
      at c (yes e) = rw (e, get_or-set_same wires (signal_wire + x) v 0 (omega (arith, w.size))) small
      at c (no d) = rw (get_or-set_other wires (signal_wire + x) c v 0 d) (w.bits c)

-- wires are those of the value table and the inputs on them
pub wires_are : {n m : ℕ} (wires : List ℕ) → IsWires n m wires → wires ≡ wires_of (inputs_on n wires) (values_on n wires)
wires_are [] w = absurd (omega (arith, w.size))
wires_are (a ∷ []) w = absurd (omega (arith, w.size))
wires_are {n} (a ∷ b ∷ rest) w =
    ap₂ (λ (x y : ℕ). x ∷ y ∷ rest) w.low w.high
    ∙ ap (λ (l : List ℕ). 0 ∷ 1 ∷ l) (sym (take-append-drop (signal_count n) rest))
    ∙ ap (λ (l : List ℕ). 0 ∷ 1 ∷ (take (signal_count n) rest ++ l)) (drop-drop (signal_count n) signal_wire (a ∷ b ∷ rest))

-- the wires of a value table and of inputs, all bits
module _ (n m : ℕ) (inputs values : List ℕ) (i : length inputs ≡ m) (v : length values ≡ signal_count n) where
  pub wires_of_lem : ((c : ℕ) → get_or inputs c 0 < 2) → ((c : ℕ) → get_or values c 0 < 2) → IsWires n m (wires_of inputs values)
  wires_of_lem a b = record { size = omega (arith, length-append values inputs); low = refl; high = refl; bits = bits }
    where
      rest : (c : ℕ) → Dec (c < length values) → get_or (values ++ inputs) c 0 < 2
      rest c (yes h) = rw (get_or-append values inputs 0 c h) (b c)
      rest c (no h) =
          let e : length values + (c - length values) ≡ c = omega arith in
          rw e at (rw (← get_or-append-add values inputs (c - length values) 0) at (a (c - length values)))

      bits : (c : ℕ) → get_or (wires_of inputs values) c 0 < 2
      bits zero = omega arith
      bits (suc zero) = omega arith
      bits (suc (suc c)) = rest c (dec_lt c (length values))

  pub on_inputs : inputs_on n (wires_of inputs values) ≡ inputs
  on_inputs = sym (drop-drop (signal_count n) signal_wire (wires_of inputs values)) ∙ drop_at values inputs (signal_count n) v

  pub on_values : values_on n (wires_of inputs values) ≡ values
  on_values = take_at values inputs (signal_count n) v
