-- What is put on wires, and what that leaves of them. Assumes nothing.
use mathlib.Core.Path.{◌≡◌, refl, sym, ◌∙◌, ap}
use mathlib.Core.List.{List}
use mathlib.Core.Logic.{inl, inr}
use Prim.Native.Nat.{ℕ, ◌+◌, ◌*◌, ◌-◌, ◌/◌, ◌%◌, ◌≤◌, ◌<◌}
use native.Mathlib.Decide.{ℕ_discrete, dec_lt}
use native.Mathlib.Omega.{arith}
use lib.ListN.{length, get_or, set, drop, length-set, length-drop}
use lib.Seq.{get_or-set_same, get_or-set_other, get_or-take, get_or-drop, ext_get_or, length-take-le, set_out}
use Rattle.lent.specs.Put.{Put, PutAll}
use Rattle.netlist.specs.Rule.{bit_at}
use Rattle.netlist.specs.Table.{slice_signals, first_flop, signal_count, signal_wire, input_wire, wire_count, flop_signal}
use Rattle.netlist.specs.Wires.{IsWires, values_on, inputs_on}
use Rattle.evaluation.specs.Numbers.{Bits}
use Rattle.walks.specs.Walks.{StillWires, FlopsOn}

-- bits put over wires leave bits
put_bits : {f : ℕ → ℕ} {at k : ℕ} {old new : List ℕ} → Put f at k old new → ((i : ℕ) → i < k → f i < 2) → Bits old → Bits new
put_bits {f} {at} {k} {old} {new} p small bits c = by (dec_lt c at) (dec_lt c (at + k))
  where
    by : Dec (c < at) → Dec (c < at + k) → get_or new c 0 < 2
    by (yes l) d = rw (p.kept c (inl l)) (bits c)
    by (no l) (no h) = rw (p.kept c (inr (omega arith))) (bits c)
    by (no l) (yes h) =
        let e : at + (c - at) ≡ c = omega arith in
        rw e at (rw (← p.put (c - at) (omega arith)) at (small (c - at) (omega arith)))

-- and so does a bit stored among bits
pub bits_set : (l : List ℕ) (i v : ℕ) → v < 2 → Bits l → Bits (set l i v)
bits_set l i v small b c = by (ℕ_discrete c i) (dec_lt i (length l))
  where
    by : Dec (c ≡ i) → Dec (i < length l) → get_or (set l i v) c 0 < 2
    by (yes e) (yes h) = rw (e, get_or-set_same l i v 0 h) small
    by (yes e) (no h) = rw (set_out l i v (omega arith)) (b c)
    by (no d) h = rw (get_or-set_other l i c v 0 d) (b c)

-- the elements of the value table and of the inputs on the wires
pub value_on : (n : ℕ) (wires : List ℕ) (x : ℕ) → x < signal_count n → get_or (values_on n wires) x 0 ≡ get_or wires (signal_wire + x) 0
value_on n wires x h = get_or-take (signal_count n) (drop signal_wire wires) x 0 h ∙ get_or-drop signal_wire wires x 0

pub values_length : {n m : ℕ} {wires : List ℕ} → IsWires n m wires → length (values_on n wires) ≡ signal_count n
values_length {n} {m} {wires} w = length-take-le (signal_count n) (drop signal_wire wires) (omega (arith, length-drop signal_wire wires, w.size))

module _ {n m : ℕ} {f : ℕ → ℕ} {at k : ℕ} {old new : List ℕ} (w : IsWires n m old) (p : Put f at k old new) (small : (i : ℕ) → i < k → f i < 2) (low : signal_wire ≤ at) (high : at + k ≤ input_wire n) where
  -- bits put on wires of signals
  pub put_still : StillWires n m old new
  put_still =
      record {
        wires = record {
          size = p.long ∙ w.size;
          low = p.kept 0 (inl (omega arith)) ∙ w.low;
          high = p.kept 1 (inl (omega arith)) ∙ w.high;
          bits = put_bits p small w.bits;
        };
        inputs =
            ext_get_or 0 (inputs_on n new) (inputs_on n old) (length-drop (input_wire n) new ∙ ap (λ (l : ℕ). l - input_wire n) p.long ∙ sym (length-drop (input_wire n) old))
            (λ i h. get_or-drop (input_wire n) new i 0 ∙ p.kept (input_wire n + i) (inr (omega arith)) ∙ sym (get_or-drop (input_wire n) old i 0));
      }

-- the two constants stored, and the inputs put behind the signals
pub laid_inputs :
    (n : ℕ) (inputs old new : List ℕ) → length old ≡ wire_count n (length inputs) → Bits inputs → Bits old
    → PutAll inputs (input_wire n) (set (set old 0 0) 1 1) new
    → IsWires n (length inputs) new × (inputs_on n new ≡ inputs)
laid_inputs n inputs old new size bits low p = (
  record {
    size = p.long ∙ length-set (set old 0 0) 1 1 ∙ length-set old 0 0 ∙ size;
    low = p.kept 0 (inl (omega arith)) ∙ get_or-set_other (set old 0 0) 1 0 1 0 (λ e. omega arith) ∙ get_or-set_same old 0 0 0 (omega arith);
    high = p.kept 1 (inl (omega arith)) ∙ get_or-set_same (set old 0 0) 1 1 0 (omega (arith, length-set old 0 0));
    bits = put_bits p (λ i h. bits i) (bits_set (set old 0 0) 1 1 (omega arith) (bits_set old 0 0 (omega arith) low));
  },
  ext_get_or 0 (inputs_on n new) inputs
      (length-drop (input_wire n) new ∙ omega (arith, p.long, length-set (set old 0 0) 1 1, length-set old 0 0))
      (λ i h. get_or-drop (input_wire n) new i 0 ∙ p.put i (omega (arith, length-drop (input_wire n) new, p.long, length-set (set old 0 0) 1 1, length-set old 0 0))),
)

-- a value table put on the signals' wires
pub laid_values :
    {n m : ℕ} {values old new : List ℕ} → IsWires n m old → length values ≡ signal_count n → Bits values → PutAll values signal_wire old new
    → StillWires n m old new × (values_on n new ≡ values)
laid_values {n} {m} {values} {old} {new} w size bits p = (
  still,
  ext_get_or 0 (values_on n new) values (values_length still.wires ∙ sym size)
      (λ x h. let l : x < signal_count n = omega (arith, values_length still.wires) in value_on n new x l ∙ p.put x (omega arith)),
)
  where
    still : StillWires n m old new
    still = put_still w p (λ i h. bits i) (omega arith) (omega arith)

pub still_same : {n m : ℕ} {wires : List ℕ} → IsWires n m wires → StillWires n m wires wires
still_same w = record { wires = w; inputs = refl }

-- the bits are on the wires as they are now
pub flops_now : {n m : ℕ} {flops : List ℕ} {s : ℕ} {old new : List ℕ} → FlopsOn n m flops s old new → FlopsOn n m flops s new new
flops_now on = record { still = still_same on.still.wires; bits = on.bits }

-- the bits of one slice more
pub flops_next :
    {n m : ℕ} (flops : List ℕ) {old now new : List ℕ} (s : ℕ) → s < n → FlopsOn n m flops s old now
    → Put (bit_at (get_or flops s 0)) (signal_wire + slice_signals * s + first_flop) 8 now new → FlopsOn n m flops (s + 1) old new
flops_next {n} {m} flops {old} {now} {new} s l before p =
    record {
      still = record { wires = still.wires; inputs = still.inputs ∙ before.still.inputs };
      bits = λ q h. by q h (dec_lt q (8 * s));
    }
  where
    still : StillWires n m now new
    still = put_still before.still.wires p (λ i h. omega arith) (omega arith) (omega arith)

    by : (q : ℕ) → q < 8 * (s + 1) → Dec (q < 8 * s) → get_or (values_on n new) (flop_signal q) 0 ≡ bit_at (get_or flops (q / 8) 0) (q % 8)
    by q h (yes b) =
        value_on n new (flop_signal q) (omega arith)
        ∙ p.kept (signal_wire + flop_signal q) (inl (omega arith))
        ∙ sym (value_on n now (flop_signal q) (omega arith))
        ∙ before.bits q b
    by q h (no b) =
        let slice : q / 8 ≡ s = omega arith in
        let wire : signal_wire + flop_signal q ≡ signal_wire + slice_signals * s + first_flop + q % 8 = omega arith in
        value_on n new (flop_signal q) (omega arith) ∙ rw (wire, slice) (p.put (q % 8) (omega arith))
