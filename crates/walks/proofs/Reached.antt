-- The test whether a change reaches a gate, by marks of inputs, tables and signals. Assumes nothing.
use mathlib.Core.Path.{◌≡◌, refl, sym, ◌∙◌, ap, ap₂}
use mathlib.Core.Bool.{Bool, true, false, ◌&&◌, ◌||◌, or_comm, or_assoc, or-false}
use mathlib.Core.List.{List, [], ◌∷◌}
use Prim.Native.Nat.{ℕ, ◌-◌, ◌%◌, ◌≤◌, ◌<◌}
use native.Mathlib.Decide.{ℕ_discrete, dec_lt}
use native.Mathlib.Omega.{arith}
use borrow.Author.Tests.{eq-eqb, ne_eqb, lt-ltb, le-ltb, lt-leb, le-leb}
use lib.Dec.{eqb, ltb, leb}
use lib.ListN.{length, set, replicate}
use lib.Seq.{get_or-set_same, get_or-set_other}
use Rattle.netlist.specs.declared.Source.{Source}
use Rattle.netlist.specs.declared.Source.TheVariants.{Constant, Input, Signal}
use Rattle.netlist.specs.declared.Gate.{Gate}
use Rattle.netlist.specs.declared.Gate.TheVariants.{Lut, ZeroOf, Select, Xor, Same, Stored}
use Rattle.netlist.specs.Rule.{sources_of, signals_in, reads_of, is_input, any_source, touches_input, touches_table}
use Rattle.netlist.specs.Settle.{is_marked, any_marked}
use Rattle.netlist.specs.Table.{signal_limit, signal_count, signal_wire, input_wire, source_of}
use Rattle.netlist.proofs.Zeros.{zeros_at}
use Rattle.walks.specs.Marked.{source_reached, table_marked, touches_marked, gate_reached}

-- an "or" of what its two tests say
or_both : {a b a' b' : Bool} → a ≡ a' → b ≡ b' → (a || b) ≡ (a' || b')
or_both ea eb = ap₂ (λ (x y : Bool). x || y) ea eb

or_middle : (a b c : Bool) → (a || (b || c)) ≡ (b || (a || c))
or_middle true true c = refl
or_middle true false c = refl
or_middle false b c = refl

or_swap : (a b c d : Bool) → ((a || b) || (c || d)) ≡ ((a || c) || (b || d))
or_swap true b c d = refl
or_swap false b c d = or_middle b c d

-- the tests of a number, by its place among the wires
pub number_tests :
    (n : ℕ) (inputs signals : List ℕ) (c : ℕ) → signal_count n ≤ signal_limit
    → ((leb signal_wire c && ltb c (input_wire n) && is_marked signals ((c - signal_wire) % signal_limit)) || (leb (input_wire n) c && is_marked inputs (c - input_wire n)))
    ≡ source_reached inputs signals (source_of n c)
unfolding source_of
number_tests n inputs signals c few = by (dec_lt c signal_wire) (dec_lt c (input_wire n))
  where
    by : Dec (c < signal_wire) → Dec (c < input_wire n)
        → ((leb signal_wire c && ltb c (input_wire n) && is_marked signals ((c - signal_wire) % signal_limit)) || (leb (input_wire n) c && is_marked inputs (c - input_wire n)))
        ≡ source_reached inputs signals (source_of n c)
    by (yes l) d = rw (lt-ltb c signal_wire l, lt-leb signal_wire c l, lt-leb (input_wire n) c (omega arith))
    by (no l) (yes h) =
        let e : (c - signal_wire) % signal_limit ≡ c - signal_wire = omega arith in
        rw (le-ltb c signal_wire (omega arith), lt-ltb c (input_wire n) h, le-leb signal_wire c (omega arith), lt-leb (input_wire n) c h, e) (or-false (is_marked signals (c - signal_wire)))
    by (no l) (no h) =
        rw (le-ltb c signal_wire (omega arith), le-ltb c (input_wire n) (omega arith), le-leb signal_wire c (omega arith), le-leb (input_wire n) c (omega arith))

-- a source is reached by the inputs' marks or by the signals' marks
sources_split :
    (inputs signals : List ℕ) (ss : List Source)
    → any_source (source_reached inputs signals) ss ≡ (any_source (source_reached inputs []) ss || any_marked signals (signals_in ss))
unfolding signals_in
sources_split inputs signals [] = refl
sources_split inputs signals (Constant b ∷ ss) = sources_split inputs signals ss
sources_split inputs signals (Input j ∷ ss) =
    ap (λ (b : Bool). is_marked inputs j || b) (sources_split inputs signals ss)
    ∙ sym (or_assoc (is_marked inputs j) (any_source (source_reached inputs []) ss) (any_marked signals (signals_in ss)))
sources_split inputs signals (Signal y ∷ ss) =
    ap (λ (b : Bool). is_marked signals y || b) (sources_split inputs signals ss)
    ∙ or_middle (is_marked signals y) (any_source (source_reached inputs []) ss) (any_marked signals (signals_in ss))

or_last : (a b c : Bool) → ((a || b) || c) ≡ ((a || c) || b)
or_last true b c = refl
or_last false b c = or_comm b c

-- what reaches the gate's sources or its table touches the gate or is read by it
pub reached_by_sources :
    (inputs tables signals : List ℕ) (gate : Gate)
    → (any_source (source_reached inputs signals) (sources_of gate) || table_marked tables gate) ≡ gate_reached inputs tables signals gate
unfolding reads_of touches_marked
reached_by_sources inputs tables signals gate =
    ap (λ (b : Bool). b || table_marked tables gate) (sources_split inputs signals (sources_of gate))
    ∙ or_last (any_source (source_reached inputs []) (sources_of gate)) (any_marked signals (signals_in (sources_of gate))) (table_marked tables gate)

-- no mark is set among zeros
pub no_mark : (m k : ℕ) → is_marked (replicate m 0) k ≡ false
no_mark m k = ap (λ (v : ℕ). ltb 0 v) (zeros_at m k)

inputs_none : (m : ℕ) (ss : List Source) → any_source (source_reached (replicate m 0) []) ss ≡ false
inputs_none m [] = refl
inputs_none m (Constant b ∷ ss) = inputs_none m ss
inputs_none m (Input k ∷ ss) = or_both (no_mark m k) (inputs_none m ss)
inputs_none m (Signal y ∷ ss) = inputs_none m ss

tables_none : (t : ℕ) (gate : Gate) → table_marked (replicate t 0) gate ≡ false
tables_none t (Lut v p1 p2 p3 p4 p5 p6) = no_mark t v
tables_none t (ZeroOf v) = no_mark t v
tables_none t (Select s one none) = refl
tables_none t (Xor a b) = refl
tables_none t (Same a) = refl
tables_none t (Stored k) = refl

-- marking nothing is no change
pub marks_none : (m t : ℕ) (gate : Gate) → touches_marked (replicate m 0) (replicate t 0) gate ≡ false
unfolding touches_marked
marks_none m t gate = or_both (inputs_none m (sources_of gate)) (tables_none t gate)

-- one mark more
mark_more : (marks : List ℕ) (j : ℕ) → j < length marks → (k : ℕ) → is_marked (set marks j 1) k ≡ (eqb k j || is_marked marks k)
mark_more marks j h k = go (ℕ_discrete k j)
  where
    go : Dec (k ≡ j) → is_marked (set marks j 1) k ≡ (eqb k j || is_marked marks k)
    go (yes e) = rw (e, get_or-set_same marks j 1 0 h, eq-eqb j j refl)
    go (no n) = rw (get_or-set_other marks j k 1 0 n, ne_eqb k j n)

module _ (marks : List ℕ) (j : ℕ) (h : j < length marks) where
  inputs_more :
      (ss : List Source) → any_source (source_reached (set marks j 1) []) ss ≡ (any_source (is_input j) ss || any_source (source_reached marks []) ss)
  inputs_more [] = refl
  inputs_more (Constant b ∷ ss) = inputs_more ss
  inputs_more (Input k ∷ ss) = or_both (mark_more marks j h k) (inputs_more ss) ∙ or_swap (eqb k j) (is_marked marks k) _ _
  inputs_more (Signal y ∷ ss) = inputs_more ss

  tables_more : (gate : Gate) → table_marked (set marks j 1) gate ≡ (touches_table j gate || table_marked marks gate)
  tables_more (Lut v p1 p2 p3 p4 p5 p6) = mark_more marks j h v
  tables_more (ZeroOf v) = mark_more marks j h v
  tables_more (Select s one none) = refl
  tables_more (Xor a b) = refl
  tables_more (Same a) = refl
  tables_more (Stored k) = refl

-- marking an input adds the change of that input
pub mark_input :
    (changed edited : List ℕ) (j : ℕ) → j < length changed → (gate : Gate)
    → touches_marked (set changed j 1) edited gate ≡ (touches_input j gate || touches_marked changed edited gate)
unfolding touches_marked touches_input
mark_input changed edited j h gate =
    ap (λ (b : Bool). b || table_marked edited gate) (inputs_more changed j h (sources_of gate))
    ∙ or_assoc (any_source (is_input j) (sources_of gate)) (any_source (source_reached changed []) (sources_of gate)) (table_marked edited gate)

-- marking a table adds the change of its contents
pub mark_table :
    (changed edited : List ℕ) (t : ℕ) → t < length edited → (gate : Gate)
    → touches_marked changed (set edited t 1) gate ≡ (touches_table t gate || touches_marked changed edited gate)
unfolding touches_marked
mark_table changed edited t h gate =
    ap (λ (b : Bool). any_source (source_reached changed []) (sources_of gate) || b) (tables_more edited t h gate)
    ∙ or_middle (any_source (source_reached changed []) (sources_of gate)) (touches_table t gate) (table_marked edited gate)
