-- What a gate's rule depends on: the bytes of the signals it reads, the inputs and the contents it touches. Assumes nothing.
use mathlib.Core.Path.{◌≡◌, refl, sym, ◌∙◌, ap, ap₂}
use mathlib.Core.Bool.{Bool, true, false, ◌||◌}
use mathlib.Core.List.{List, [], ◌∷◌, map, Memᴰ}
use Prim.Native.Nat.{ℕ, ◌%◌}
use borrow.Author.Tests.{eqb-false}
use lib.Dec.{eqb}
use lib.ListN.{get_or, set}
use lib.Seq.{get_or-set_other}
use Rattle.netlist.specs.declared.Source.{Source}
use Rattle.netlist.specs.declared.Source.TheVariants.{Constant, Input, Signal}
use Rattle.netlist.specs.declared.Gate.{Gate}
use Rattle.netlist.specs.declared.Gate.TheVariants.{Lut, ZeroOf, Select, Xor, Same, Stored}
use Rattle.netlist.specs.Rule.{Env, bit, bit_at, number, value_of, apply_gate, rule_of, sources_of, signals_in, reads_of, is_input, any_source, touches_input, touches_table, set_input, set_contents}
use Rattle.netlist.specs.Changes.{Change, OfInput, OfContents, changed, changed_by, touches, touches_any}

-- the bits on sources, from two tables that agree on the signals among them
values_agree :
    (inputs t t' : List ℕ) (ss : List Source) → ((y : ℕ) → Memᴰ y (signals_in ss) → get_or t y 0 ≡ get_or t' y 0)
    → map (value_of inputs t) ss ≡ map (value_of inputs t') ss
unfolding value_of signals_in
values_agree i t t' [] a = refl
values_agree i t t' (Constant b ∷ ss) a = ap (λ (l : List ℕ). bit b ∷ l) (values_agree i t t' ss a)
values_agree i t t' (Input j ∷ ss) a = ap (λ (l : List ℕ). get_or i j 0 % 2 ∷ l) (values_agree i t t' ss a)
values_agree i t t' (Signal y ∷ ss) a =
    ap₂ (λ (n : ℕ) (l : List ℕ). n % 2 ∷ l) (a y (Memᴰ.head refl)) (values_agree i t t' ss (λ z m. a z (Memᴰ.tail m)))

-- a gate goes by the bits on its sources
gate_agrees :
    (c f : List ℕ) (v v' : Source → ℕ) (gate : Gate) → map v (sources_of gate) ≡ map v' (sources_of gate)
    → apply_gate c f v gate ≡ apply_gate c f v' gate
unfolding apply_gate sources_of
gate_agrees c f v v' (Lut t p1 p2 p3 p4 p5 p6) e = ap (λ (l : List ℕ). bit_at (get_or c t 0) (number l)) e
gate_agrees c f v v' (ZeroOf t) e = refl
gate_agrees c f v v' (Select s one none) e = cc
gate_agrees c f v v' (Xor a b) e = cc
gate_agrees c f v v' (Same a) e = cc
gate_agrees c f v v' (Stored k) e = refl

-- a rule depends only on the bytes at its reads
pub rule_local :
    (e : Env) (t t' : List ℕ) (gate : Gate) → ((y : ℕ) → Memᴰ y (reads_of gate) → get_or t y 0 ≡ get_or t' y 0)
    → rule_of e t gate ≡ rule_of e t' gate
unfolding rule_of reads_of
rule_local e t t' gate a =
    gate_agrees e.contents e.flops (value_of e.inputs t) (value_of e.inputs t') gate (values_agree e.inputs t t' (sources_of gate) a)

or_false_left : (a b : Bool) → (a || b) ≡ false → a ≡ false
or_false_left true b e = e
or_false_left false b e = refl

or_false_right : (a b : Bool) → (a || b) ≡ false → b ≡ false
or_false_right true true e = e
or_false_right true false e = refl
or_false_right false b e = e

inputs_agree :
    (i t : List ℕ) (j b : ℕ) (ss : List Source) → any_source (is_input j) ss ≡ false
    → map (value_of i t) ss ≡ map (value_of (set i j b) t) ss
unfolding value_of
inputs_agree i t j b [] n = refl
inputs_agree i t j b (Constant c ∷ ss) n = ap (λ (l : List ℕ). bit c ∷ l) (inputs_agree i t j b ss n)
inputs_agree i t j b (Input k ∷ ss) n =
    ap₂ (λ (m : ℕ) (l : List ℕ). m % 2 ∷ l) (sym (get_or-set_other i j k b 0 (eqb-false k j (or_false_left (eqb k j) (any_source (is_input j) ss) n))))
    (inputs_agree i t j b ss (or_false_right (eqb k j) (any_source (is_input j) ss) n))
inputs_agree i t j b (Signal y ∷ ss) n = ap (λ (l : List ℕ). get_or t y 0 % 2 ∷ l) (inputs_agree i t j b ss n)

-- a rule that does not touch an input is the same before and after the input changes
rule_input :
    (e : Env) (j b : ℕ) (t : List ℕ) (gate : Gate) → touches_input j gate ≡ false → rule_of e t gate ≡ rule_of (set_input e j b) t gate
unfolding rule_of touches_input
rule_input e j b t gate n =
    gate_agrees e.contents e.flops (value_of e.inputs t) (value_of (set e.inputs j b) t) gate
    (inputs_agree e.inputs t j b (sources_of gate) n)

contents_agree :
    (c f : List ℕ) (v : Source → ℕ) (t w : ℕ) (gate : Gate) → touches_table t gate ≡ false
    → apply_gate c f v gate ≡ apply_gate (set c t w) f v gate
unfolding apply_gate
contents_agree c f v t w (Lut u p1 p2 p3 p4 p5 p6) n =
    ap (λ (m : ℕ). bit_at m (number (map v (p1 ∷ p2 ∷ p3 ∷ p4 ∷ p5 ∷ p6 ∷ [])))) (sym (get_or-set_other c t u w 0 (eqb-false u t n)))
contents_agree c f v t w (ZeroOf u) n = refl
contents_agree c f v t w (Select s one none) n = refl
contents_agree c f v t w (Xor a b) n = refl
contents_agree c f v t w (Same a) n = refl
contents_agree c f v t w (Stored k) n = refl

-- nor does a rule that does not touch a table change with its contents
rule_contents :
    (e : Env) (u w : ℕ) (t : List ℕ) (gate : Gate) → touches_table u gate ≡ false → rule_of e t gate ≡ rule_of (set_contents e u w) t gate
unfolding rule_of
rule_contents e u w t gate n = contents_agree e.contents e.flops (value_of e.inputs t) u w gate n

-- nor does a rule that touches none of several changes change with them
rule_change : (e : Env) (c : Change) (t : List ℕ) (gate : Gate) → touches c gate ≡ false → rule_of e t gate ≡ rule_of (changed e c) t gate
rule_change e (OfInput j b) t gate n = rule_input e j b t gate n
rule_change e (OfContents u w) t gate n = rule_contents e u w t gate n

pub rule_changes :
    (e : Env) (cs : List Change) (t : List ℕ) (gate : Gate) → touches_any cs gate ≡ false → rule_of e t gate ≡ rule_of (changed_by e cs) t gate
rule_changes e [] t gate n = refl
rule_changes e (c ∷ cs) t gate n =
    rule_change e c t gate (or_false_left (touches c gate) (touches_any cs gate) n)
    ∙ rule_changes (changed e c) cs t gate (or_false_right (touches c gate) (touches_any cs gate) n)
