-- Every rule gives a bit, so settled and edited tables are bytes 0 and 1. Bits of words. Assumes nothing.
use mathlib.Core.Path.{◌≡◌, sym, ap, ◌∙◌}
use mathlib.Core.Bool.{Bool, true, false}
use mathlib.Core.List.{List}
use Prim.Native.Nat.{ℕ, zero, suc, ◌*◌, ◌%◌, ◌^◌, ◌≤◌, ◌<◌}
use native.Mathlib.Nat.{zero-div, zero-mod, one-mul}
use native.Mathlib.Omega.{arith}
use lib.ListN.{length, get_or, get_or-eq_default}
use lib.Pow.{shl_exact}
use Rattle.netlist.specs.declared.Source.{Source}
use Rattle.netlist.specs.declared.Source.TheVariants.{Constant, Input, Signal}
use Rattle.netlist.specs.declared.Gate.{Gate}
use Rattle.netlist.specs.declared.Gate.TheVariants.{Lut, ZeroOf, Select, Xor, Same, Stored}
use Rattle.netlist.specs.Rule.{Env, bit, bit_at, choose, value_of, apply_gate, rule_of}
use Rattle.netlist.specs.Graph.{Ordered, Affected}
use Rattle.netlist.specs.Settle.{reads_in, Settled, Edited}
use Rattle.netlist.proofs.Editing.{affected?}

bit_small : (b : Bool) → bit b < 2
bit_small true = omega arith
bit_small false = omega arith

choose_small : (k one none : ℕ) → one < 2 → none < 2 → choose k one none < 2
choose_small zero one none h l = l
choose_small (suc k) one none h l = h

-- past the end of words every bit is 0
pub past_end : (words : List ℕ) (i k : ℕ) → length words ≤ i → 0 ≡ bit_at (get_or words i 0) k
past_end words i k h = rw (get_or-eq_default words 0 h) (sym (ap (λ (n : ℕ). n % 2) (zero-div _) ∙ zero-mod 2))

-- 1 shifted to the left in a word
pub power : (i : ℕ) → i < 64 → (1 * 2 ^ i) % 2 ^ 64 ≡ 2 ^ i
power i h = shl_exact 1 i 64 (omega arith) (omega arith) ∙ one-mul (2 ^ i)

-- the bit on a source is one
pub value_bit : (inputs values : List ℕ) (s : Source) → value_of inputs values s < 2
unfolding value_of
value_bit inputs values (Constant b) = bit_small b
value_bit inputs values (Input j) = omega arith
value_bit inputs values (Signal y) = omega arith

pub rule_bit : (e : Env) (values : List ℕ) (gate : Gate) → rule_of e values gate < 2
unfolding rule_of apply_gate
rule_bit e values (Lut t p1 p2 p3 p4 p5 p6) = omega arith
rule_bit e values (ZeroOf t) = omega arith
rule_bit e values (Select s one none) = choose_small (value_of e.inputs values s) _ _ (value_bit e.inputs values one) (value_bit e.inputs values none)
rule_bit e values (Xor a b) = omega arith
rule_bit e values (Same a) = value_bit e.inputs values a
rule_bit e values (Stored k) = omega arith

-- a settled table holds bits
pub settled_bits : (g : ℕ → Gate) {N : ℕ} {e : Env} {table : List ℕ} → Settled g N e table → (x : ℕ) → x < N → get_or table x 0 < 2
settled_bits g {e = e} {table = t} s x h = rw (s.each x h) (rule_bit e t (g x))

-- and so does what an edit leaves of a table of bits
pub edited_bits : (g : ℕ → Gate) {N : ℕ} {order : List ℕ} → Ordered (reads_in g) N order → {e : Env} {touches : ℕ → Bool} {old new : List ℕ} → Edited g N e touches old new
    → ((x : ℕ) → x < N → get_or old x 0 < 2) → (x : ℕ) → x < N → get_or new x 0 < 2
edited_bits g {N} o {e} {touches} {old} {new} d bits x h = at (affected? g o touches x h)
  where
    at : Dec (Affected (reads_in g) touches x) → get_or new x 0 < 2
    at (yes a) = rw (d.recomputed x h a) (rule_bit e new (g x))
    at (no n) = rw (d.kept x h n) (bits x h)
