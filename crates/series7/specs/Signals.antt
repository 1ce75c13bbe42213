-- The 32 signals of a slice of the 7 series as gates: what each reads directly, and its rule. n and m are the file's slice count and outside
-- inputs, s is the slice's number, body the body of its record, k a signal of the slice, l a letter (A to D count 0 to 3).
use Rattle.std.specs.Prelude.{ℕ, ◌+◌, ◌-◌, ◌*◌, ◌%◌, Bool, true, false, cond, List, ltb, eqb}
use Rattle.netlist.specs.declared.Source.{Source}
use Rattle.netlist.specs.declared.Source.TheVariants.{Constant}
use Rattle.netlist.specs.declared.Gate.{Gate}
use Rattle.netlist.specs.declared.Gate.TheVariants.{Lut, ZeroOf, Select, Xor, Same, Stored}
use Rattle.slicefile.specs.Format.{mode, carry_data, carry_start, mux_choice, lut_pin, bypass_pin}
use Rattle.sources.specs.Sources.{own, pin_source, o5_signal, carry_signal, sum_signal, second_signal, f7a_signal, f7b_signal, wide_signal}
use Rattle.series7.specs.declared.Pins.{Pins}
use Rattle.series7.specs.declared.Family.{Family}
use Rattle.series7.specs.declared.Family.TheVariants.{O6, O5, Carry, Sum, Wide, Mux, Main, Second}

-- what a MUX output may choose: O5, sum, carry, wide, second flip-flop
abbrev pub mux_signal : ℕ → ℕ → ℕ
mux_signal l choice =
    cond (eqb choice 0) (o5_signal l)
    (cond (eqb choice 1) (sum_signal l)
    (cond (eqb choice 2) (carry_signal l)
    (cond (eqb choice 3) (wide_signal l) (second_signal l))))

-- the six pins of a letter's table
unfoldable pub pins_of : ℕ → ℕ → List ℕ → ℕ → Pins
pins_of n m body l =
    record {
      p1 = pin_source n m body (lut_pin l 0);
      p2 = pin_source n m body (lut_pin l 1);
      p3 = pin_source n m body (lut_pin l 2);
      p4 = pin_source n m body (lut_pin l 3);
      p5 = pin_source n m body (lut_pin l 4);
      p6 = pin_source n m body (lut_pin l 5);
    }

-- signals 0-3. "Logic and memory: the contents bit at the number on pins 6..1"; "shift: the bit at pins 6..2, pin 2 lowest; pin 1 isn't read"
abbrev pub o6_gate : Bool → ℕ → Pins → Gate
o6_gate false t p = Lut t p.p1 p.p2 p.p3 p.p4 p.p5 p.p6
o6_gate true t p = Lut t p.p2 p.p3 p.p4 p.p5 p.p6 (Constant false)

-- signals 4-7. "Logic and memory: the bit at pins 5..1"; "shift: 0"
abbrev pub o5_gate : Bool → ℕ → Pins → Gate
o5_gate false t p = Lut t p.p1 p.p2 p.p3 p.p4 p.p5 (Constant false)
o5_gate true t p = ZeroOf t

-- signal 19, MC31. "Bit 31 of table A if A is in shift mode, else 0"
abbrev pub mc31_gate : Bool → ℕ → Gate
mc31_gate false t = ZeroOf t
mc31_gate true t = Lut t (Constant true) (Constant true) (Constant true) (Constant true) (Constant true) (Constant false)

-- the carry start: zero, one, pin AX, the D carry of slice s-1
unfoldable pub start_source : ℕ → ℕ → Source → Source
start_source choice s ax =
    cond (eqb choice 0) (Constant false)
    (cond (eqb choice 1) (Constant true)
    (cond (eqb choice 2) ax (own (s - 1) (carry_signal 3))))

-- the carry coming into a letter: the carry start into A, "into B, C, D the carry of the letter before"
unfoldable pub carry_in : ℕ → ℕ → ℕ → List ℕ → ℕ → Source
carry_in n m s body l = cond (eqb l 0) (start_source (carry_start body) s (pin_source n m body (bypass_pin 0))) (own s (7 + l))

-- "the carry data": O5 or the bypass pin
unfoldable pub carry_source : ℕ → ℕ → ℕ → List ℕ → ℕ → Source
carry_source n m s body l = cond (eqb (carry_data body l) 0) (own s (o5_signal l)) (pin_source n m body (bypass_pin l))

-- signals 16-18, a multiplexer by a bypass pin: "AX 1 gives A's O6, 0 gives B's"
abbrev pub by_bypass : ℕ → ℕ → ℕ → List ℕ → ℕ → ℕ → ℕ → Gate
by_bypass n m s body l one other = Select (pin_source n m body (bypass_pin l)) (own s one) (own s other)

-- signals 16-19: F7A by AX, F7B by CX, F8 by BX, MC31
unfoldable pub wide_gate : ℕ → ℕ → ℕ → List ℕ → ℕ → Gate
wide_gate n m s body i =
    cond (eqb i 0) (by_bypass n m s body 0 0 1)
    (cond (eqb i 1) (by_bypass n m s body 2 2 3)
    (cond (eqb i 2) (by_bypass n m s body 1 f7a_signal f7b_signal)
    (mc31_gate (eqb (mode body 0) 2) (4 * s))))

-- the family of signal k of a slice, four signals each
abbrev pub family_of : ℕ → Family
family_of k =
    cond (ltb k 4) O6
    (cond (ltb k 8) O5
    (cond (ltb k 12) Carry
    (cond (ltb k 16) Sum
    (cond (ltb k 20) Wide
    (cond (ltb k 24) Mux (cond (ltb k 28) Main Second))))))

-- the gate of a letter's signal in a family
unfoldable pub family_gate : ℕ → ℕ → ℕ → List ℕ → Family → ℕ → Gate
family_gate n m s body O6 l = o6_gate (eqb (mode body l) 2) (4 * s + l) (pins_of n m body l)
family_gate n m s body O5 l = o5_gate (eqb (mode body l) 2) (4 * s + l) (pins_of n m body l)
family_gate n m s body Carry l = Select (own s l) (carry_in n m s body l) (carry_source n m s body l)
family_gate n m s body Sum l = Xor (own s l) (carry_in n m s body l)
family_gate n m s body Wide l = wide_gate n m s body l
family_gate n m s body Mux l = Same (own s (mux_signal l (mux_choice body l)))
family_gate n m s body Main l = Stored (8 * s + l)
family_gate n m s body Second l = Stored (8 * s + 4 + l)

-- the gate of signal 32s+k
unfoldable pub slice_gate : ℕ → ℕ → ℕ → List ℕ → ℕ → Gate
slice_gate n m s body k = family_gate n m s body (family_of k) (k % 4)
