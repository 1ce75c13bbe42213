-- On the numbers of a slice that passes the rules, the edge does what the paper says of the slice. Assumes nothing.
use mathlib.Core.Path.{◌≡◌, refl, ◌∙◌, ap}
use mathlib.Core.Bool.{Bool, true, false, cond, ◌&&◌}
use Rattle.std.specs.Prelude.{Ok}
use mathlib.Core.List.{List, [], ◌∷◌}
use Prim.Native.Nat.{ℕ, zero, suc, ◌+◌, ◌-◌, ◌<◌}
use native.Mathlib.Omega.{arith}
use borrow.Author.Tests.{eq-eqb, lt-ltb}
use lib.Dec.{ltb, eqb, lit<, eqb-suc-zero, eqb-suc-suc}
use lib.ListN.{get_or}
use Rattle.netlist.specs.Rule.{bit_at, number}
use Rattle.netlist.specs.Table.{wire_count, code_of, SourceFits}
use Rattle.netlist.specs.Wires.{IsWires, on_wire}
use Rattle.netlist.proofs.Table.{code_wire}
use Rattle.netlist.specs.declared.Source.{Source}
use Rattle.slicefile.proofs.Tabulate.{tabulate_same}
use Rattle.slicefile.specs.Format.{mode, shift_data, main_input, second_input, set_reset_used, bypass_pin, clock_enable_pin, set_reset_pin, write_enable_pin, lut_pin}
use Rattle.rules.specs.Rules.{body_refusal}
use Rattle.rules.proofs.Letters.{memory_with_d}
use Rattle.sources.specs.Sources.{pin_source, own}
use Rattle.series7.specs.Edge.{main_source, second_source, flop_source, next_bit, next_flops, write_address, written, next_word}
use Rattle.series7.proofs.GateLaws.{either, pin_fits, wide_small}
use Rattle.clocknumbers.specs.Numbers.{enable_place, reset_place, write_place, address_place, flop_place, values_place, edge_length, reset_code, address_code, kind_of, table_kind, write_code, data_code, edge_number, edge_numbers}
use Rattle.clocknumbers.proofs.Table.{numbers_length, number_at}
use Rattle.clockedge.specs.Moves.{EdgeFits, on_edge, address_by, bit_by, flops_by, written_by, word_by}
use Rattle.clockedge.proofs.Byte.{number_on_lem}
use Rattle.clockedge.proofs.Places.{address_at, flop_at, kind_at, data_at}

-- what holds of each of a list, and of what stands past them, holds of whichever is chosen
infixr 5 ◌and◌
data Each {A : Type 0} (P : A → Type 0) : List A → Type 0 where
  end : Each P []
  ◌and◌ : {x : A} {xs : List A} → P x → Each P xs → Each P (x ∷ xs)

chosen : {A : Type 0} (P : A → Type 0) {xs : List A} {z : A} → Each P xs → P z → (i : ℕ) → P (get_or xs i z)
chosen P end past i = past
chosen P (here and rest) past zero = here
chosen P (here and rest) past (suc i) = chosen P rest past i

-- what the flip-flops take is a source of the netlist
module _ (n m s : ℕ) (body : List ℕ) (here : s < n) where
  abbrev In : Source → Type 0
  In = SourceFits n m

  own_fits : (k : ℕ) → k < 32 → In (own s k)
  own_fits k h = omega arith

  main_fits : (l : ℕ) → l < 8 → In (main_source n m s body l)
  unfolding main_source
  main_fits l h =
      chosen In
      (own_fits l (omega arith) and own_fits (4 + l) (omega arith) and own_fits (12 + l) (omega arith) and own_fits (8 + l) (omega arith) and own_fits _ (wide_small l) and pin_fits n m s body here (bypass_pin l) and end)
      tt (main_input body l)

  second_fits : (l : ℕ) → l < 8 → In (second_source n m s body l)
  unfolding second_source
  second_fits l h = either In (eqb (second_input body l) 0) (own_fits (4 + l) (omega arith)) (pin_fits n m s body here (bypass_pin l))

  flop_fits : (b : ℕ) → b < 8 → In (flop_source n m s body b)
  flop_fits b h = either In (ltb b 4) (main_fits b h) (second_fits (b - 4) (omega arith))

  abbrev Wire : ℕ → Type 0
  Wire k = k < wire_count n m

  pin_wire : (p : ℕ) → Wire (code_of n (pin_source n m body p))
  pin_wire p = code_wire n m _ (pin_fits n m s body here p)

  none : Wire 0
  none = omega arith

  -- the sources of the slice's edge are wires
  pins_are : (k : ℕ) → k < values_place → Wire (edge_number n m s body k)
  unfolding edge_number reset_code address_code
  pins_are k h =
      either Wire (eqb k enable_place) (pin_wire clock_enable_pin)
      (either Wire (eqb k reset_place) (either Wire (eqb (set_reset_used body) 1) (pin_wire set_reset_pin) none)
      (either Wire (eqb k write_place) (pin_wire write_enable_pin)
      (either Wire (ltb k flop_place) (either Wire (eqb (mode body 3) 1) (pin_wire (lut_pin 3 (k - address_place))) none)
      (rw (lt-ltb k values_place h) (code_wire n m _ (flop_fits (k - flop_place) (omega arith)))))))

  writes_are : (l : ℕ) → Wire (data_code n m body l)
  unfolding write_code
  writes_are l = either Wire (eqb (table_kind body l) 0) none (either Wire (eqb (table_kind body l) 3) none (pin_wire (bypass_pin l)))

  pub edge_fits : {wires : List ℕ} → IsWires n m wires → EdgeFits wires (edge_numbers n m s body)
  edge_fits w =
      record {
        size = numbers_length n m s body;
        pins = λ k h. rw (number_at n m s body k (omega arith)) (omega (arith, w.size, pins_are k h));
        writes = λ l h. rw (data_at n m s body l h) (omega (arith, w.size, writes_are l));
        bits = w.bits;
      }

-- the bits on wires, where the wire of each source of the netlist has the bit that v gives the source
module _ (n m : ℕ) (wires : List ℕ) (v : Source → ℕ) (low : get_or wires 0 0 ≡ 0) (on : (x : Source) → SourceFits n m x → on_wire n wires x ≡ v x) where
  abbrev On : Source → Type 0
  On x = on_wire n wires x ≡ v x

  -- a source that may be left out is the constant 0 there
  maybe : (t : Bool) (x : Source) → On x → eqb (get_or wires (cond t (code_of n x) 0) 0) 1 ≡ (t && eqb (v x) 1)
  maybe true x e = ap (λ (b : ℕ). eqb b 1) e
  maybe false x e = rw low

  -- a word by its table's kind is the word by its mode
  module _ (p : Source) (back : On p) (old cascade a b : ℕ) where
    abbrev Same : ℕ → ℕ → Type 0
    Same x d =
        written_by (kind_of x d) old a (get_or wires (write_code (kind_of x d) (code_of n p)) 0) cascade
        ≡ written x old b (v p) (cond (eqb d 1) cascade (v p))

    by_shift : (k d : ℕ) (t : Bool) → eqb d 1 ≡ t → Same (suc (suc k)) d
    unfolding written_by kind_of write_code
    by_shift k d true e = rw (eqb-suc-zero (suc k), eqb-suc-suc (suc k) 0, eqb-suc-zero k, e)
    by_shift k d false e = rw (eqb-suc-zero (suc k), eqb-suc-suc (suc k) 0, eqb-suc-zero k, e, back)

    by_kind : (x d : ℕ) → (x ≡ 1 → a ≡ b) → Same x d
    unfolding written_by kind_of write_code
    by_kind zero d e = refl
    by_kind (suc zero) d e = rw (back, e refl)
    by_kind (suc (suc k)) d e = by_shift k d (eqb d 1) refl

  module _ (s : ℕ) (body : List ℕ) (here : s < n) where
    pin_on : (p : ℕ) → On (pin_source n m body p)
    pin_on p = on _ (pin_fits n m s body here p)

    abbrev numbers : List ℕ
    numbers = edge_numbers n m s body

    bit_law : (old b : ℕ) → b < 8 → bit_by wires numbers old b ≡ next_bit v n m s body old b
    unfolding bit_by next_bit edge_number reset_code
    bit_law old b h =
        let at : (k : ℕ) → k < edge_length → get_or numbers k 0 ≡ edge_number n m s body k = number_at n m s body in
        rw (at enable_place (lit< tt), at reset_place (lit< tt), at values_place (lit< tt), flop_at n m s body b h, on (flop_source n m s body b) (flop_fits n m s body here b h), maybe (eqb (set_reset_used body) 1) (pin_source n m body set_reset_pin) (pin_on set_reset_pin), pin_on clock_enable_pin)

    -- the flip-flop byte after the edge
    pub flops_law : (old : ℕ) → flops_by wires numbers old ≡ next_flops v n m s body old
    unfolding flops_by next_flops
    flops_law old = ap number (tabulate_same 8 (bit_by wires numbers old) (next_bit v n m s body old) (bit_law old))

    address_law : mode body 3 ≡ 1 → address_by wires numbers ≡ write_address v n m body
    unfolding write_address address_code
    address_law e =
        number_on_lem wires numbers address_place 6
        ∙ ap number (tabulate_same 6 _ _ (λ i h. rw (address_at n m s body i h, eq-eqb (mode body 3) 1 e, pin_on (lut_pin 3 i))))

    we_law : on_edge wires numbers write_place ≡ v (pin_source n m body write_enable_pin)
    unfolding edge_number
    we_law = ap (λ (k : ℕ). get_or wires k 0) (number_at n m s body write_place (lit< tt)) ∙ pin_on write_enable_pin

    -- a letter's word after the edge
    pub word_law : body_refusal n m s body ≡ Ok tt → (l old next : ℕ) → l < 4 → word_by wires numbers l old next ≡ next_word v n m body l old next
    unfolding word_by next_word
    word_law ok l old next h =
        let p = pin_source n m body (bypass_pin l) in
        let address : mode body l ≡ 1 → address_by wires numbers ≡ write_address v n m body = λ e. address_law (memory_with_d n m s body ok l h e) in
        rw (we_law, kind_at n m s body l h, data_at n m s body l h, by_kind p (pin_on (bypass_pin l)) old (bit_at next 31) (address_by wires numbers) (write_address v n m body) (mode body l) (shift_data body l) address)
