-- One turn of a walk over the wires: a signal of the order is set to its rule. Assumes nothing.
use mathlib.Core.Path.{◌≡◌, refl, sym, ◌∙◌, ap}
use mathlib.Core.Bool.{Bool, true, false}
use mathlib.Core.List.{List}
use Prim.Native.Nat.{ℕ, ◌+◌, ◌-◌, ◌*◌, ◌≤◌, ◌<◌}
use native.Mathlib.Omega.{arith}
use lib.ListN.{length, get_or, set, take, drop, replicate, length-take, length-drop}
use lib.Seq.{get_or-take, get_or-drop}
use Rattle.netlist.specs.Rule.{Env, env, rule_of, sources_of}
use Rattle.netlist.specs.Settle.{Settled, rule_in, reached}
use Rattle.netlist.specs.Invariant.{SettledTo, EditedTo}
use Rattle.netlist.specs.Table.{row_length, signal_count, signal_wire, stored_head, gate_of}
use Rattle.netlist.specs.Wires.{IsWires, values_on, inputs_on}
use Rattle.netlist.specs.declared.Gate.TheVariants.{Stored}
use Rattle.netlist.proofs.Bits.{rule_bit}
use Rattle.netlist.proofs.Editing.{edit_reached, edit_passed, edit_all}
use Rattle.netlist.proofs.Flops.{settle_flops, edit_flops, behind_flops}
use Rattle.netlist.proofs.Settling.{settle_next, settle_all}
use Rattle.netlist.proofs.Wires.{rule_on_wires, values_set, inputs_set, wires_set}
use Rattle.evaluation.specs.Numbers.{GateGives}
use Rattle.walks.specs.Marked.{touches_marked}
use Rattle.walks.specs.Walks.{Walkable, StillWires, FlopsOn, EditedBy, EditedOn}
use Rattle.walks.proofs.Laying.{values_length}
use Rattle.walks.proofs.Reached.{no_mark}

-- after i signals of the order, from the value table that was on the old wires: the invariant of a walk that edits, whatever the flip-flops hold
abbrev pub EditedAt : List ℕ → ℕ → List ℕ → List ℕ → List ℕ → List ℕ → List ℕ → ℕ → List ℕ → List ℕ → Type 0
EditedAt table n order contents changed edited old i marks wires =
    (flops : List ℕ)
    → EditedTo (gate_of table n) (env contents flops (inputs_on n old)) (λ x. touches_marked changed edited (gate_of table n x)) order (values_on n old) i marks
    (values_on n wires)

-- the signals of the order behind the flip-flops
abbrev pub behind : ℕ → List ℕ → List ℕ
behind n order = take (length order - 8 * n) (drop (8 * n) order)

module _ {n m : ℕ} {table order : List ℕ} (k : Walkable n m table order) where
  -- a turn behind the flip-flops has a signal of the netlist that is none of them
  pub turn : (j : ℕ) → j < length (behind n order) → {x : ℕ} → x ≡ get_or (behind n order) j 0
      → (8 * n + j < signal_count n) × (x ≡ get_or order (8 * n + j) 0) × (x < signal_count n) × (get_or table (row_length * x) 0 < stored_head n)
  turn j h {x} e =
      let l : 8 * n + j < signal_count n = omega (arith, k.ordered.size, length-take {A = ℕ}, length-drop {A = ℕ}) in
      let within : j < length order - 8 * n = omega (arith, k.ordered.size) in
      let is : x ≡ get_or order (8 * n + j) 0 = e ∙ get_or-take _ _ j 0 within ∙ get_or-drop (8 * n) order j 0 in
      let b = (k.ordered.each (8 * n + j) l).below in
      (l, is, rw is b, rw is (k.range.heads (get_or order (8 * n + j) 0) b (behind_flops n k.ordered k.flops (8 * n + j) (omega arith) l)))

  past : (j : ℕ) → length (behind n order) ≤ j → signal_count n ≤ 8 * n + j
  past j end = omega (arith, k.ordered.size, length-take {A = ℕ}, length-drop {A = ℕ})

  module _ (contents old : List ℕ) {wires : List ℕ} (still : StillWires n m old wires) where
    -- after the change, or with the inputs on the wires
    abbrev now_env : List ℕ → Env
    now_env flops = env contents flops (inputs_on n old)

    -- what the gate gives is its signal's rule in the value table on the wires
    gives_rule : (x r : ℕ) → GateGives contents wires n x table r → (flops : List ℕ) → r ≡ rule_in (gate_of table n) (now_env flops) (values_on n wires) x
    gives_rule x r g flops =
        g flops ∙ rule_on_wires still.wires contents flops table x
        ∙ ap (λ (i : List ℕ). rule_of (env contents flops i) (values_on n wires) (gate_of table n x)) still.inputs

    pub sized : length (values_on n wires) ≡ signal_count n
    sized = values_length still.wires

    module _ (j : ℕ) (h : 8 * n + j < signal_count n) {x : ℕ} (is : x ≡ get_or order (8 * n + j) 0) (r : ℕ) (g : GateGives contents wires n x table r) where
      below : x < signal_count n
      below = rw is ((k.ordered.each (8 * n + j) h).below)

      pub set_still : StillWires n m old (set wires (signal_wire + x) r)
      set_still =
          let small : r < 2 = rw (gives_rule x r g contents) (rule_bit (now_env contents) (values_on n wires) (gate_of table n x)) in
          record {
            wires = wires_set still.wires x r below small;
            inputs = inputs_set still.wires x r below ∙ still.inputs;
          }

      -- one signal more is settled
      pub settle_turn :
          (flops : List ℕ) → SettledTo (gate_of table n) (now_env flops) order (8 * n + j) (values_on n wires)
          → SettledTo (gate_of table n) (now_env flops) order (8 * n + (j + 1)) (values_on n (set wires (signal_wire + x) r))
      settle_turn flops s =
          let next : 8 * n + (j + 1) ≡ 8 * n + j + 1 = omega arith in
          rw (values_set still.wires x r below, gives_rule x r g flops, is, next)
          (settle_next (gate_of table n) k.ordered (now_env flops) (8 * n + j) h (values_on n wires) (omega (arith, sized)) s)

    -- the stored bits are on their wires
    pub settle_start : (flops : List ℕ) → FlopsOn n m flops n old wires → SettledTo (gate_of table n) (now_env flops) order (8 * n + 0) (values_on n wires)
    settle_start flops on =
        let none : 8 * n + 0 ≡ 8 * n = omega arith in
        rw none (settle_flops table n k.range.stored order k.flops (now_env flops) (values_on n wires) on.bits)

    pub settle_end :
        (flops : List ℕ) (j : ℕ) → length (behind n order) ≤ j → SettledTo (gate_of table n) (now_env flops) order (8 * n + j) (values_on n wires)
        → Settled (gate_of table n) (signal_count n) (now_env flops) (values_on n wires)
    settle_end flops j end s = settle_all (gate_of table n) k.ordered (now_env flops) (8 * n + j) (past j end) (values_on n wires) sized s

  -- a walk that edits, from the value table that was on the wires
  module _ (contents changed edited old : List ℕ) where
    abbrev touches : ℕ → Bool
    touches x = touches_marked changed edited (gate_of table n x)

    abbrev At : ℕ → List ℕ → List ℕ → Type 0
    At = EditedAt table n order contents changed edited old

    never_stored : (q : ℕ) → touches_marked changed edited (Stored q) ≡ false
    unfolding touches_marked sources_of
    never_stored q = refl

    pub edit_start : (limit : ℕ) → At (8 * n + 0) (replicate limit 0) old
    edit_start limit flops =
        let none : 8 * n + 0 ≡ 8 * n = omega arith in
        rw none (edit_flops table n k.range.stored order k.flops (env contents flops (inputs_on n old)) (touches_marked changed edited) never_stored
        (replicate limit 0) (values_on n old) (no_mark limit))

    module _ {wires marks : List ℕ} (still : StillWires n m old wires) (j : ℕ) (h : 8 * n + j < signal_count n) {x : ℕ} (is : x ≡ get_or order (8 * n + j) 0) (long : signal_count n ≤ length marks) (s : At (8 * n + j) marks wires) where
      next : 8 * n + (j + 1) ≡ 8 * n + j + 1
      next = omega arith

      -- a signal that the change reaches is marked and recomputed
      pub edit_turn :
          (r : ℕ) → GateGives contents wires n x table r → reached (gate_of table n) touches marks x ≡ true
          → At (8 * n + (j + 1)) (set marks x 1) (set wires (signal_wire + x) r)
      edit_turn r g e flops =
          rw (values_set still.wires x r (rw is ((k.ordered.each (8 * n + j) h).below)), gives_rule contents old still x r g flops, is, next)
          (edit_reached (gate_of table n) k.ordered _ touches (values_on n old) (8 * n + j) h marks (values_on n wires) (s flops) long (omega (arith, sized contents old still)) (rw is at e))

      -- any other keeps its bit
      pub edit_pass : reached (gate_of table n) touches marks x ≡ false → At (8 * n + (j + 1)) (set marks x 0) wires
      edit_pass e flops =
          rw (is, next)
          (edit_passed (gate_of table n) k.ordered _ touches (values_on n old) (8 * n + j) h marks (values_on n wires) (s flops) long (omega (arith, sized contents old still)) (rw is at e))

    pub edit_end :
        {wires : List ℕ} (marks : List ℕ) → StillWires n m old wires → IsWires n m old → (j : ℕ) → length (behind n order) ≤ j → At (8 * n + j) marks wires
        → EditedBy n table contents (inputs_on n old) changed edited (values_on n old) (values_on n wires)
    edit_end {wires} marks still w j end s flops =
        edit_all (gate_of table n) k.ordered _ touches (values_on n old) (8 * n + j) (past j end) marks (values_on n wires)
        (values_length still.wires ∙ sym (values_length w)) (s flops)

-- what is read off the wires, for the inputs and the value table that were laid on them
pub edited_by :
    {n m : ℕ} {table contents inputs changed edited values old new values' : List ℕ} → EditedOn n m table contents changed edited old new
    → inputs_on n old ≡ inputs → values_on n old ≡ values → values' ≡ values_on n new → EditedBy n table contents inputs changed edited values values'
edited_by s e f v flops = rw v (rw (e, f) at (s.done flops))
