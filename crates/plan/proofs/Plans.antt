-- What a plan gives to those who run on it: a walk's table and order, the edges of all slices, and that the edge over its numbers is the file's.
-- Assumes nothing.
use mathlib.Core.Path.{◌≡◌, ◌∙◌, refl, sym, ap₂}
use mathlib.Core.List.{List}
use mathlib.Core.Logic.{inl}
use Prim.Native.Nat.{ℕ, ◌+◌, ◌*◌, ◌/◌, ◌%◌, ◌≤◌, ◌<◌}
use native.Mathlib.Omega.{arith}
use lib.ListN.{length, get_or, take, drop, length-drop}
use lib.Seq.{length-take-le, get_or-take, get_or-drop, ext_get_or}
use Rattle.netlist.specs.Rule.{value_of}
use Rattle.netlist.specs.Table.{signal_limit, signal_count, table_length, net_of, SourceFits}
use Rattle.netlist.specs.Wires.{IsWires, wires_of, values_on, inputs_on, on_wire}
use Rattle.netlist.specs.declared.Source.{Source}
use Rattle.netlist.proofs.Agree.{agree_sym, ordered_agree}
use Rattle.netlist.proofs.Wires.{wire_source, wires_are}
use Rattle.lent.specs.Put.{Put, PutAll}
use Rattle.lent.proofs.Putting.{put_front, put_part}
use Rattle.slicefile.proofs.Tabulate.{tabulate_same}
use Rattle.clocknumbers.specs.Numbers.{edge_length, edge_numbers}
use Rattle.series7.specs.Edge.{next_flops, next_word}
use Rattle.clocknumbers.proofs.Table.{numbers_length}
use Rattle.clockedge.specs.Moves.{EdgesFit, edge_at, flops_by, word_by, words_by, bytes_by}
use Rattle.clockedge.proofs.Laws.{edge_fits, flops_law, word_law}
use Rattle.walks.specs.Walks.{Walkable}
use Rattle.column.specs.Clock.{State, state_of, clocked}
use Rattle.column.specs.Compile.{Ready as Netlisted}
use Rattle.column.specs.File.{slice_body, gate_at}
use Rattle.column.proofs.SoundLaws.{SoundFile, sound_file, body_good}
use Rattle.column.proofs.Verdicts.{accepted_sound}
use Rattle.plan.specs.Plan.{edges_place, order_place, plan_limit, plan_table, plan_edges, plan_order, edges_of, Ready, Runnable, clocked_by}
use Rattle.plan.proofs.Numbers.{slice_at}

-- what a plan that can be run on gives, part by part
module _ {n m : ℕ} {plan : List ℕ} (r : Runnable n m plan) where
  pub edges_long : {edges : List ℕ} → edges ≡ plan_edges plan n → length edges ≡ edge_length * n
  edges_long e = rw e (length-take-le (edge_length * n) (drop (edges_place n) plan) (omega (arith, length-drop (edges_place n) plan, r.room)))

  pub parts_edges : {edges wires : List ℕ} → edges ≡ plan_edges plan n → IsWires n m wires → EdgesFit n wires edges
  parts_edges e w = rw e (r.edges _ w)

-- the edge from wires that hold the inputs and the value table
pub parts_clocked :
    {n m : ℕ} (plan words bytes : List ℕ) {edges wires inputs values words' bytes' : List ℕ} → edges ≡ plan_edges plan n → IsWires n m wires
    → inputs_on n wires ≡ inputs → values_on n wires ≡ values → words' ≡ words_by wires edges n words → bytes' ≡ bytes_by wires edges n bytes
    → state_of words' bytes' ≡ clocked_by plan n (state_of words bytes) inputs values
parts_clocked {n} plan words bytes {wires = wires} e w i v p q =
    ap₂ state_of p q
    ∙ ap₂ (λ (l k : List ℕ). state_of (words_by l k n words) (bytes_by l k n bytes)) (wires_are wires w ∙ ap₂ wires_of i v) e

module _ (file : List ℕ) {n m : ℕ} {plan : List ℕ} (r : Ready file n m plan) where
  pub ready_sound : SoundFile file n m
  ready_sound = sound_file file (accepted_sound file r.verdict)

  -- what a walk along the order asks for
  pub ready_walk : Walkable n m (plan_table plan n) (plan_order plan n)
  ready_walk =
      record {
        sized = (omega (arith, ready_sound.slices_fit), length-take-le (table_length n) plan (omega (arith, r.room)));
        range = r.represents.range;
        ordered = ordered_agree (gate_at file) (net_of plan n) (signal_count n) (agree_sym r.represents.gates) (plan_order plan n) r.represents.ordered;
        flops = r.represents.flops;
      }

  module _ {wires : List ℕ} (w : IsWires n m wires) where
    -- what the edge of all slices asks for
    pub ready_edges : EdgesFit n wires (plan_edges plan n)
    ready_edges =
        record {
          size = length-take-le (edge_length * n) (drop (edges_place n) plan) (omega (arith, length-drop (edges_place n) plan, r.room));
          each = λ s h. rw (r.represents.edges s h) (edge_fits n m s (slice_body file s) h w);
        }

    abbrev v : Source → ℕ
    v = value_of (inputs_on n wires) (values_on n wires)

    -- the edge over the numbers is the file's, from the table on the wires
    pub ready_clocked :
        (words bytes : List ℕ)
        → state_of (words_by wires (plan_edges plan n) n words) (bytes_by wires (plan_edges plan n) n bytes)
        ≡ clocked file (state_of words bytes) (inputs_on n wires) (values_on n wires)
    unfolding words_by bytes_by clocked
    ready_clocked words bytes =
        rw (ready_sound.count, ready_sound.inputs) (ap₂ state_of (tabulate_same (4 * n) _ _ word) (tabulate_same n _ _ byte))
      where
        on : (s : Source) → SourceFits n m s → on_wire n wires s ≡ v s
        on = wire_source w

        word : (t : ℕ) → t < 4 * n
            → word_by wires (edge_at (plan_edges plan n) (t / 4)) (t % 4) (get_or words t 0) (get_or words (t + 1) 0)
            ≡ next_word v n m (slice_body file (t / 4)) (t % 4) (get_or words t 0) (get_or words (t + 1) 0)
        word t h =
            let l : t / 4 < n = omega arith in
            rw (r.represents.edges (t / 4) l)
            (word_law n m wires v w.low on (t / 4) (slice_body file (t / 4)) l (body_good file ready_sound (t / 4) l) (t % 4) _ _ (omega arith))

        byte : (s : ℕ) → s < n
            → flops_by wires (edge_at (plan_edges plan n) s) (get_or bytes s 0) ≡ next_flops v n m s (slice_body file s) (get_or bytes s 0)
        byte s h = rw (r.represents.edges s h) (flops_law n m wires v w.low on s (slice_body file s) h (get_or bytes s 0))

  pub ready_runs : Runnable n m plan
  ready_runs =
      record { few = ready_sound.slices_fit; narrow = omega (arith, ready_sound.inputs_fit); room = r.room; walk = ready_walk; edges = λ wires w. ready_edges w }

  -- the edge by the plan is the file's
  pub clocked_same :
      (st : State) (inputs values wires : List ℕ) → IsWires n m wires → inputs_on n wires ≡ inputs → values_on n wires ≡ values
      → clocked_by plan n st inputs values ≡ clocked file st inputs values
  clocked_same st inputs values wires w i v =
      sym (parts_clocked plan st.contents st.flops refl w i v refl refl)
      ∙ ready_clocked w st.contents st.flops
      ∙ ap₂ (clocked file st) i v

-- the edges' numbers and the order put behind the gate table
pub completed :
    (file : List ℕ) {n m : ℕ} {turns old edged new : List ℕ} → Netlisted file n m old turns → length turns ≡ signal_limit → length old ≡ plan_limit
    → Put (edges_of file n m) (edges_place n) (edge_length * n) old edged → {at : ℕ} → at ≡ order_place n → PutAll (take (signal_count n) turns) at edged new
    → Ready file n m new
completed file {n} {m} {turns} {old} {edged} {new} r size long p place put =
    record {
      verdict = r.verdict;
      room = omega (arith, fits, p.long, q.long);
      represents = record {
        gates = rw front r.lowered;
        range = rw front r.ranges;
        edges = slice;
        ordered = rw order r.ordered;
        flops = rw order r.flops;
      };
    }
  where
    q : PutAll (take (signal_count n) turns) (order_place n) edged new
    q = rw place at put

    fits : n ≤ 64
    fits = (sound_file file (accepted_sound file r.verdict)).slices_fit

    part : length (take (signal_count n) turns) ≡ signal_count n
    part = length-take-le (signal_count n) turns (omega arith)

    front : take (table_length n) new ≡ take (table_length n) old
    front = put_front q (table_length n) (omega arith) (omega (arith, p.long)) ∙ put_front p (table_length n) (omega arith) (omega arith)

    order : plan_order new n ≡ take (signal_count n) turns
    order = rw part at (put_part q (omega (arith, part, p.long)) (take (signal_count n) turns) refl (λ i h. refl))

    edges_long : length (plan_edges new n) ≡ edge_length * n
    edges_long = length-take-le (edge_length * n) (drop (edges_place n) new) (omega (arith, length-drop (edges_place n) new, p.long, q.long))

    -- a number of slice s
    number : (s i : ℕ) → s < n → i < edge_length → get_or (plan_edges new n) (edge_length * s + i) 0 ≡ edges_of file n m (edge_length * s + i)
    number s i h l =
        get_or-take (edge_length * n) (drop (edges_place n) new) (edge_length * s + i) 0 (omega arith)
        ∙ get_or-drop (edges_place n) new (edge_length * s + i) 0
        ∙ q.kept (edges_place n + (edge_length * s + i)) (inl (omega arith))
        ∙ p.put (edge_length * s + i) (omega arith)

    slice : (s : ℕ) → s < n → edge_at (plan_edges new n) s ≡ edge_numbers n m s (slice_body file s)
    slice s h =
        ext_get_or 0 (edge_at (plan_edges new n) s) (edge_numbers n m s (slice_body file s)) (whole ∙ sym (numbers_length n m s (slice_body file s)))
        (λ i b.
        let l : i < edge_length = omega (arith, whole) in
        get_or-take edge_length (drop (edge_length * s) (plan_edges new n)) i 0 l
        ∙ get_or-drop (edge_length * s) (plan_edges new n) i 0
        ∙ number s i h l
        ∙ sym (slice_at file n m s i l))
      where
        whole : length (edge_at (plan_edges new n) s) ≡ edge_length
        whole = length-take-le edge_length (drop (edge_length * s) (plan_edges new n)) (omega (arith, length-drop (edge_length * s) (plan_edges new n), edges_long))
