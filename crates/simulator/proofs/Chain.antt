-- Calls chain: what settle and clock leave is good for the next call on the file, so that power up and any number of clocks, with buffers of their
-- lengths and inputs 0 and 1, are all done, and are the run. Assumes nothing.
use mathlib.Core.Path.{◌≡◌, ◌∙◌, refl, ap, subst, subst⁻¹}
use mathlib.Core.Bool.{Bool, true, false, cond, ◌&&◌}
use Rattle.std.specs.Prelude.{Ok}
use mathlib.Core.List.{List}
use Prim.Native.Nat.{ℕ, zero, suc, ◌+◌, ◌*◌, ◌/◌, ◌%◌, ◌^◌, ◌≤◌, ◌<◌}
use native.Mathlib.Omega.{arith}
use borrow.Author.Tests.{lt-leb}
use lib.Dec.{eqb, leb}
use lib.ListN.{length, get_or}
use Rattle.netlist.specs.Rule.{bit_at, value_of}
use Rattle.netlist.specs.declared.Source.{Source}
use Rattle.netlist.specs.Table.{signal_count}
use Rattle.slicefile.specs.Format.{slice_count, input_count, mode, shift_data, bypass_pin, write_enable_pin}
use Rattle.slicefile.specs.declared.Reason.TheVariants.{WrongBuffer}
use Rattle.slicefile.specs.declared.Size.{Size}
use Rattle.slicefile.specs.Refusals.{Answer}
use Rattle.slicefile.proofs.Tabulate.{tabulate_length, tabulate_at}
use Rattle.rules.specs.Rules.{given}
use Rattle.series7.specs.Edge.{write_address, written, next_word}
use Rattle.sources.specs.Sources.{pin_source}
use Rattle.series7.proofs.GateLaws.{either}
use Rattle.column.specs.Clock.{State, power_up, clocked, Run}
use Rattle.column.specs.File.{slice_body}
use Rattle.column.specs.Judge.{Judged}
use Rattle.column.proofs.Tables.{records_sound}
use Rattle.buffers.specs.Buffers.{bad_state, bad_word, settle_refusal, GoodState, GoodInputs, GoodValues}
use Rattle.buffers.proofs.Good.{state_good, words_good, good_words, settle_good, settle_tells, settled_good}
use Rattle.buffers.proofs.Lengths.{state_lengths}
use Rattle.calls.specs.Calls.{done, PoweredUp}
use Rattle.calls.proofs.Demands.{called_done, done_there, not_refused, power_up_leaves}
use Rattle.simulator.specs.Running.{SettleCalled, ClockCalled}
use Rattle.simulator.proofs.Demands.{clocks_run}

-- a word of 32 bits in shift mode
abbrev Allowed : ℕ → ℕ → Type 0
Allowed x w = (eqb x 2 && leb (2 ^ 32) w) ≡ false

and_none : (a b : Bool) → b ≡ false → (a && b) ≡ false
and_none true b e = e
and_none false b e = refl

written_allowed : (x old address bypass d : ℕ) → Allowed x old → Allowed x (written x old address bypass d)
written_allowed zero old address bypass d h = refl
written_allowed (suc zero) old address bypass d h = refl
written_allowed (suc (suc k)) old address bypass d h = and_none (eqb (suc (suc k)) 2) _ (lt-leb (2 ^ 32) ((2 * old + d) % 2 ^ 32) (omega arith))

next_allowed : (v : Source → ℕ) (n m : ℕ) (body : List ℕ) (l old next : ℕ) → Allowed (mode body l) old → Allowed (mode body l) (next_word v n m body l old next)
unfolding next_word
next_allowed v n m body l old next h =
    let address = write_address v n m body in
    let bypass = v (pin_source n m body (bypass_pin l)) in
    let d = cond (eqb (shift_data body l) 1) (bit_at next 31) bypass in
    either (Allowed (mode body l)) (eqb (v (pin_source n m body write_enable_pin)) 1) {a = written (mode body l) old address bypass d} {b = old}
    (written_allowed (mode body l) old address bypass d h) h

module _ (file : List ℕ) {size : Size} (j : Judged file (Ok size)) where
  abbrev n : ℕ
  n = size.n

  abbrev m : ℕ
  m = size.m

  -- a good state moves to a good one
  clocked_good : (st : State) (inputs values : List ℕ) → GoodState file n st → GoodState file n (clocked file st inputs values)
  unfolding clocked bad_word
  clocked_good st inputs values good =
      let f = records_sound file j in
      let long = (state_lengths n st good.0).0 in
      let next : ℕ → ℕ = λ t. next_word (value_of inputs values) (slice_count file) (input_count file) (slice_body file (t / 4)) (t % 4) (get_or st.contents t 0) (get_or st.contents (t + 1) 0) in
      let words = (clocked file st inputs values).contents in
      let sized : length words ≡ 4 * n = tabulate_length 0 _ _ ∙ ap (λ (k : ℕ). 4 * k) f.count in (
        state_good n (clocked file st inputs values) sized (tabulate_length 0 _ _ ∙ f.count),
        words_good file words
            (λ t h. rw (tabulate_at (4 * slice_count file) next t (omega (arith, f.count)))
            (next_allowed _ _ _ (slice_body file (t / 4)) (t % 4) _ _ (good_words file st.contents good.1 t (omega arith)))),
      )

  pub settle_leaves : (st : State) (inputs old new : List ℕ) → SettleCalled file st inputs old new (Ok tt) → GoodValues n new
  settle_leaves st inputs old new (done _ _ s) = settled_good file j st inputs new s

  pub clock_leaves : (st moved : State) (inputs old new : List ℕ) → ClockCalled file st moved inputs old new (Ok tt) → GoodState file n moved × GoodValues n new
  clock_leaves st moved inputs old new c =
      let d = done_there file _ j c in
      let good = (settle_tells file st inputs old n m d.0).0 in
      (subst⁻¹ (GoodState file n) d.1.0 (clocked_good st inputs new good), settled_good file j st inputs new d.1.1)

  -- settle and clock take a good state and good inputs
  module _ (st : State) (inputs old : List ℕ) (good : GoodState file n st) (given : GoodInputs m inputs) (long : length old ≡ signal_count n) where
    none_refused : settle_refusal file st inputs old n m ≡ Ok tt
    none_refused = settle_good file st inputs old n m good given long

    pub settle_taken : (new : List ℕ) {r : Answer} → SettleCalled file st inputs old new r → r ≡ Ok tt
    settle_taken new c = not_refused file (settle_refusal file st inputs old) j none_refused c

    pub clock_taken : (moved : State) (new : List ℕ) {r : Answer} → ClockCalled file st moved inputs old new r → r ≡ Ok tt
    clock_taken moved new c = not_refused file (settle_refusal file st inputs old) j none_refused c

  -- clocks, each from the state that the last one left, with good inputs and value buffers of their length
  module _ (states : ℕ → State) (inputs olds tables : ℕ → List ℕ) (answers : ℕ → Answer) (K : ℕ) (start : GoodState file n (states 0))
      (lent : (k : ℕ) → k < K → GoodInputs m (inputs k) × (length (olds k) ≡ signal_count n))
      (calls : (k : ℕ) → k < K → ClockCalled file (states k) (states (suc k)) (inputs k) (olds k) (tables k) (answers k)) where
    done_at : (k : ℕ) → k < K → GoodState file n (states k) → answers k ≡ Ok tt
    done_at k l good = clock_taken (states k) (inputs k) (olds k) good (lent k l).0 (lent k l).1 (states (suc k)) (tables k) (calls k l)

    good_at : (k : ℕ) → k ≤ K → GoodState file n (states k)
    good_at zero l = start
    good_at (suc k) l =
        let here = good_at k (omega arith) in
        let called = subst (ClockCalled file (states k) (states (suc k)) (inputs k) (olds k) (tables k)) (done_at k (omega arith) here) (calls k (omega arith)) in
        (clock_leaves (states k) (states (suc k)) (inputs k) (olds k) (tables k) called).0

    -- are all done
    pub clocks_done : (k : ℕ) → k < K → answers k ≡ Ok tt
    clocks_done k l = done_at k l (good_at k (omega arith))

    -- and are the run
    clocks_are_run : {from : State} → states 0 ≡ from → (r : Run file from inputs K) × (r.states ≡ states) × (r.tables ≡ tables)
    clocks_are_run from =
        clocks_run file states inputs olds tables K from
        (λ k l. subst (ClockCalled file (states k) (states (suc k)) (inputs k) (olds k) (tables k)) (clocks_done k l) (calls k l))

  -- power up, in buffers of their lengths, and any number of clocks: all are done, and they are the run from power-up
  pub power_up_run : (before : State) {first : Answer} (states : ℕ → State) (inputs olds tables : ℕ → List ℕ) (answers : ℕ → Answer) (K : ℕ)
      → bad_state n before ≡ false → PoweredUp file before (states 0) first
      → ((k : ℕ) → k < K → GoodInputs m (inputs k) × (length (olds k) ≡ signal_count n))
      → ((k : ℕ) → k < K → ClockCalled file (states k) (states (suc k)) (inputs k) (olds k) (tables k) (answers k))
      → (first ≡ Ok tt) × ((k : ℕ) → k < K → answers k ≡ Ok tt) × (r : Run file (power_up file) inputs K) × (r.states ≡ states) × (r.tables ≡ tables)
  power_up_run before {first} states inputs olds tables answers K sized power lent calls =
      let e : first ≡ Ok tt = not_refused file (λ n m. given WrongBuffer (bad_state n before)) j (rw sized) power in
      let d = subst (PoweredUp file before (states 0)) e power in
      let start = power_up_leaves file before (states 0) j d in
      let r = clocks_are_run states inputs olds tables answers K start lent calls (called_done file _ d).4 in
      (e, clocks_done states inputs olds tables answers K start lent calls, r.0, r.1, r.2)
