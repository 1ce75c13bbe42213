-- Runs of clocks: one is put together from its first clock and the rest, or from a run and its last clock, and where each state settles to at most one
-- table, two runs from one state with the same inputs agree. Assumes nothing.
use mathlib.Core.Path.{◌≡◌, ◌∙◌, refl, sym, ap, subst}
use mathlib.Core.Bool.{cond}
use mathlib.Core.List.{List}
use Prim.Native.Nat.{ℕ, zero, suc, ◌≤◌, ◌<◌}
use native.Mathlib.Decide.{ℕ_discrete}
use native.Mathlib.Omega.{arith}
use borrow.Author.Tests.{eq-eqb, ne_eqb}
use lib.Dec.{eqb}
use Rattle.column.specs.Clock.{State, clocked, SettledFor, Run}

abbrev pub prepend : {A : Type 0} → A → (ℕ → A) → ℕ → A
prepend a f zero = a
prepend a f (suc k) = f k

-- the same but for number k
unfoldable placed : {A : Type 0} → (ℕ → A) → ℕ → A → ℕ → A
placed f k a i = cond (eqb i k) a (f i)

module _ {A : Type 0} (f : ℕ → A) (k : ℕ) (a : A) where
  placed_there : placed f k a k ≡ a
  unfolding placed
  placed_there = rw (eq-eqb k k refl)

  placed_other : (i : ℕ) → (i ≡ k → ⊥) → placed f k a i ≡ f i
  unfolding placed
  placed_other i ne = rw (ne_eqb i k ne)

-- each state of the file settles to at most one table
abbrev pub SettlesOnce : List ℕ → Type 0
SettlesOnce file = (st : State) (inputs t t' : List ℕ) → SettledFor file st inputs t → SettledFor file st inputs t' → t ≡ t'

module _ (file : List ℕ) where
  -- no clock
  unfoldable pub still : (start : State) (inputs : ℕ → List ℕ) → Run file start inputs 0
  still start inputs = record { states = λ k. start; tables = inputs; begins = refl; settled = λ k l. absurd (omega arith); moves = λ k l. absurd (omega arith) }

  -- one clock, and then a run
  module _ {start : State} (inputs : ℕ → List ℕ) {K : ℕ} (values : List ℕ) (s : SettledFor file start (inputs 0) values)
      (r : Run file (clocked file start (inputs 0) values) (λ k. inputs (suc k)) K) where
    pub settled_at : (k : ℕ) → k < suc K → SettledFor file (prepend start r.states k) (inputs k) (prepend values r.tables k)
    settled_at zero l = s
    settled_at (suc k) l = r.settled k (omega arith)

    pub moves_at : (k : ℕ) → k < suc K → prepend start r.states (suc k) ≡ clocked file (prepend start r.states k) (inputs k) (prepend values r.tables k)
    moves_at zero l = r.begins
    moves_at (suc k) l = r.moves k (omega arith)

    unfoldable pub clock_first : Run file start inputs (suc K)
    clock_first = record { states = prepend start r.states; tables = prepend values r.tables; begins = refl; settled = settled_at; moves = moves_at }

  -- a run, and then one clock
  module _ {start : State} {inputs : ℕ → List ℕ} {K : ℕ} (r : Run file start inputs K) (values : List ℕ) (s : SettledFor file (r.states K) (inputs K) values) where
    abbrev moved : State
    moved = clocked file (r.states K) (inputs K) values

    abbrev states_on : ℕ → State
    states_on = placed r.states (suc K) moved

    abbrev tables_on : ℕ → List ℕ
    tables_on = placed r.tables K values

    state_kept : (k : ℕ) → k ≤ K → states_on k ≡ r.states k
    state_kept k l = placed_other r.states (suc K) moved k (λ e. omega arith)

    settled_on : (k : ℕ) → k < suc K → Dec (k ≡ K) → SettledFor file (states_on k) (inputs k) (tables_on k)
    settled_on k l (yes e) = rw (state_kept k (omega arith), e, placed_there r.tables K values) s
    settled_on k l (no ne) = rw (state_kept k (omega arith), placed_other r.tables K values k ne) (r.settled k (omega arith))

    moves_on : (k : ℕ) → k < suc K → Dec (k ≡ K) → states_on (suc k) ≡ clocked file (states_on k) (inputs k) (tables_on k)
    moves_on k l (yes e) = rw (state_kept k (omega arith), e, placed_there r.states (suc K) moved, placed_there r.tables K values)
    moves_on k l (no ne) = rw (state_kept k (omega arith), state_kept (suc k) (omega arith), placed_other r.tables K values k ne) (r.moves k (omega arith))

    pub clock_last : Run file start inputs (suc K)
    clock_last =
        record {
          states = states_on;
          tables = tables_on;
          begins = state_kept 0 (omega arith) ∙ r.begins;
          settled = λ k l. settled_on k l (ℕ_discrete k K);
          moves = λ k l. moves_on k l (ℕ_discrete k K);
        }

    -- its last state and table
    pub last_state : clock_last.states (suc K) ≡ moved
    unfolding clock_last
    last_state = placed_there r.states (suc K) moved

    pub last_table_lem : clock_last.tables K ≡ values
    unfolding clock_last
    last_table_lem = placed_there r.tables K values

  -- two runs of as many clocks agree
  pub run_unique : SettlesOnce file → {start : State} {inputs : ℕ → List ℕ} {K : ℕ} (r r' : Run file start inputs K) (k : ℕ) → k ≤ K → r.states k ≡ r'.states k
  run_unique once r r' zero l = r.begins ∙ sym r'.begins
  run_unique once {start} {inputs} r r' (suc k) l =
      let here = run_unique once r r' k (omega arith) in
      let s : SettledFor file (r'.states k) (inputs k) (r.tables k) = subst (λ (q : State). SettledFor file q (inputs k) (r.tables k)) here (r.settled k (omega arith)) in
      let t : r.tables k ≡ r'.tables k = once (r'.states k) (inputs k) (r.tables k) (r'.tables k) s (r'.settled k (omega arith)) in
      r.moves k (omega arith) ∙ ap (λ (q : State). clocked file q (inputs k) (r.tables k)) here ∙ ap (λ (u : List ℕ). clocked file (r'.states k) (inputs k) u) t ∙ sym (r'.moves k (omega arith))
