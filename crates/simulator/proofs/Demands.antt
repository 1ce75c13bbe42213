-- What the promises of settle and clock come to: each settles its answer and every byte it leaves, and calls of clock make a run. Assumes nothing.
use mathlib.Core.Path.{◌≡◌, ◌∙◌, refl, sym, ap, subst}
use Rattle.std.specs.Prelude.{Ok}
use mathlib.Core.List.{List}
use Prim.Native.Nat.{ℕ, suc, ◌≤◌, ◌<◌}
use native.Mathlib.Omega.{arith}
use Rattle.slicefile.specs.declared.Size.{Size}
use Rattle.slicefile.specs.Refusals.{Answer}
use Rattle.column.specs.Clock.{State, clocked, SettledFor, Run}
use Rattle.column.specs.Judge.{Judged}
use Rattle.column.proofs.Runs.{run_unique}
use Rattle.column.proofs.Tables.{settled_once}
use Rattle.buffers.specs.Buffers.{settle_refusal}
use Rattle.calls.proofs.Demands.{agree, called_done}
use Rattle.simulator.specs.Running.{SettleCalled, ClockCalled}

pub settle_unique : (file : List ℕ) (st : State) (inputs old new new' : List ℕ) {r r' : Answer} → SettleCalled file st inputs old new r → SettleCalled file st inputs old new' r'
    → (r ≡ r') × (new ≡ new')
settle_unique file st inputs old new new' c c' =
    agree file (settle_refusal file st inputs old) c c' (λ s t. s ∙ sym t) (λ n m j z d d'. settled_once file j st inputs new new' d d')

pub clock_unique : (file : List ℕ) (st moved moved' : State) (inputs old new new' : List ℕ) {r r' : Answer} → ClockCalled file st moved inputs old new r
    → ClockCalled file st moved' inputs old new' r' → (r ≡ r') × ((moved ≡ moved') × (new ≡ new'))
clock_unique file st moved moved' inputs old new new' c c' =
    agree file (settle_refusal file st inputs old) c c' (λ s t. (s.0 ∙ sym t.0, s.1 ∙ sym t.1))
    (λ n m j z d d'.
    let same = settled_once file j st inputs new new' d.1 d'.1 in
    (d.0 ∙ ap (clocked file st inputs) same ∙ sym d'.0, same))

-- ---- demand 2: calls of clock, each from the state that the last one left, make a run, which is the only one
pub clocks_run : (file : List ℕ) {start : State} (states : ℕ → State) (inputs olds tables : ℕ → List ℕ) (K : ℕ) → states 0 ≡ start
    → ((k : ℕ) → k < K → ClockCalled file (states k) (states (suc k)) (inputs k) (olds k) (tables k) (Ok tt))
    → (r : Run file start inputs K) × (r.states ≡ states) × (r.tables ≡ tables)
clocks_run file states inputs olds tables K from each = (
  record {
    states = states;
    tables = tables;
    begins = from;
    settled = λ k l. (called_done file _ (each k l)).4.1;
    moves = λ k l. (called_done file _ (each k l)).4.0;
  },
  refl,
  refl,
)

pub run_determined : (file : List ℕ) {size : Size} → Judged file (Ok size) → {start : State} {inputs : ℕ → List ℕ} {K : ℕ} (r r' : Run file start inputs K) (k : ℕ) → k ≤ K
    → r.states k ≡ r'.states k
run_determined file j r r' k l = run_unique file (settled_once file j) r r' k l

-- and so are its tables
pub tables_determined : (file : List ℕ) {size : Size} → Judged file (Ok size) → {start : State} {inputs : ℕ → List ℕ} {K : ℕ} (r r' : Run file start inputs K) (k : ℕ) → k < K
    → r.tables k ≡ r'.tables k
tables_determined file j {inputs = inputs} r r' k l =
    let moved = subst (λ (q : State). SettledFor file q (inputs k) (r.tables k)) (run_determined file j r r' k (omega arith)) (r.settled k l) in
    settled_once file j (r'.states k) (inputs k) (r.tables k) (r'.tables k) moved (r'.settled k l)
