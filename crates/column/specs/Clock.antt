-- A file's state at power-up, after one clock, and over a run of clocks.
use Rattle.std.specs.Prelude.{ℕ, suc, ◌+◌, ◌*◌, ◌/◌, ◌%◌, ◌<◌, ◌≡◌, List, get_or}
use Rattle.lent.specs.Lent.{Lent, was, left}
use Rattle.netlist.specs.Rule.{Env, env, value_of}
use Rattle.netlist.specs.Settle.{Settled}
use Rattle.netlist.specs.declared.Source.{Source}
use Rattle.netlist.specs.Table.{signal_count}
use Rattle.slicefile.specs.Lists.{tabulate}
use Rattle.slicefile.specs.Format.{slice_count, input_count, contents_word, power_up_bits}
use Rattle.series7.specs.Edge.{next_flops, next_word}
use Rattle.column.specs.File.{slice_body, gate_at}

-- "4n 64-bit words of contents, word 4s plus the letter; n flip-flop bytes, one a slice"
pub record State : Type 0 where
  pub contents : List ℕ
  pub flops : List ℕ

abbrev pub state_of : List ℕ → List ℕ → State
state_of contents flops = record { contents = contents; flops = flops }

-- the state in lent buffers, when a function was called and as it left them
abbrev pub state_was : Lent → Lent → State
state_was contents flops = state_of (was contents) (was flops)

abbrev pub state_left : Lent → Lent → State
state_left contents flops = state_of (left contents) (left flops)

-- what the rules take besides the value table: the state and the outside inputs
abbrev pub env_of : State → List ℕ → Env
env_of st inputs = env st.contents st.flops inputs

-- "power up (fills contents and flip-flops)"
unfoldable pub power_up : List ℕ → State
power_up file =
    record {
      contents = tabulate 0 (4 * slice_count file) (λ t. contents_word (slice_body file (t / 4)) (t % 4));
      flops = tabulate 0 (slice_count file) (λ s. power_up_bits (slice_body file s));
    }

-- "all slices move together, from signals settled before the edge"
unfoldable pub clocked : List ℕ → State → List ℕ → List ℕ → State
clocked file st inputs values =
    let v : Source → ℕ = value_of inputs values in
    let n = slice_count file in
    let m = input_count file in
    record {
      contents = tabulate 0 (4 * n) (λ t. next_word v n m (slice_body file (t / 4)) (t % 4) (get_or st.contents t 0) (get_or st.contents (t + 1) 0));
      flops = tabulate 0 n (λ s. next_flops v n m s (slice_body file s) (get_or st.flops s 0));
    }

-- "a table is settled, for a file, contents, flip-flops and inputs"
abbrev pub SettledFor : List ℕ → State → List ℕ → List ℕ → Type 0
SettledFor file st inputs values = Settled (gate_at file) (signal_count (slice_count file)) (env_of st inputs) values

-- "exactly one such table": this one is settled, and every settled table is this one
abbrev pub OnlySettled : List ℕ → State → List ℕ → List ℕ → Type 0
OnlySettled file st inputs values =
    SettledFor file st inputs values × ((fresh : List ℕ) → SettledFor file st inputs fresh → values ≡ fresh)

-- K clocks from a state, with the outside inputs of each clock: the states before each edge and after the last, and the tables settled before
-- each edge
pub record Run (file : List ℕ) (start : State) (inputs : ℕ → List ℕ) (K : ℕ) : Type 0 where
  pub states : ℕ → State
  pub tables : ℕ → List ℕ
  pub begins : states 0 ≡ start
  pub settled : (k : ℕ) → k < K → SettledFor file (states k) (inputs k) (tables k)
  pub moves : (k : ℕ) → k < K → states (suc k) ≡ clocked file (states k) (inputs k) (tables k)
