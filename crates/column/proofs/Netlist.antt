-- The netlist of a file: its signals read signals of the file, its gates fit the gate table, a table with its rows has its gates and keeps the
-- ranges, and without a loop each state settles to at most one table. Assumes nothing.
use mathlib.Core.Path.{◌≡◌, ◌∙◌, ap}
use mathlib.Core.List.{List}
use Prim.Native.Nat.{ℕ, suc, ◌+◌, ◌*◌, ◌/◌, ◌%◌, ◌<◌}
use native.Mathlib.Decide.{dec_lt}
use native.Mathlib.Omega.{arith}
use lib.Dec.{lit<}
use lib.ListN.{length, get_or}
use lib.Seq.{sets}
use Rattle.netlist.specs.Graph.{LoopFree, WellFormed}
use Rattle.netlist.specs.Rule.{value_of, apply_gate, rule_of}
use Rattle.netlist.specs.Agree.{Agree}
use Rattle.netlist.specs.Table.{slice_signals, row_length, first_flop, signal_count, table_length, gate_numbers, gate_of, GateFits, flop_signal, InRange}
use Rattle.netlist.specs.declared.Gate.{Gate}
use Rattle.netlist.specs.declared.Gate.TheVariants.{Stored}
use Rattle.netlist.proofs.Net.{one_settled}
use Rattle.netlist.proofs.Fitting.{fits_reads}
use Rattle.netlist.proofs.Table.{seven, put_at, put_other, row_gate, NotStored, row_source, row_head}
use Rattle.slicefile.specs.Format.{slice_count, input_count}
use Rattle.series7.specs.Signals.{slice_gate}
use Rattle.series7.proofs.GateLaws.{gate_fits as slice_fits, flop_stored, early_unstored}
use Rattle.column.specs.File.{slice_body, gate_at}
use Rattle.column.specs.Compile.{LoweredTo, Lowered}
use Rattle.column.specs.Judge.{reads_at}
use Rattle.column.specs.Clock.{State, env_of, SettledFor}
use Rattle.column.proofs.Runs.{SettlesOnce}
use Rattle.column.proofs.SoundLaws.{SoundFile}

-- a signal before the 24th of its slice is no flip-flop
unstored : (file : List ℕ) (x : ℕ) → x % slice_signals < first_flop → NotStored (gate_at file x)
unfolding gate_at
unstored file x h = early_unstored (slice_count file) (input_count file) (x / slice_signals) (slice_body file (x / slice_signals)) (x % slice_signals) h

pub well_formed : (file : List ℕ) → WellFormed (reads_at file) (signal_count (slice_count file))
unfolding gate_at
well_formed file x y l r = fits_reads (slice_count file) (input_count file) (gate_at file x) (slice_fits (slice_count file) (input_count file) (x / slice_signals) (slice_body file (x / slice_signals)) (omega arith) (x % slice_signals)) y r

-- the netlist of a file with sound records
module _ (file : List ℕ) {n m : ℕ} (f : SoundFile file n m) where
  -- signal k of slice s
  pub gate_of_slice : (s k : ℕ) → k < slice_signals → gate_at file (slice_signals * s + k) ≡ slice_gate n m s (slice_body file s) k
  unfolding gate_at
  gate_of_slice s k h =
      let a : (slice_signals * s + k) / slice_signals ≡ s = omega arith in
      let b : (slice_signals * s + k) % slice_signals ≡ k = omega arith in
      rw (f.count, f.inputs, a, b)

  pub gate_fits : (x : ℕ) → x < signal_count n → GateFits n m (gate_at file x)
  unfolding gate_at
  gate_fits x l = rw (f.count, f.inputs) (slice_fits n m (x / slice_signals) (slice_body file (x / slice_signals)) (omega arith) (x % slice_signals))

  pub sound_well_formed : WellFormed (reads_at file) (signal_count n)
  sound_well_formed = rw (← f.count) (well_formed file)

  -- one row more in the table
  pub lower_next :
      (table : List ℕ) (x : ℕ) → x < signal_count n → length table ≡ table_length n → LoweredTo file n table x
      → LoweredTo file n (sets table (row_length * x) (gate_numbers n (gate_at file x))) (x + 1)
  lower_next table x l size a y i h j = by_place (dec_lt y x)
    where
      row : List ℕ
      row = gate_numbers n (gate_at file x)

      by_place : Dec (y < x) → get_or (sets table (row_length * x) row) (row_length * y + i) 0 ≡ get_or (gate_numbers n (gate_at file y)) i 0
      by_place (yes before) = put_other table row x (seven n (gate_at file x)) y (λ e. omega arith) i j ∙ a y i before j
      by_place (no late) =
          let e : y ≡ x = omega arith in
          rw e (put_at table row x (seven n (gate_at file x)) (omega arith) i j)

  -- a table that has the file's rows
  module _ (table : List ℕ) (a : Lowered file n table) where
    -- has its gates
    pub lowered_agree : Agree (gate_of table n) (gate_at file) (signal_count n)
    lowered_agree x l = row_gate table n m x (gate_at file x) (gate_fits x l) (λ i h. a x i l h)

    head_at : (x : ℕ) → x < signal_count n → get_or table (row_length * x) 0 ≡ get_or (gate_numbers n (gate_at file x)) 0 0
    head_at x l =
        let e : row_length * x + 0 ≡ row_length * x = omega arith in
        rw e at (a x 0 l (lit< tt))

    -- and its numbers are in their range
    pub lowered_range : InRange n m table
    unfolding gate_numbers
    lowered_range =
        record {
          stored = λ q h.
              let e : 8 * (q / 8) + q % 8 ≡ q = omega arith in
              let g : gate_at file (flop_signal q) ≡ Stored q = gate_of_slice (q / 8) (first_flop + q % 8) (omega arith) ∙ flop_stored n m (q / 8) (slice_body file (q / 8)) (q % 8) (omega arith) ∙ ap Stored e in
              head_at (flop_signal q) (omega arith) ∙ ap (λ (gate : Gate). get_or (gate_numbers n gate) 0 0) g;
          heads = λ x l h. rw (head_at x l) (row_head n m (gate_at file x) (gate_fits x l) (unstored file x h));
          sources = λ x i l h.
              let e : row_length * x + 1 + i ≡ row_length * x + suc i = omega arith in
              rw (e, a x (suc i) l (omega arith)) (row_source n m (gate_at file x) (gate_fits x l) i);
        }

-- in a settled table each signal of a slice holds what its gate gives
pub slice_settled : (file : List ℕ) {st : State} {inputs values : List ℕ} → SettledFor file st inputs values → (s k : ℕ) → s < slice_count file → k < slice_signals
    → get_or values (slice_signals * s + k) 0 ≡ apply_gate st.contents st.flops (value_of inputs values) (slice_gate (slice_count file) (input_count file) s (slice_body file s) k)
unfolding gate_at rule_of
slice_settled file t s k h l =
    let a : (slice_signals * s + k) / slice_signals ≡ s = omega arith in
    let b : (slice_signals * s + k) % slice_signals ≡ k = omega arith in
    t.each (slice_signals * s + k) (omega arith) ∙ rw (a, b)

pub settles_once : (file : List ℕ) → LoopFree (reads_at file) (signal_count (slice_count file)) → SettlesOnce file
settles_once file free st inputs t t' s s' = one_settled (gate_at file) (signal_count (slice_count file)) (well_formed file) free (env_of st inputs) t t' s s'
