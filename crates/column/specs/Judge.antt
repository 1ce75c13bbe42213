-- The judge's verdict on a file.
use Rattle.std.specs.Prelude.{ℕ, ◌<◌, ◌≡◌, Ok, Err, List}
use Rattle.netlist.specs.Graph.{Loop as LoopIn, LoopFree}
use Rattle.netlist.specs.Settle.{reads_in}
use Rattle.netlist.specs.Table.{signal_count}
use Rattle.slicefile.specs.declared.Reason.TheVariants.{OnLoop}
use Rattle.slicefile.specs.declared.Refusal.{Refusal}
use Rattle.slicefile.specs.declared.Size.{Size}
use Rattle.slicefile.specs.Refusals.{refused, Verdict}
use Rattle.column.specs.File.{gate_at}
use Rattle.column.specs.Check.{check_file}

-- the signals that a signal of the file reads directly
abbrev pub reads_at : List ℕ → ℕ → List ℕ
reads_at file = reads_in (gate_at file)

-- "a loop is a signal that depends on itself"
abbrev pub Loop : List ℕ → ℕ → Type 0
Loop file = LoopIn (reads_at file)

-- some signal of n slices is on a loop
abbrev pub Looped : List ℕ → ℕ → Type 0
Looped file n = (x : ℕ) × (x < signal_count n) × Loop file x

-- a bad record's reason and place; for sound records, accepted where no signal is on a loop, else refused at "the smallest signal on a loop"
pub data Judged (file : List ℕ) : Verdict → Type 0 where
  bad : {r : Refusal} → check_file file ≡ Err r → Judged file (Err r)
  accepted : {size : Size} → check_file file ≡ Ok size → LoopFree (reads_at file) (signal_count size.n) → Judged file (Ok size)
  loop : {size : Size} {p : ℕ} → check_file file ≡ Ok size → p < signal_count size.n → Loop file p → ((x : ℕ) → x < p → Loop file x → ⊥)
      → Judged file (Err (refused OnLoop p))
