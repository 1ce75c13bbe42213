-- The settled tables of an accepted file: "there is exactly one such table", for any state and inputs. Assumes nothing.
use Rattle.std.specs.Prelude.{Ok}
use mathlib.Core.List.{List}
use Prim.Native.Nat.{ℕ, ◌<◌}
use lib.ListN.{get_or}
use Rattle.netlist.specs.Graph.{WellFormed, Ordered}
use Rattle.netlist.specs.Settle.{Settled}
use Rattle.netlist.proofs.Loops.{some_order}
use Rattle.netlist.proofs.Net.{some_settled}
use Rattle.netlist.proofs.Bits.{settled_bits}
use Rattle.netlist.specs.Table.{signal_count}
use Rattle.slicefile.specs.declared.Size.{Size}
use Rattle.column.specs.Clock.{State, env_of, SettledFor, OnlySettled}
use Rattle.column.specs.File.{gate_at}
use Rattle.column.specs.Judge.{reads_at, Judged}
use Rattle.column.proofs.Netlist.{sound_well_formed, settles_once}
use Rattle.column.proofs.Runs.{SettlesOnce}
use Rattle.column.proofs.SoundLaws.{SoundFile, sound_file}
use Rattle.column.proofs.Verdicts.{accepted_sound, accepted_free}

module _ (file : List ℕ) {size : Size} (j : Judged file (Ok size)) where
  pub records_sound : SoundFile file size.n size.m
  records_sound = sound_file file (accepted_sound file j)

  -- its netlist reads only its own signals
  pub closed : WellFormed (reads_at file) (signal_count size.n)
  closed = sound_well_formed file records_sound

  pub ordered : (order : List ℕ) × Ordered (reads_at file) (signal_count size.n) order
  ordered = some_order (reads_at file) (signal_count size.n) closed (accepted_free file j)

  pub settled_once : SettlesOnce file
  settled_once = settles_once file (rw (← records_sound.count) at (accepted_free file j))

  -- a table that is settled is the only one
  pub settled_only : (st : State) (inputs t : List ℕ) → Settled (gate_at file) (signal_count size.n) (env_of st inputs) t → OnlySettled file st inputs t
  settled_only st inputs t s =
      let here : SettledFor file st inputs t = rw records_sound.count s in
      (here, λ fresh after. settled_once st inputs t fresh here after)

  -- "there is exactly one such table"
  pub one_table : (st : State) (inputs : List ℕ) → (t : List ℕ) × OnlySettled file st inputs t
  one_table st inputs =
      let w = some_settled (gate_at file) (signal_count size.n) closed (accepted_free file j) (env_of st inputs) in
      (w.0, settled_only st inputs w.0 w.1)

  -- and its bytes are 0 and 1
  pub table_bits : (st : State) (inputs t : List ℕ) → SettledFor file st inputs t → (x : ℕ) → x < signal_count size.n → get_or t x 0 < 2
  table_bits st inputs t s = settled_bits (gate_at file) (rw records_sound.count at s)
