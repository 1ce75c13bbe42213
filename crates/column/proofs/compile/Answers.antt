-- `column::compile` meets its contract: the table has the file's netlist, so the answer for the one is the answer for the other. Assumes nothing.
use mathlib.Core.Path.{◌∙◌}
use mathlib.Core.List.{List}
use Prim.Native.Nat.{ℕ}
use native.Mathlib.Omega.{arith}
use Rattle.netlist.specs.Agree.{Agree}
use Rattle.netlist.specs.Graph.{WellFormed}
use Rattle.netlist.specs.Settle.{reads_in}
use Rattle.netlist.specs.Table.{signal_count, gate_of}
use Rattle.netlist.proofs.Agree.{agree_sym, well_formed_agree}
use Rattle.toposort.proofs.Answers.{order_or_loop_agree}
use Rattle.column.specs.File.{gate_at}
use Rattle.column.specs.Check.{IsSound}
use Rattle.column.specs.Compile.{Lowered}
use Rattle.column.proofs.Netlist.{sound_well_formed, lowered_agree, lowered_range}
use Rattle.column.proofs.SoundLaws.{sound_file}
use Rattle.column.proofs.compile.Goals as goal

-- the table that was left has the file's gates, and its netlist is well formed, since the file's is
module _ (file : List ℕ) {n m : ℕ} (sound : IsSound file n m) (table : List ℕ) (lowered : Lowered file n table) where
  agree : Agree (gate_of table n) (gate_at file) (signal_count n)
  agree = lowered_agree file (sound_file file sound) table lowered

  closed : WellFormed (reads_in (gate_of table n)) (signal_count n)
  closed = well_formed_agree _ _ (signal_count n) (agree_sym agree) (sound_well_formed file (sound_file file sound))

pub order_or_loop-requires : goal.order_or_loop-requires
order_or_loop-requires c =
    let file = c.args.sound.now.file.now in
    let h = c.args.sound.now.checked in
    let f = sound_file file h in
    let table = c.lower.new.table in
    record {
      table = (
        (omega (arith, f.slices_fit), c.lower.auto.table ∙ c.requires.0),
        (lowered_range file f table c.lower.ensures).stored,
        c.requires.1,
      );
      well_formed = closed file h table c.lower.ensures;
    }

pub returns : goal.returns
returns c =
    let file = c.args.sound.now.file.now in
    let n = c.args.sound.now.n in
    let table = c.lower.new.table in
    let o = c.order_or_loop in
    let h = c.args.sound.now.checked in
    record {
      lowered = c.lower.ensures;
      sorted = order_or_loop_agree (gate_of table n) (gate_at file) n (agree file h table c.lower.ensures) (closed file h table c.lower.ensures) o.new.order o.result o.ensures;
    }
