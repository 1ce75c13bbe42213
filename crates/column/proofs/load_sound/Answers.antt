-- `column::load_sound` meets its contract: a signal on a loop is refused, and an order shows that there is none. Assumes nothing.
use mathlib.Core.Path.{◌≡◌, ◌∙◌, sym, subst}
use mathlib.Core.List.{List}
use Prim.Native.Nat.{ℕ, ◌≤◌}
use native.Mathlib.Omega.{arith}
use lib.ListN.{length, take}
use lib.Seq.{take_at, length-take-le}
use Rattle.netlist.proofs.Order.{loop_free}
use Rattle.netlist.specs.Table.{signal_count, signal_limit, table_length}
use Rattle.toposort.specs.Answer.{OrderOrLoop}
use Rattle.slicefile.specs.Format.{slice_limit}
use Rattle.column.specs.File.{gate_at}
use Rattle.column.specs.Check.{IsSound}
use Rattle.column.specs.Compile.{table_limit}
use Rattle.column.specs.Judge.{accepted, loop}
use Rattle.column.proofs.Netlist.{lowered_agree, lowered_range}
use Rattle.column.proofs.SoundLaws.{sound_file}
use Rattle.column.proofs.load_sound.Goals as goal

few : (file : List ℕ) {n m : ℕ} → IsSound file n m → n ≤ slice_limit
few file h = (sound_file file h).slices_fit

-- the fronts of the two buffers
numbers : {n : ℕ} (table : List ℕ) → n ≤ slice_limit → length table ≡ table_limit → length (take (table_length n) table) ≡ table_length n
numbers table l e = length-take-le _ _ (omega arith)

signals : {n : ℕ} (order : List ℕ) → n ≤ slice_limit → length order ≡ signal_limit → length (take (signal_count n) order) ≡ signal_count n
signals order l e = length-take-le _ _ (omega arith)

pub overflow_mul-numbers : goal.overflow_mul-numbers
overflow_mul-numbers c = omega (arith, few _ c.args.sound.now.checked)

pub overflow_mul-signals : goal.overflow_mul-signals
overflow_mul-signals c = omega (arith, few _ c.args.sound.now.checked)

pub slice_bounds-compile-end : goal.slice_bounds-compile-end
slice_bounds-compile-end c = omega (arith, few _ c.args.sound.now.checked)

pub slice_bounds-compile-end-2 : goal.slice_bounds-compile-end-2
slice_bounds-compile-end-2 c = sym (numbers _ (few _ c.args.sound.now.checked) c.requires.0)

pub slice_bounds-compile-end-3 : goal.slice_bounds-compile-end-3
slice_bounds-compile-end-3 c = omega (arith, few _ c.args.sound.now.checked)

pub slice_bounds-compile-end-4 : goal.slice_bounds-compile-end-4
slice_bounds-compile-end-4 c = sym (signals _ (few _ c.args.sound.now.checked) c.requires.1)

pub compile-requires : goal.compile-requires
compile-requires c =
    let l = few _ c.args.sound.now.checked in
    (numbers _ l c.requires.0, signals _ l c.requires.1)

pub returns-in-Err : goal.returns-in-Err
returns-in-Err c =
    let w = subst (OrderOrLoop (gate_at c.args.sound.now.file.now) c.args.sound.now.n c.compile.new.order) c.in-Err.is c.compile.ensures.sorted in
    rw c.at.ensures (loop c.args.sound.now.checked w.0 w.1 w.2)

pub returns-in-Ok : goal.returns-in-Ok
returns-in-Ok c =
    let o = subst (OrderOrLoop (gate_at c.args.sound.now.file.now) c.args.sound.now.n c.compile.new.order) c.in-Ok.is c.compile.ensures.sorted in
    let file = c.args.sound.now.file.now in
    let table = c.compile.new.table in
    let order = c.compile.new.order in
    let l = few _ c.args.sound.now.checked in
    let sized = c.compile.auto.table ∙ numbers _ l c.requires.0 in
    let listed = c.compile.auto.order ∙ signals _ l c.requires.1 in
    let f = sound_file file c.args.sound.now.checked in
    record {
      verdict = accepted c.args.sound.now.checked (loop_free o.0);
      table = rw (take_at table _ _ sized) (omega (arith, l), sized);
      lowered = rw (take_at table _ _ sized) (lowered_agree file f table c.compile.ensures.lowered);
      ranges = rw (take_at table _ _ sized) (lowered_range file f table c.compile.ensures.lowered);
      ordered = rw (take_at order _ _ listed) o.0;
      flops = rw (take_at order _ _ listed) o.1;
    }
