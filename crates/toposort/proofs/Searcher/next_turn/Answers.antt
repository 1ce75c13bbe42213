-- `toposort::Searcher::next_turn` meets its contract: the read that the code looked at is the one before the mark of the top. Assumes nothing.
use Prim.Native.Nat.{ℕ, suc, ◌-◌, ◌<◌}
use mathlib.Core.Path.{◌≡◌, sym}
use native.Mathlib.Omega.{arith}
use Rattle.std.specs.Prelude.{Some}
use Rattle.netlist.specs.declared.Gate.{Gate}
use Rattle.netlist.specs.Graph.{Reads, WellFormed}
use Rattle.netlist.specs.Settle.{reads_in}
use Rattle.toposort.specs.Reading.{read_at}
use Rattle.toposort.specs.Searcher.{gates_in}
use Rattle.toposort.proofs.Reading.{reads_of_lem, same_signal}
use Rattle.toposort.proofs.Searcher.next_turn.Goals as goal

-- the code looked at the place before the mark, and found signal y
module _ (g : ℕ → Gate) (top mark y : ℕ) (found : Some y ≡ read_at g top (mark - 1)) where
  top_reads : Reads (reads_in g) top y
  top_reads = reads_of_lem g top (mark - 1) y (sym found)

  y_below : (N : ℕ) → WellFormed (reads_in g) N → top < N → y < N
  y_below N wf l = wf top y l top_reads

  -- the read is y and no other
  only : {m : ℕ} → mark ≡ m → (i z : ℕ) → suc i ≡ m → read_at g top i ≡ Some z → z ≡ y
  only e i z n r = let h : i ≡ mark - 1 = omega arith in same_signal g top i z y r (rw h (sym found))

pub bounds-self-y : goal.bounds-self-y
bounds-self-y c =
    let h = y_below (gates_in c.args.gates.now) c.args.top c.from.result _ c.in-Some.ensures _ c.requires.gates.0 c.requires.top_ready.top_below in
    omega arith

pub returns-then-self-y-eq0 : goal.returns-then-self-y-eq0
returns-then-self-y-eq0 c = (
  y_below (gates_in c.args.gates.now) c.args.top c.from.result _ c.in-Some.ensures _ c.requires.gates.0 c.requires.top_ready.top_below,
  top_reads (gates_in c.args.gates.now) c.args.top c.from.result _ c.in-Some.ensures,
  c.if-self-y-eq0.true,
)

pub returns-then-place-head : goal.returns-then-place-head
returns-then-place-head c = (
  top_reads (gates_in c.args.gates.now) c.args.top c.from.result _ c.in-Some.ensures,
  record { below = omega arith; holds = (cc) },
  omega arith,
)

pub returns-then-from-y : goal.returns-then-from-y
returns-then-from-y c = (
  top_reads (gates_in c.args.gates.now) c.args.top c.from.result _ c.in-Some.ensures,
  record { below = omega arith; holds = (cc) },
  omega arith,
  c.if-mark-eq-LAST_MARK.false,
  only (gates_in c.args.gates.now) c.args.top c.from.result _ c.in-Some.ensures c.from.ensures,
)
