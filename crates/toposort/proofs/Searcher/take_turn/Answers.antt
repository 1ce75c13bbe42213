-- `toposort::Searcher::take_turn` meets its contract: each arm is one move of the search. Assumes nothing.
use Prim.Native.Nat.{ℕ, ◌<◌}
use mathlib.Core.Path.{◌≡◌, refl}
use mathlib.Core.Logic.{inl}
use native.Mathlib.Omega.{arith}
use lib.ListN.{length}
use Rattle.netlist.specs.declared.Gate.{Gate}
use Rattle.netlist.specs.declared.Gates.{Gates}
use Rattle.toposort.specs.declared.Scan.{Scan}
use Rattle.toposort.specs.declared.Searcher.{Searcher}
use Rattle.toposort.specs.Search.{Search}
use Rattle.toposort.specs.Components.{Components, IsTop, Moved}
use Rattle.toposort.specs.Searcher.{gates_in, signals_in, buffers_in, SameOrder, Stepped}
use Rattle.toposort.proofs.Components.{order_room, ready, above_read}
use Rattle.toposort.proofs.Moves.{raise, meet, merge, leave, close}
use Rattle.toposort.proofs.Searcher.take_turn.Goals as goal

-- what a move leaves is what the call left, which says what it did to the buffers and where it stands then
module _ (t : Gates) (old new : Searcher) where
  stepped : {b : Search} {q : Scan} → buffers_in new ≡ b → new.scan ≡ q
      → Moved (gates_in t) (signals_in t) old.marks.now old.order.now old.scan b q → SameOrder old new → Stepped t old new
  stepped e f m o = (same e f m, o)
    where
      same : {b b' : Search} {q q' : Scan} → b' ≡ b → q' ≡ q
          → Moved (gates_in t) (signals_in t) old.marks.now old.order.now old.scan b q
          → Moved (gates_in t) (signals_in t) old.marks.now old.order.now old.scan b' q'
      same e f m = rw (e, f) m

-- the top can be listed
module _ {g : ℕ → Gate} {N : ℕ} {b : Search} {p : Scan} (s : Components g N b p) {top : ℕ} (t : IsTop b.path p top) where
  can_list : p.done < length b.order
  can_list = let r = ready s t in order_room s top r.top_below (λ e. omega (arith, r.top_open.left))

pub next_turn-requires-clause-top_ready : goal.next_turn-requires-clause-top_ready
next_turn-requires-clause-top_ready c = ready c.requires.sound c.requires.top.1

pub close_top-requires : goal.close_top-requires
close_top-requires c =
    let r = ready c.requires.sound c.requires.top.1 in
    let l = can_list c.requires.sound c.requires.top.1 in
    record { top_in_bounds = (omega arith, l); top_lt_signal_limit = (omega arith, omega arith, omega arith) }

pub close_top-requires-in-Leave : goal.close_top-requires-in-Leave
close_top-requires-in-Leave c =
    let r = ready c.requires.sound c.requires.top.1 in
    let l = can_list c.requires.sound c.requires.top.1 in
    record { top_in_bounds = (omega arith, l); top_lt_signal_limit = (omega arith, omega arith, omega arith) }

pub open_signal-requires-clause-above : goal.open_signal-requires-clause-above
open_signal-requires-clause-above c = above_read c.requires.sound c.requires.top.1 c.in-Open.ensures.1

pub returns-in-Close : goal.returns-in-Close
returns-in-Close c =
    let w = c.in-Close.ensures in
    let e = c.close_top.ensures in
    stepped c.args.gates.now c.args.self.now c.close_top.new.self e.buffers.0 e.scan
    (close c.requires.sound c.requires.top.1 _ c.requires.top.0 w.0 w.1 w.2) e.buffers.1

pub returns-in-Leave : goal.returns-in-Leave
returns-in-Leave c =
    let w = c.in-Leave.ensures in
    let e = c.close_top-in-Leave.ensures in
    stepped c.args.gates.now c.args.self.now c.close_top-in-Leave.new.self e.buffers.0 e.scan
    (leave c.requires.sound c.requires.top.1 c.requires.top.0 w.0 w.1) e.buffers.1

pub returns-in-Raise : goal.returns-in-Raise
returns-in-Raise c =
    let w = c.in-Raise.ensures in
    let e = c.raise_top.ensures in
    stepped c.args.gates.now c.args.self.now c.raise_top.new.self e.buffers.0 e.scan
    (raise c.requires.sound c.requires.top.1 _ _ c.requires.top.0 refl w.0 (omega arith) c.requires.sound.best_loop (λ i y e r. inl (w.1 i y e r))) e.buffers.1

pub returns-in-Merge : goal.returns-in-Merge
returns-in-Merge c = let w = c.in-Merge.ensures in (merge c.requires.sound c.requires.top.1 _ w.0 w.1 w.2, refl)

pub returns-in-Meet : goal.returns-in-Meet
returns-in-Meet c =
    let w = c.in-Meet.ensures in
    let e = c.raise_top-in-Meet.ensures in
    stepped c.args.gates.now c.args.self.now c.raise_top-in-Meet.new.self e.buffers.0 e.scan
    (meet c.requires.sound c.requires.top.1 _ _ _ c.requires.top.0 refl w.3 (omega arith) (omega arith) (grind arith) w.0 w.4 w.1 w.2) e.buffers.1
