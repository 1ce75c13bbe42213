-- `toposort::Searcher::scan_all` meets its contract. The invariant is the state of the search; the measure is what it may still do. Assumes nothing.
use Prim.Native.Nat.{◌*◌, ◌≤◌}
use Rattle.netlist.specs.Table.{FlopsFirst}
use Rattle.toposort.specs.Components.{remaining}
use Rattle.toposort.specs.Searcher.{signals_in, SameOrder, Sound}
use Rattle.toposort.proofs.Searcher.scan_all.Given as goal

abbrev pub invariant-loop-self : goal.invariant-loop-self
invariant-loop-self l =
    Sound l.gates l.self × FlopsFirst l.gates.n l.self.order.now × (8 * l.gates.n ≤ l.self.scan.done) × SameOrder l.fn.self l.self

abbrev pub decreases-loop-self : goal.decreases-loop-self
decreases-loop-self l = remaining (signals_in l.gates) l.self.marks.now l.self.scan
