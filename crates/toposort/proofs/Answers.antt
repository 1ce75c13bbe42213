-- The answer of the search for one netlist is the answer for another with the same gates. Assumes nothing.
use mathlib.Core.List.{List}
use Prim.Native.Nat.{ℕ, ◌<◌}
use native.Mathlib.Omega.{arith}
use Rattle.std.specs.Prelude.{Result, Ok, Err}
use Rattle.netlist.specs.declared.Gate.{Gate}
use Rattle.netlist.specs.Agree.{Agree}
use Rattle.netlist.specs.Graph.{Loop, WellFormed}
use Rattle.netlist.specs.Settle.{reads_in}
use Rattle.netlist.specs.Table.{signal_count}
use Rattle.netlist.proofs.Agree.{agree_sym, well_formed_agree, loop_agree, ordered_agree}
use Rattle.toposort.specs.Answer.{OrderOrLoop}

module _ (g h : ℕ → Gate) (n : ℕ) (a : Agree g h (signal_count n)) (wf : WellFormed (reads_in g) (signal_count n)) where
  abbrev N : ℕ
  N = signal_count n

  pub order_or_loop_agree : (order : List ℕ) (r : Result (Unit {0}) ℕ) → OrderOrLoop g n order r → OrderOrLoop h n order r
  order_or_loop_agree order (Ok _) w = (ordered_agree g h N a order w.0, w.1)
  order_or_loop_agree order (Err x) w =
      (w.0, loop_agree g h N a wf w.0 w.1, λ y l d. w.2 y l (back y (omega (arith, w.0)) d))
    where
      back : (y : ℕ) → y < N → Loop (reads_in h) y → Loop (reads_in g) y
      back y = loop_agree h g N (agree_sym a) (well_formed_agree g h N a wf)
