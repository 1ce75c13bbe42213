-- Request Two of the calls: what settle fills in adds, and so does the table that clock leaves. Assumes nothing.
use Rattle.std.specs.Prelude.{Ok}
use mathlib.Core.List.{List}
use Prim.Native.Nat.{ℕ}
use Rattle.column.specs.Clock.{State}
use Rattle.calls.specs.Calls.{done}
use Rattle.simulator.specs.Running.{SettleCalled, ClockCalled}
use Rattle.adders.specs.Adders.{CarryChain, Addend, Adds}
use Rattle.adders.proofs.Adders.{adders}

module _ (file : List ℕ) {st : State} {inputs old new : List ℕ} {base h : ℕ} (chain : CarryChain file base h) (b : ℕ) (add : Addend file inputs new base h b) where
  pub settle_adds : SettleCalled file st inputs old new (Ok tt) → Adds file inputs new base h b
  settle_adds (done _ _ settled) = adders file settled chain b add

  pub clock_adds : {moved : State} → ClockCalled file st moved inputs old new (Ok tt) → Adds file inputs new base h b
  clock_adds (done _ _ d) = adders file d.1 chain b add
