-- That a plan can be run on is a proposition, as a fact kept beside the plan has to be.
use Rattle.std.specs.Prelude.{ℕ, List}
use native.Mathlib.Nat.{ℕ_set}
use native.Mathlib.Bridge.{le_prop}
use Rattle.walks.specs.Props.{Ordered-prop}
use Rattle.plan.specs.Plan.{Runnable}

pub Runnable-prop : (n m : ℕ) (plan : List ℕ) → IsProp (Runnable n m plan)
Runnable-prop n m plan = hlevel (Ordered-prop, le_prop, ℕ_set)
