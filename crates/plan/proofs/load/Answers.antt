-- `plan::load` meets its contract: a refusal is handed on. Assumes nothing.
use mathlib.Core.Path.{◌≡◌, sym}
use mathlib.Core.List.{List}
use Prim.Native.Nat.{ℕ}
use native.Mathlib.Omega.{arith}
use borrow.Author.Rules.{rules}
use lib.ListN.{length, take}
use lib.Seq.{length-take-le}
use Rattle.column.specs.Compile.{table_limit}
use Rattle.column.proofs.Verdicts.{accepted_sound}
use Rattle.plan.specs.Plan.{plan_limit}
use Rattle.plan.proofs.load.Goals as goal

-- the front of the buffer that the gate table is lowered into
front : (plan : List ℕ) → length plan ≡ plan_limit → length (take table_limit plan) ≡ table_limit
front plan e = length-take-le table_limit plan (omega arith)

pub slice_bounds-load-end-2 : goal.slice_bounds-load-end-2
slice_bounds-load-end-2 c = sym (front c.args.plan.now c.requires)

pub invariant_of-complete : goal.invariant_of-complete
invariant_of-complete c = record { checked = accepted_sound c.args.file.now c.in_ok-n.ensures.verdict }

pub load-requires : goal.load-requires
load-requires c = (front c.args.plan.now c.requires, search rules)
