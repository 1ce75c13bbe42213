-- `rules::bad_driver` meets its contract. The loop's invariant: `found` says whether a pin before p has no driver. Assumes nothing.
use mathlib.Core.Path.{◌≡◌}
use mathlib.Core.Bool.{Bool}
use mathlib.Core.List.{List}
use Prim.Native.Nat.{ℕ}
use Rattle.slicefile.specs.Lists.{any_below}
use Rattle.slicefile.specs.Format.{pin_code}
use Rattle.std.specs.Prelude.{is_none}
use Rattle.slicefile.specs.Driver.{driver_of}
use Rattle.rules.proofs.bad_driver.Given as goal

-- pin p has no driver
abbrev pub undriven : ℕ → ℕ → List ℕ → ℕ → Bool
undriven n m body p = is_none (driver_of (pin_code body p) n m)

abbrev pub invariant-loop-p : goal.invariant-loop-p
invariant-loop-p l = (l.found ≡ any_below l.p (undriven l.n l.m l.body))
