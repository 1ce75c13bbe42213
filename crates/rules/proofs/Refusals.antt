-- Reasons put together. Assumes nothing.
use mathlib.Core.Path.{◌≡◌, refl}
use mathlib.Core.Bool.{Bool, true, false}
use mathlib.Core.Logic.{◌⊎◌, inl, inr}
use Rattle.std.specs.Prelude.{Ok, Err}
use Rattle.slicefile.specs.declared.Reason.{Reason}
use Rattle.slicefile.specs.Refusals.{Tested}
use Rattle.rules.specs.Rules.{given, ◌or_else◌}

-- where no reason is given, neither part gives one
pub or_else_left : (a b : Tested) → a or_else b ≡ Ok tt → a ≡ Ok tt
or_else_left (Ok u) b e = refl
or_else_left (Err r) b e = absurd (cc e)

pub or_else_right : (a b : Tested) → a or_else b ≡ Ok tt → b ≡ Ok tt
or_else_right (Ok u) b e = e
or_else_right (Err r) b e = absurd (cc e)

-- the first reason that is given
pub or_else_first : (a b : Tested) → (a ≡ Ok tt → ⊥) → a ≡ a or_else b
or_else_first (Ok u) b ne = absurd (ne refl)
or_else_first (Err r) b ne = refl

pub or_else_second : (a b : Tested) → a ≡ Ok tt → b ≡ a or_else b
or_else_second (Ok u) b e = refl
or_else_second (Err r) b e = absurd (cc e)

pub given_none : (r : Reason) (t : Bool) → given r t ≡ Ok tt → t ≡ false
given_none r true e = absurd (cc e)
given_none r false e = refl

-- a test gives a reason, or none
pub tested_cases : (t : Tested) → (t ≡ Ok tt) ⊎ ((r : Reason) × (t ≡ Err r))
tested_cases (Ok u) = inl refl
tested_cases (Err r) = inr (r, refl)
