-- The length of a part that begins at a place. Assumes nothing.
use mathlib.Core.Path.{◌≡◌}
use Prim.Native.Nat.{ℕ, ◌+◌, ◌-◌}
use native.Mathlib.Omega.{arith}

pub from_place : (place long : ℕ) → place + long - place ≡ long
from_place place long = omega arith
