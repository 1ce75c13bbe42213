-- The number on a row of wires, one wire after the other. Assumes nothing.
use mathlib.Core.Path.{◌≡◌}
use mathlib.Core.List.{List}
use Prim.Native.Nat.{ℕ, suc, ◌+◌, ◌-◌, ◌*◌, ◌^◌, ◌≤◌, ◌<◌}
use native.Mathlib.Nat.{two-pow-succ}
use native.Mathlib.Omega.{arith}
use lib.ListN.{get_or}
use Rattle.evaluation.specs.Numbers.{number_on}

module _ (wires e : List ℕ) (i j k : ℕ) (more : 0 < j) (fits : j ≤ k) where
  one_more : k - (j - 1) ≡ suc (k - j)
  one_more = omega arith

  -- one more wire, below those that are counted
  pub number_more :
      number_on wires e (i + (j - 1)) (k - (j - 1)) ≡ get_or wires (get_or e (i + (j - 1)) 0) 0 + 2 * number_on wires e (i + j) (k - j)
  unfolding number_on
  number_more =
      let place : suc (i + (j - 1)) ≡ i + j = omega arith in
      rw (one_more, place)

  pub small_more : {number b : ℕ} → number < 2 ^ (k - j) → b < 2 → b + 2 * number < 2 ^ (k - (j - 1))
  small_more h small = rw one_more (omega (arith, two-pow-succ (k - j)))
