-- What a driver that exists tells. Assumes nothing.
use mathlib.Core.Path.{◌≡◌, refl, subst⁻¹}
use Rattle.std.specs.Prelude.{Option, Some, None}
use mathlib.Core.Bool.{Bool, true, false, cond, ◌&&◌}
use Prim.Native.Nat.{ℕ, ◌-◌, ◌/◌, ◌%◌, ◌<◌, ◌≤◌}
use native.Mathlib.Omega.{arith}
use lib.Dec.{ltb, eqb, ltb→lt, eqb→eq, T}
use Rattle.slicefile.specs.Driver.{DecodedWithin, driver_of}
use Rattle.slicefile.specs.declared.Output.{Output}
use Rattle.slicefile.specs.declared.Driver.{Driver}
use Rattle.slicefile.specs.declared.Driver.TheVariants as driver
use Rattle.slicefile.proofs.Tests.{and_left, and_right}

-- code 2 is a pin left open, in a column of any size
pub two_open : (n m : ℕ) → driver_of 2 n m ≡ Some driver.Open
unfolding driver_of
two_open n m = refl

-- a choice has a property that both sides have; the first side may use that the test passed
by_test : (P : Option Driver → Type 0) (t : Bool) (a b : Option Driver) → (T t → P a) → P b → P (cond t a b)
by_test P true a b f g = f tt
by_test P false a b f g = g

-- what holds of no driver, of each constant, of an open pin if the code is 2, of each outside input below m, and of each of the twelve
-- outputs of a slice below n holds of what a code names
pub driver_cases : (P : Option Driver → Type 0) (code n m : ℕ) → P None → ((b : Bool) → P (Some (driver.Constant b)))
    → (code ≡ 2 → P (Some driver.Open)) → ((j : ℕ) → j < m → P (Some (driver.Input j)))
    → ((o : Output) → o.slice < n → o.output < 12 → P (Some (driver.Output o)))
    → P (driver_of code n m)
unfolding driver_of
driver_cases P code n m none constant unconnected input output =
    let here = ltb ((code - 4096) / 16) n in
    let one = ltb (code % 16) 12 in
    by_test P (ltb code 2) _ _ (λ t. constant (eqb code 1))
    (by_test P (ltb code 256) _ _ (λ t. by_test P (eqb code 2) _ _ (λ u. unconnected (eqb→eq _ _ u)) none)
    (by_test P (ltb code 4096) _ _ (λ t. by_test P (ltb (code - 256) m) _ _ (λ u. input (code - 256) (ltb→lt _ _ u)) none)
    (by_test P (here && one) _ _ (λ t. output _ (ltb→lt _ _ (and_left here one t)) (ltb→lt _ _ (and_right here one t))) none)))

pub decoded_within : (code n m : ℕ) → DecodedWithin n m (driver_of code n m)
decoded_within code n m = driver_cases (DecodedWithin n m) code n m tt (λ b. tt) (λ e. tt) (λ j h. h) (λ o h k. (h, k))

-- a driver of fewer outside inputs is one of more
pub within_more : (n : ℕ) {m k : ℕ} → m ≤ k → (d : Option Driver) → DecodedWithin n m d → DecodedWithin n k d
within_more n h (Some (driver.Constant b)) w = tt
within_more n h (Some driver.Open) w = tt
within_more n h (Some (driver.Input j)) w = omega arith
within_more n h (Some (driver.Output o)) w = w
within_more n h None w = tt

abbrev is_open : Option Driver → Bool
is_open (Some (driver.Constant b)) = false
is_open (Some driver.Open) = true
is_open (Some (driver.Input j)) = false
is_open (Some (driver.Output o)) = false
is_open None = false

-- no other code than 2 is a pin left open
pub only_two : (code n m : ℕ) → driver_of code n m ≡ Some driver.Open → code ≡ 2
only_two code n m e =
    driver_cases (λ d. T (is_open d) → code ≡ 2) code n m (λ t. absurd t) (λ b t. absurd t) (λ two t. two) (λ j h t. absurd t)
    (λ o h k t. absurd t)
    (subst⁻¹ (λ (d : Option Driver). T (is_open d)) e tt)
