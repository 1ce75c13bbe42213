-- The driver that a code names is there, its outside input among those that have a code, in a column of any size. Assumes nothing.
use mathlib.Core.Bool.{Bool, true, false, cond, ◌&&◌}
use Rattle.std.specs.Prelude.{Option}
use Prim.Native.Nat.{ℕ, ◌-◌, ◌/◌, ◌%◌}
use native.Mathlib.Omega.{arith}
use lib.Dec.{ltb, eqb, ltb→lt, T}
use Rattle.slicefile.specs.Driver.{DecodedWithin, driver_of}
use Rattle.slicefile.specs.declared.Driver.{Driver}
use Rattle.slicefile.proofs.Tests.{and_left, and_right}
use Rattle.sources.specs.Sources.{input_codes}

-- a choice has a property that both sides have; the first side may use that the test passed
by_test : (P : Option Driver → Type 0) (t : Bool) (a b : Option Driver) → (T t → P a) → P b → P (cond t a b)
by_test P true a b f g = f tt
by_test P false a b f g = g

pub code_within : (code n m : ℕ) → DecodedWithin n input_codes (driver_of code n m)
unfolding driver_of
code_within code n m =
    let P : Option Driver → Type 0 = DecodedWithin n input_codes in
    let here = ltb ((code - 4096) / 16) n in
    let one = ltb (code % 16) 12 in
    by_test P (ltb code 2) _ _ (λ t. tt)
    (by_test P (ltb code 256) _ _ (λ t. by_test P (eqb code 2) _ _ (λ u. tt) tt)
    (by_test P (ltb code 4096) _ _ (λ t. by_test P (ltb (code - 256) m) _ _ (λ u. omega (arith, ltb→lt _ _ t)) tt)
    (by_test P (here && one) _ _ (λ t. (ltb→lt _ _ (and_left here one t), ltb→lt _ _ (and_right here one t))) tt)))
