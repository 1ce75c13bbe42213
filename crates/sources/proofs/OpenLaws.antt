-- A pin left open, driver code 2. Assumes nothing.
use mathlib.Core.Path.{◌≡◌, ◌∙◌, refl, ap, subst⁻¹}
use mathlib.Core.Bool.{true}
use mathlib.Core.List.{List}
use Prim.Native.Nat.{ℕ}
use Rattle.netlist.specs.Rule.{value_of, signals_in}
use Rattle.netlist.specs.Table.{code_of}
use Rattle.netlist.specs.declared.Source.TheVariants.{Constant}
use Rattle.slicefile.specs.Format.{pin_code}
use Rattle.slicefile.specs.Driver.{driver_of}
use Rattle.slicefile.proofs.DriverLaws.{two_open}
use Rattle.sources.specs.Sources.{decoded_source, pin_source, PulledUp}

-- any pin of any slice, in a column of any size
pub open_is_one : (n m : ℕ) (body : List ℕ) (p : ℕ) → pin_code body p ≡ 2 → pin_source n m body p ≡ Constant true
unfolding pin_source
open_is_one n m body p e = ap decoded_source (ap (λ (code : ℕ). driver_of code n m) e ∙ two_open n m)

one_pulled_up : PulledUp (Constant true)
unfolding value_of signals_in
one_pulled_up = record { one = λ inputs values. refl; no_signal = λ others. refl; no_input = λ j. refl }

pub open_pulled_up : (n m : ℕ) (body : List ℕ) (p : ℕ) → pin_code body p ≡ 2 → PulledUp (pin_source n m body p)
open_pulled_up n m body p e = subst⁻¹ PulledUp (open_is_one n m body p e) one_pulled_up

-- in the gate table its number is that of the constant 1
pub open_number : (n m : ℕ) (body : List ℕ) (p : ℕ) → pin_code body p ≡ 2 → code_of n (pin_source n m body p) ≡ 1
unfolding code_of
open_number n m body p e = ap (code_of n) (open_is_one n m body p e)
