-- Rules 4 to 7: what is wrong with a slice's body, in the paper's order.
use Rattle.std.specs.Prelude.{ℕ, Ok, Err, is_none, ◌+◌, ◌%◌, ◌^◌, Bool, true, false, not, ◌&&◌, ◌||◌, List, leb, ltb, eqb}
use Rattle.slicefile.specs.Lists.{any_below}
use Rattle.slicefile.specs.Format.{number_byte, kind, mode, shift_data, contents_word, carry_data, carry_start, mux_choice, main_input, second_input, set_reset_used, pin_count, pin_code}
use Rattle.slicefile.specs.Driver.{driver_of}
use Rattle.slicefile.specs.declared.Reason.{Reason}
use Rattle.slicefile.specs.declared.Reason.TheVariants.{NotDue, OutsideList, Combination, NoDriver}
use Rattle.slicefile.specs.Refusals.{Tested}

-- a reason where the test says so
abbrev pub given : Reason → Bool → Tested
given r true = Err r
given r false = Ok tt

-- the first reason that is given
infixr 20 ◌or_else◌
abbrev pub ◌or_else◌ : Tested → Tested → Tested
(Ok u) or_else b = b
(Err r) or_else b = Err r

-- rule 5 for a letter, and for a slice: "a choice outside its list"
unfoldable pub letter_choice : List ℕ → ℕ → Bool
letter_choice body l =
    ltb 2 (mode body l)
    || ltb 1 (shift_data body l)
    || ltb 1 (carry_data body l)
    || ltb 4 (mux_choice body l)
    || ltb 5 (main_input body l)
    || ltb 1 (second_input body l)

unfoldable pub bad_choice : List ℕ → Bool
bad_choice body = ltb 1 (kind body) || ltb 3 (carry_start body) || ltb 1 (set_reset_used body) || any_below 4 (letter_choice body)

abbrev pub mode_is : List ℕ → ℕ → ℕ → Bool
mode_is body k l = eqb (mode body l) k

-- rule 6 for a letter: "SLICEL with a mode not 0"; "mode 1 in A-C without D"; "cascade at D, or where the letter or the next isn't mode 2";
-- "mode 2 with bits 32-63 set"
unfoldable pub letter_combination : List ℕ → ℕ → Bool
letter_combination body l =
    (eqb (kind body) 0 && not (mode_is body 0 l))
    || (mode_is body 1 l && not (mode_is body 1 3))
    || (eqb (shift_data body l) 1 && (eqb l 3 || not (mode_is body 2 l) || not (mode_is body 2 (l + 1))))
    || (mode_is body 2 l && leb (2 ^ 32) (contents_word body l))

-- rule 6 for the slice of a number: those, "modes 1 and 2 in one slice" and "carry start 3 in slice 0"
unfoldable pub bad_combination : ℕ → List ℕ → Bool
bad_combination number body =
    any_below 4 (letter_combination body)
    || (any_below 4 (mode_is body 1) && any_below 4 (mode_is body 2))
    || (eqb number 0 && eqb (carry_start body) 3)

-- rule 7: "a driver that doesn't exist"
unfoldable pub bad_driver : ℕ → ℕ → List ℕ → Bool
bad_driver n m body = any_below pin_count (λ p. is_none (driver_of (pin_code body p) n m))

-- the body of the slice of a number, of n slices and m outside inputs: "then 4, 5, 6, 7". The number byte holds the number modulo 256
unfoldable pub body_refusal : ℕ → ℕ → ℕ → List ℕ → Tested
body_refusal n m number body =
    given NotDue (not (eqb (number_byte body) (number % 256)))
    or_else given OutsideList (bad_choice body)
    or_else given Combination (bad_combination number body)
    or_else given NoDriver (bad_driver n m body)
