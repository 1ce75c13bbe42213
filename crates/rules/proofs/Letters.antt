-- What rule 6 tells of each letter of a slice that passes the rules. Assumes nothing.
use mathlib.Core.Path.{◌≡◌}
use mathlib.Core.Bool.{false, not, ◌&&◌, ◌||◌}
use mathlib.Core.List.{List}
use Prim.Native.Nat.{ℕ, ◌+◌, ◌%◌, ◌^◌, ◌≤◌, ◌<◌}
use borrow.Author.Tests.{eq-eqb, eqb-true, not-false, ltb-false}
use Rattle.std.specs.Prelude.{Ok}
use Rattle.slicefile.specs.declared.Reason.TheVariants.{NotDue, OutsideList, Combination}
use lib.Dec.{leb, ltb, eqb}
use Rattle.slicefile.specs.Lists.{any_below}
use Rattle.slicefile.specs.Format.{number_byte, kind, mode, shift_data, contents_word, carry_data, carry_start, mux_choice, main_input, second_input, set_reset_used}
use Rattle.slicefile.proofs.Tests.{or_left, or_right, none_below}
use Rattle.rules.specs.Rules.{given, mode_is, letter_choice, bad_choice, letter_combination, bad_combination, body_refusal}
use Rattle.rules.proofs.Refusals.{or_else_left, or_else_right, given_none}

module _ (n m s : ℕ) (body : List ℕ) (ok : body_refusal n m s body ≡ Ok tt) where
  letter_good : (l : ℕ) → l < 4 → letter_combination body l ≡ false
  unfolding body_refusal bad_combination
  letter_good l h =
      let e₁ = or_else_right (given NotDue (not (eqb (number_byte body) (s % 256)))) _ ok in
      let e₂ = or_else_right (given OutsideList (bad_choice body)) _ e₁ in
      let combination = given_none Combination (bad_combination s body) (or_else_left (given Combination (bad_combination s body)) _ e₂) in
      let some = any_below 4 (letter_combination body) in
      let both = any_below 4 (mode_is body 1) && any_below 4 (mode_is body 2) in
      let start = eqb s 0 && eqb (carry_start body) 3 in
      none_below 4 (letter_combination body) (or_left some both (or_left (some || both) start combination)) l h

  -- "mode 1 in A-C without D" and "mode 2 with bits 32-63 set" are refused
  two_parts : (l : ℕ) → l < 4 → ((mode_is body 1 l && not (mode_is body 1 3)) ≡ false) × ((mode_is body 2 l && leb (2 ^ 32) (contents_word body l)) ≡ false)
  unfolding letter_combination
  two_parts l h =
      let small = eqb (kind body) 0 && not (mode_is body 0 l) in
      let memory = mode_is body 1 l && not (mode_is body 1 3) in
      let cascade = eqb (shift_data body l) 1 && (eqb l 3 || not (mode_is body 2 l) || not (mode_is body 2 (l + 1))) in
      let long = mode_is body 2 l && leb (2 ^ 32) (contents_word body l) in
      let first = or_left (small || memory || cascade) long (letter_good l h) in
      (or_right small memory (or_left (small || memory) cascade first), or_right (small || memory || cascade) long (letter_good l h))

  -- so a letter in memory mode has D in memory mode
  pub memory_with_d : (l : ℕ) → l < 4 → mode body l ≡ 1 → mode body 3 ≡ 1
  memory_with_d l h is = eqb-true (mode body 3) 1 (not-false _ (rw (eq-eqb (mode body l) 1 is) at (two_parts l h).0))

  -- and the contents of one in shift mode have 32 bits
  pub shift_fits : (l : ℕ) → l < 4 → (mode_is body 2 l && leb (2 ^ 32) (contents_word body l)) ≡ false
  shift_fits l h = (two_parts l h).1

  -- its mode is 0, 1 or 2
  pub mode_listed : (l : ℕ) → l < 4 → mode body l ≤ 2
  unfolding body_refusal bad_choice letter_choice
  mode_listed l h =
      let e = or_else_right (given NotDue (not (eqb (number_byte body) (s % 256)))) _ ok in
      let choice = given_none OutsideList (bad_choice body) (or_else_left (given OutsideList (bad_choice body)) _ e) in
      let letters = or_right (ltb 1 (kind body) || ltb 3 (carry_start body) || ltb 1 (set_reset_used body)) (any_below 4 (letter_choice body)) choice in
      let a = ltb 2 (mode body l) in
      let b = ltb 1 (shift_data body l) in
      let c = ltb 1 (carry_data body l) in
      let d = ltb 4 (mux_choice body l) in
      let f = ltb 5 (main_input body l) in
      let g = ltb 1 (second_input body l) in
      let one = none_below 4 (letter_choice body) letters l h in
      ltb-false 2 (mode body l) (or_left a b (or_left (a || b) c (or_left (a || b || c) d (or_left (a || b || c || d) f (or_left (a || b || c || d || f) g one)))))
