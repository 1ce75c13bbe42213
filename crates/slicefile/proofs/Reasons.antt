-- Reasons and their numbers: every number has a reason, and a reason that has a name is its number's. Assumes nothing.
use mathlib.Core.Path.{◌≡◌, ◌∙◌, refl, sym, ap}
use mathlib.Core.Bool.{Bool, true, false, cond}
use Prim.Native.Nat.{ℕ}
use lib.Dec.{T, eqb, eqb→eq}
use Rattle.slicefile.specs.declared.Reason.{Reason}
use Rattle.slicefile.specs.declared.Reason.TheVariants as reason
use Rattle.slicefile.specs.Refusals.{number, reason_of}

-- a choice that has a property on both sides; the first side may use that the test passed
by_test : (P : Reason → Type 0) (t : Bool) (a b : Reason) → (T t → P a) → P b → P (cond t a b)
by_test P true a b f g = f tt
by_test P false a b f g = g

pub number_of : (k : ℕ) → number (reason_of k) ≡ k
number_of k =
    let P : Reason → Type 0 = λ r. number r ≡ k in
    let here : (i : ℕ) → T (eqb k i) → i ≡ k = λ i t. sym (eqb→eq k i t) in
    by_test P (eqb k 1) _ _ (here 1)
    (by_test P (eqb k 2) _ _ (here 2)
    (by_test P (eqb k 3) _ _ (here 3)
    (by_test P (eqb k 4) _ _ (here 4)
    (by_test P (eqb k 5) _ _ (here 5)
    (by_test P (eqb k 6) _ _ (here 6)
    (by_test P (eqb k 7) _ _ (here 7)
    (by_test P (eqb k 8) _ _ (here 8)
    (by_test P (eqb k 9) _ _ (here 9)
    (by_test P (eqb k 10) _ _ (here 10)
    (by_test P (eqb k 11) _ _ (here 11) refl))))))))))

-- whether it has a name
abbrev pub named : Reason → Bool
named reason.Cut = true
named reason.UnknownTag = true
named reason.WrongLength = true
named reason.NotDue = true
named reason.OutsideList = true
named reason.Combination = true
named reason.NoDriver = true
named reason.BytesAfterEnd = true
named reason.OnLoop = true
named reason.WrongBuffer = true
named reason.OutOfRange = true
named (reason.Other k) = false

pub named_by : (r : Reason) → T (named r) → reason_of (number r) ≡ r
named_by reason.Cut t = refl
named_by reason.UnknownTag t = refl
named_by reason.WrongLength t = refl
named_by reason.NotDue t = refl
named_by reason.OutsideList t = refl
named_by reason.Combination t = refl
named_by reason.NoDriver t = refl
named_by reason.BytesAfterEnd t = refl
named_by reason.OnLoop t = refl
named_by reason.WrongBuffer t = refl
named_by reason.OutOfRange t = refl
named_by (reason.Other k) t = absurd t

-- reasons with names and one number are the same
pub same_reason : (q r : Reason) → T (named q) → T (named r) → number q ≡ number r → q ≡ r
same_reason q r a b e = sym (named_by q a) ∙ ap reason_of e ∙ named_by r b
