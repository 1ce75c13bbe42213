-- What refuses: a reason by its number, a refusal at its place, and what is told where nothing is refused.
use Rattle.std.specs.Prelude.{ℕ, cond, eqb, Result}
use Rattle.slicefile.specs.declared.Reason.{Reason}
use Rattle.slicefile.specs.declared.Reason.TheVariants as reason
use Rattle.slicefile.specs.declared.Refusal.{Refusal}
use Rattle.slicefile.specs.declared.Size.{Size}

-- "Numbers a refusal carries": 1 "bytes run out in a record or before the end record", 2 "tag not 1, 2, 3", 3 "length not the tag's", 4 "tag or
-- slice number not the one due", 5 "n, m or a choice outside its list", 6 a combination that is not there, 7 "a driver that doesn't exist",
-- 8 "bytes after the end record", 9 "a loop", 10 "a buffer of another length than named", 11 "an argument not in range"
abbrev pub number : Reason → ℕ
number reason.Cut = 1
number reason.UnknownTag = 2
number reason.WrongLength = 3
number reason.NotDue = 4
number reason.OutsideList = 5
number reason.Combination = 6
number reason.NoDriver = 7
number reason.BytesAfterEnd = 8
number reason.OnLoop = 9
number reason.WrongBuffer = 10
number reason.OutOfRange = 11
number (reason.Other k) = k

-- and back
abbrev pub reason_of : ℕ → Reason
reason_of k =
    cond (eqb k 1) reason.Cut
    (cond (eqb k 2) reason.UnknownTag
    (cond (eqb k 3) reason.WrongLength
    (cond (eqb k 4) reason.NotDue
    (cond (eqb k 5) reason.OutsideList
    (cond (eqb k 6) reason.Combination
    (cond (eqb k 7) reason.NoDriver
    (cond (eqb k 8) reason.BytesAfterEnd
    (cond (eqb k 9) reason.OnLoop
    (cond (eqb k 10) reason.WrongBuffer
    (cond (eqb k 11) reason.OutOfRange (reason.Other k)))))))))))

-- a refusal at a place, and a size of n slices and m outside inputs
abbrev pub refused : Reason → ℕ → Refusal
refused r p = record { reason = r; place = p }

abbrev pub sized : ℕ → ℕ → Size
sized n m = record { n = n; m = m }

-- a test's answer: nothing, or a reason
abbrev pub Tested : Type 0
Tested = Result (Unit {0}) Reason

-- an answer that gives nothing back, and a verdict: a refusal, or done; a refusal, or the size of what is accepted
abbrev pub Answer : Type 0
Answer = Result (Unit {0}) Refusal

abbrev pub Verdict : Type 0
Verdict = Result Size Refusal
