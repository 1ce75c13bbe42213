-- Marks, and counts over lists of them. A mark is 0 for an unseen signal, 8 for a done one, and 1 to 7 for an open one, of which the
-- reads before place mark - 1 are done.
use Rattle.std.specs.Prelude.{ℕ, suc, ◌+◌, ◌-◌, Bool, true, false, List, [], ◌∷◌, eqb}

-- the mark of an open signal whose six reads are done, and the mark of a done one
abbrev pub last_mark : ℕ
last_mark = 7

abbrev pub done_mark : ℕ
done_mark = 8

-- how many elements of a list are v
abbrev pub one_if : Bool → ℕ → ℕ
one_if true n = suc n
one_if false n = n

unfoldable pub tally : ℕ → List ℕ → ℕ
tally v [] = 0
tally v (x ∷ xs) = one_if (eqb x v) (tally v xs)

-- how often marks can still be raised by one
unfoldable pub room : List ℕ → ℕ
room [] = 0
room (x ∷ xs) = (done_mark - x) + room xs
