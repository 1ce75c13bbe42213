-- A slice lent to a function: its elements as they were when it was called (`was`), and as the function left them (`left`); of a slice that a
-- function only reads, its elements (`shown`). A contract gives the function's parameter itself, which has both moments.
use Rattle.std.specs.Prelude.{List, ℕ}
use Rattle.std.specs.Borrow.{Bor, MutBor}
use denote.Triple.Both.{Both}

-- a slice as a function holds it at one moment, its elements then being `now`; and one that it only reads
abbrev pub Held : Type 0
Held = MutBor (List ℕ)

abbrev pub Seen : Type 0
Seen = Bor (List ℕ)

-- a slice at the call and at the return, and one that the function only reads
abbrev pub Lent : Type 0
Lent = Both Held Held

abbrev pub Shown : Type 0
Shown = Both Seen Seen

abbrev pub was : {D : Type 0} → Both (MutBor (List D)) (MutBor (List D)) → List D
was s = s.entry.now

abbrev pub left : {D : Type 0} → Both (MutBor (List D)) (MutBor (List D)) → List D
left s = s.exit.now

abbrev pub shown : {D : Type 0} → Both (Bor (List D)) (Bor (List D)) → List D
shown s = s.entry.now
