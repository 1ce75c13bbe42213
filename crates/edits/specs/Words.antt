-- What of a list in words is handed on as a list of edits.
use Rattle.std.specs.Prelude.{ℕ, ◌<◌, ◌≡◌, cond, List, ltb, get_or}
use Rattle.editlist.specs.Listed.{edit, none, edit_at}
use Rattle.editlist.specs.declared.Edit.{Edit}

-- a kind above a byte's becomes 255, which is of no kind either
abbrev pub narrowed : Edit → Edit
narrowed e = edit (cond (ltb 255 e.kind) 255 e.kind) e.number e.value

abbrev pub handed : List ℕ → ℕ → Edit
handed words i = narrowed (edit_at words i)

-- the first k edits are those of the words
abbrev pub Handed : List ℕ → ℕ → List Edit → Type 0
Handed words k es = (i : ℕ) → i < k → get_or es i none ≡ handed words i
