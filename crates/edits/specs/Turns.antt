-- "The edits made one after another", each by a call of its own.
use Rattle.std.specs.Prelude.{ℕ, Ok, List, [], ◌∷◌}
use Rattle.netlist.specs.Rule.{Env}
use Rattle.editlist.specs.declared.Edit.{Edit}
use Rattle.edits.specs.Edits.{EditsMade}

-- calls on a file with one edit each, none of them refused, each on the buffers as the one before left them
pub data InTurn (file : List ℕ) : Env → List ℕ → List Edit → Env → List ℕ → Type 0 where
  no_call : {e : Env} {t : List ℕ} → InTurn file e t [] e t
  call_then : {e mid after : Env} {t u v : List ℕ} {x : Edit} {es : List Edit} → EditsMade file e mid (x ∷ []) t u (Ok tt) → InTurn file mid u es after v
      → InTurn file e t (x ∷ es) after v
