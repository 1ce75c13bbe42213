-- What the loops over an order keep true. No promise of a public call cites these: they are for helpers that do a part of such a loop.
use Rattle.std.specs.Prelude.{◌≡◌, Bool, true, List, ℕ, ◌<◌, get_or}
use Rattle.netlist.specs.declared.Gate.{Gate}
use Rattle.netlist.specs.Rule.{Env}
use Rattle.netlist.specs.Graph.{Reads, Before, InOrder, Affected}
use Rattle.netlist.specs.Settle.{reads_in, rule_in, is_marked}

-- the first k places are in order: the invariant of a loop that builds or checks an order
abbrev pub OrderedTo : (ℕ → List ℕ) → ℕ → List ℕ → ℕ → Type 0
OrderedTo reads N order k = (i : ℕ) → i < k → InOrder reads N order i

-- x can stand at place k: it does not stand before, and all that it reads does
pub record Ready (reads : ℕ → List ℕ) (order : List ℕ) (k x : ℕ) : Type 0 where
  pub fresh : Before order k x → ⊥
  pub after : (y : ℕ) → Reads reads x y → Before order k y

-- the first i signals of the order have their rules' values: the invariant of a loop that settles
abbrev pub SettledTo : (ℕ → Gate) → Env → List ℕ → ℕ → List ℕ → Type 0
SettledTo g e order i table = (j : ℕ) → j < i → get_or table (get_or order j 0) 0 ≡ rule_in g e table (get_or order j 0)

-- after i signals of the order: the marks say which of them depend on the change, those have their rules' values in the table as it is,
-- and every signal that does not depend on the change has the byte it had. The invariant of a loop that edits
pub record EditedTo (g : ℕ → Gate) (e : Env) (touches : ℕ → Bool) (order old : List ℕ) (i : ℕ) (marks table : List ℕ) : Type 0 where
  pub sound : (j : ℕ) → j < i → is_marked marks (get_or order j 0) ≡ true → Affected (reads_in g) touches (get_or order j 0)
  pub complete : (j : ℕ) → j < i → Affected (reads_in g) touches (get_or order j 0) → is_marked marks (get_or order j 0) ≡ true
  pub recomputed : (j : ℕ) → j < i → Affected (reads_in g) touches (get_or order j 0) → get_or table (get_or order j 0) 0 ≡ rule_in g e table (get_or order j 0)
  pub kept : (x : ℕ) → (Affected (reads_in g) touches x → ⊥) → get_or table x 0 ≡ get_or old x 0
