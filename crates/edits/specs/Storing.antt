-- What storing the edits of a list leaves: the bytes and words, and the marks of what they change.
use Rattle.std.specs.Prelude.{ℕ, ◌≤◌, ◌<◌, ◌≡◌, ◌||◌, List, [], ◌∷◌, length}
use Rattle.lent.specs.Lent.{Lent, was, left}
use Rattle.netlist.specs.declared.Gate.{Gate}
use Rattle.netlist.specs.Rule.{env}
use Rattle.netlist.specs.Changes.{Change, OfInput, OfContents, changed_by, touches_any}
use Rattle.walks.specs.Marked.{touches_marked}

-- the contents and the inputs, and a mark for each input and each table
pub record Store : Type 0 where
  pub contents : List ℕ
  pub inputs : List ℕ
  pub changed : List ℕ
  pub edited : List ℕ

abbrev pub store : List ℕ → List ℕ → List ℕ → List ℕ → Store
store contents inputs changed edited = record { contents = contents; inputs = inputs; changed = changed; edited = edited }

-- there is a mark for each
abbrev pub Marks : Store → Type 0
Marks s = (length s.inputs ≤ length s.changed) × (length s.contents ≤ length s.edited)

-- a change of an input or a table that is there, an input's to a bit
abbrev pub Storable : ℕ → ℕ → Change → Type 0
Storable tables inputs (OfInput j b) = (j < inputs) × (b < 2)
Storable tables inputs (OfContents t w) = t < tables

abbrev pub AllStorable : ℕ → ℕ → List Change → Type 0
AllStorable tables inputs [] = Unit {0}
AllStorable tables inputs (c ∷ cs) = Storable tables inputs c × AllStorable tables inputs cs

-- the changes are made in their order, and what touches one of them is marked
pub record Stored (cs : List Change) (old new : Store) : Type 0 where
  pub made : (flops : List ℕ) → env new.contents flops new.inputs ≡ changed_by (env old.contents flops old.inputs) cs
  pub marked :
      (gate : Gate) → touches_marked new.changed new.edited gate ≡ (touches_any cs gate || touches_marked old.changed old.edited gate)

-- the same on lent buffers, as they were and as they are left
abbrev pub Stores : List Change → Lent → Lent → Lent → Lent → Type 0
Stores cs contents inputs changed edited =
    Stored cs (store (was contents) (was inputs) (was changed) (was edited)) (store (left contents) (left inputs) (left changed) (left edited))
