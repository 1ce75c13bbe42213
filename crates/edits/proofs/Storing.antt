-- Edits stored one after another. Assumes nothing.
use mathlib.Core.Path.{◌≡◌, refl, ap, subst⁻¹}
use mathlib.Core.Bool.{false, or-false}
use mathlib.Core.List.{List, [], ◌∷◌}
use Prim.Native.Nat.{ℕ, ◌*◌}
use native.Mathlib.Omega.{arith}
use borrow.Author.Tests.{ne_eqb}
use lib.Dec.{ltb}
use lib.ListN.{length, set, drop}
use Rattle.std.proofs.lemmas.Bool.Decides.{nat_tests}
use Rattle.netlist.specs.Rule.{Env, env}
use Rattle.netlist.specs.Changes.{Change, OfInput, OfContents, changed, changed_by}
use Rattle.slicefile.proofs.Tests.{or_right}
use Rattle.evaluation.specs.Numbers.{Bits}
use Rattle.walks.proofs.Laying.{bits_set}
use Rattle.walks.proofs.Reached.{mark_input, mark_table}
use Rattle.editlist.specs.Listed.{edit_limit}
use Rattle.editlist.specs.declared.Edit.{Edit}
use Rattle.buffers.specs.Buffers.{bad_table_by}
use Rattle.edits.specs.Edits.{change_of, changes_of, bad_change, any_bad, bad_edits}
use Rattle.edits.specs.Storing.{Store, store, Marks, Storable, AllStorable, Stored}

-- an edit of an input, and one of a table
module _ (contents inputs changed edited : List ℕ) (e : Edit) (h : Storable (length contents) (length inputs) (change_of e)) (m : Marks (store contents inputs changed edited)) where
  pub input_stored : e.kind ≡ 0 → Stored (change_of e ∷ []) (store contents inputs changed edited) (store contents (set inputs e.number e.value) (set changed e.number 1) edited)
  input_stored z =
      let l = rw z at h in
      rw z (record { made = λ flops. refl; marked = λ gate. simp or-false (mark_input changed edited e.number (omega (arith, l.0)) gate) })

  pub table_stored : (e.kind ≡ 0 → ⊥) → Stored (change_of e ∷ []) (store contents inputs changed edited) (store (set contents e.number e.value) inputs changed (set edited e.number 1))
  table_stored ne =
      let z = ne_eqb e.kind 0 ne in
      let l = rw z at h in
      rw z (record { made = λ flops. refl; marked = λ gate. simp or-false (mark_table changed edited e.number (omega (arith, l)) gate) })

-- what a list that is not bad changes is there
change_there : (edges : List ℕ) (n m : ℕ) (c : Change) → bad_change (bad_table_by edges n) m c ≡ false → Storable (4 * n) m c
change_there edges n m (OfInput j b) e = (grind (arith, nat_tests), grind (arith, nat_tests))
change_there edges n m (OfContents t w) e = grind (arith, nat_tests)

changes_there : (edges : List ℕ) (n m : ℕ) (es : List Edit) → any_bad (bad_table_by edges n) m es ≡ false → AllStorable (4 * n) m (changes_of es)
changes_there edges n m [] e = tt
changes_there edges n m (d ∷ es) e =
    let here : bad_change (bad_table_by edges n) m (change_of d) ≡ false = grind (arith, nat_tests) in
    let rest : any_bad (bad_table_by edges n) m es ≡ false = grind (arith, nat_tests) in
    (change_there edges n m (change_of d) here, changes_there edges n m es rest)

-- and the inputs stay bits
change_bits : (tables inputs : ℕ) (e : Env) (c : Change) → Storable tables inputs c → Bits e.inputs → Bits (changed e c).inputs
change_bits tables inputs e (OfInput j b) h bits = bits_set e.inputs j b h.1 bits
change_bits tables inputs e (OfContents t w) h bits = bits

changes_bits : (tables inputs : ℕ) (e : Env) (cs : List Change) → AllStorable tables inputs cs → Bits e.inputs → Bits (changed_by e cs).inputs
changes_bits tables inputs e [] h bits = bits
changes_bits tables inputs e (c ∷ cs) h bits = changes_bits tables inputs (changed e c) cs h.1 (change_bits tables inputs e c h.0 bits)

-- before edit i: those that are left are storable, and where they are stored, all are
pub record Before (es : List Edit) (start now : Store) (i : ℕ) : Type 0 where
  pub there : AllStorable (length start.contents) (length start.inputs) (changes_of (drop i es))
  pub all : (end : Store) → Stored (changes_of (drop i es)) now end → Stored (changes_of es) start end

-- a list that is not bad is storable
pub list_there : (edges : List ℕ) (n m : ℕ) (es : List Edit) → bad_edits (bad_table_by edges n) m es ≡ false → AllStorable (4 * n) m (changes_of es)
unfolding bad_edits
list_there edges n m es e = changes_there edges n m es (or_right (ltb edit_limit (length es)) (any_bad (bad_table_by edges n) m es) e)

-- the inputs after them are bits
pub stored_bits : (tables inputs : ℕ) {cs : List Change} {old new : Store} → AllStorable tables inputs cs → Stored cs old new → Bits old.inputs → Bits new.inputs
stored_bits tables inputs {cs} {old} h s bits = subst⁻¹ Bits (ap (λ (e : Env). e.inputs) (s.made [])) (changes_bits tables inputs (env old.contents [] old.inputs) cs h bits)
