-- The theorems on nets without loops: settled tables, and edits of any list of changes. Assumes nothing.
use mathlib.Core.Path.{◌≡◌, sym, subst}
use mathlib.Core.Bool.{Bool}
use mathlib.Core.List.{List}
use mathlib.Core.Logic.{◌↔◌}
use Prim.Native.Nat.{ℕ}
use native.Mathlib.Nat.{le_of_eq}
use lib.ListN.{length, replicate, length-replicate}
use Rattle.netlist.specs.declared.Gate.{Gate}
use Rattle.netlist.specs.Rule.{Env}
use Rattle.netlist.specs.Graph.{LoopFree, WellFormed, Ordered}
use Rattle.netlist.specs.Settle.{reads_in, Settled, settle_by, Edited}
use Rattle.netlist.specs.Changes.{Change, changed_by, touches_any, Steps}
use Rattle.netlist.proofs.Locality.{rule_changes}
use Rattle.netlist.proofs.Loops.{some_order}
use Rattle.netlist.proofs.Settling.{settle_by_order, settled_unique}
use Rattle.netlist.proofs.Editing.{edited_settled, edited_unique}
use Rattle.netlist.proofs.Composing.{steps_edited, some_steps}

module _ (g : ℕ → Gate) (N : ℕ) (wf : WellFormed (reads_in g) N) (free : LoopFree (reads_in g) N) where
  -- exactly one table is settled
  pub one_settled : (e : Env) (t t' : List ℕ) → Settled g N e t → Settled g N e t' → t ≡ t'
  one_settled e t t' s s' = settled_unique g (some_order (reads_in g) N wf free).1 e t t' s s'

  pub some_settled : (e : Env) → (t : List ℕ) × Settled g N e t
  some_settled e =
      let w = some_order (reads_in g) N wf free in
      (settle_by g e (replicate N 0) w.0, settle_by_order g w.1 e (replicate N 0) (length-replicate N 0))

  -- at most one table is what an edit leaves
  pub one_edited :
      (e : Env) (touches : ℕ → Bool) (old new new' : List ℕ) → length old ≡ N → Edited g N e touches old new → Edited g N e touches old new'
      → new ≡ new'
  one_edited e touches old new new' long d d' = edited_unique g (some_order (reads_in g) N wf free).1 touches e old new new' long d d'

  -- an edit of all changes of a list on a settled table leaves a settled one
  pub changes_edited :
      (e : Env) (cs : List Change) (old new : List ℕ) → Settled g N e old → Edited g N (changed_by e cs) (λ x. touches_any cs (g x)) old new
      → Settled g N (changed_by e cs) new
  changes_edited e cs old new s d =
      edited_settled g (some_order (reads_in g) N wf free).1 (λ x. touches_any cs (g x)) e (changed_by e cs) (λ x n t. rule_changes e cs t (g x) n) old new d s

  -- it leaves what "the edits made one after another" leave, and they what it leaves
  pub one_by_one :
      (e : Env) (cs : List Change) (old new : List ℕ) → length old ≡ N
      → Edited g N (changed_by e cs) (λ x. touches_any cs (g x)) old new ↔ Steps g N e old cs (changed_by e cs) new
  one_by_one e cs old new long = (to, λ s. (steps_edited g o s).1)
    where
      o : Ordered (reads_in g) N (some_order (reads_in g) N wf free).0
      o = (some_order (reads_in g) N wf free).1

      to : Edited g N (changed_by e cs) (λ x. touches_any cs (g x)) old new → Steps g N e old cs (changed_by e cs) new
      to d =
          let w = some_steps g o e cs old (le_of_eq (sym long)) in
          subst (λ (t : List ℕ). Steps g N e old cs (changed_by e cs) t)
          (one_edited (changed_by e cs) (λ x. touches_any cs (g x)) old w.0 new long (steps_edited g o w.1).1 d)
          w.1
