-- The edit call leaves what calls with one edit each leave in turn. Assumes nothing.
use mathlib.Core.Path.{◌≡◌, refl, ◌∙◌}
use Rattle.std.specs.Prelude.{Ok}
use mathlib.Core.Bool.{false, ◌||◌, or-false}
use mathlib.Core.List.{List, [], ◌∷◌}
use Prim.Native.Nat.{ℕ, ◌≤◌}
use native.Mathlib.Omega.{arith}
use borrow.Author.Tests.{le-ltb}
use lib.ListN.{length}
use Rattle.netlist.specs.Rule.{Env}
use Rattle.netlist.specs.Changes.{changed, touches, Steps, none, next}
use Rattle.netlist.specs.Table.{signal_count}
use Rattle.netlist.proofs.Composing.{steps_edited}
use Rattle.slicefile.specs.declared.Size.{Size}
use Rattle.slicefile.proofs.Tests.{or_left, or_right}
use Rattle.editlist.specs.Listed.{edit_limit}
use Rattle.editlist.specs.declared.Edit.{Edit}
use Rattle.walks.proofs.Edits.{edited_as}
use Rattle.column.specs.File.{gate_at}
use Rattle.column.specs.Judge.{Judged}
use Rattle.column.proofs.Tables.{ordered}
use Rattle.buffers.specs.Buffers.{bad_table, GoodState, GoodInputs, GoodValues}
use Rattle.buffers.proofs.Good.{edit_good, edit_tells}
use Rattle.buffers.proofs.Lengths.{edit_argument}
use Rattle.calls.specs.Calls.{done}
use Rattle.calls.proofs.Demands.{done_there}
use Rattle.edits.specs.Edits.{change_of, changes_of, bad_edit, any_bad, bad_edits, state_in, edits_refusal, EditsMade}
use Rattle.edits.specs.Turns.{InTurn, no_call, call_then}
use Rattle.edits.proofs.Demands.{edits_fit, edits_leave, edits_one_by_one}

module _ (file : List ℕ) {size : Size} (j : Judged file (Ok size)) where
  -- what no call refuses
  abbrev Good : Env → List ℕ → Type 0
  Good e t = GoodState file size.n (state_in e) × GoodInputs size.m e.inputs × GoodValues size.n t

  fits : (es : List Edit) → length es ≤ edit_limit → any_bad (bad_table file size.n) size.m es ≡ false → bad_edits (bad_table file size.n) size.m es ≡ false
  unfolding bad_edits
  fits es few none-bad = rw (le-ltb edit_limit (length es) few, none-bad)

  -- the call, by the edits made one after another
  steps_made :
      {e after : Env} {t u : List ℕ} (es : List Edit) → Good e t → length es ≤ edit_limit → any_bad (bad_table file size.n) size.m es ≡ false
      → Steps (gate_at file) (signal_count size.n) e t (changes_of es) after u → EditsMade file e after es t u (Ok tt)
  steps_made {e} {t = t} es good few none-bad s =
      let d = steps_edited (gate_at file) (ordered file j).1 s in
      done j (edit_good file (state_in e) e.inputs t size.n size.m _ good.0 good.1 good.2 (fits es few none-bad)) (d.0, rw d.0 d.1)

  steps_turns :
      {e after : Env} {t v : List ℕ} (es : List Edit) → Good e t → any_bad (bad_table file size.n) size.m es ≡ false
      → Steps (gate_at file) (signal_count size.n) e t (changes_of es) after v → InTurn file e t es after v
  steps_turns [] good none-bad none = no_call
  steps_turns {e} {t = t} (x ∷ es) good none-bad (next {u = u} d s) =
      let here : (bad_edit (bad_table file size.n) size.m x || false) ≡ false = or-false _ ∙ or_left (bad_edit (bad_table file size.n) size.m x) (any_bad (bad_table file size.n) size.m es) none-bad in
      let c = steps_made (x ∷ []) good (omega arith) here (next d none) in
      call_then c (steps_turns {e = changed e (change_of x)} es (edits_leave file j e (changed e (change_of x)) (x ∷ []) t u c) (or_right (bad_edit (bad_table file size.n) size.m x) (any_bad (bad_table file size.n) size.m es) none-bad) s)

  turns_steps :
      {e after : Env} {t v : List ℕ} {es : List Edit} → InTurn file e t es after v
      → Steps (gate_at file) (signal_count size.n) e t (changes_of es) after v × (any_bad (bad_table file size.n) size.m es ≡ false)
  turns_steps no_call = (none, refl)
  turns_steps {e} {t = t} (call_then {u = u} {x = x} {es = es} c rest) =
      let w = done_there file (edits_refusal file e (x ∷ []) t) j c in
      let r = turns_steps rest in
      let here = edits_fit file size.n size.m (x ∷ []) (edit_argument _ file (state_in e) e.inputs t size.n size.m w.0) in (
        next (edited_as (λ y. or-false (touches (change_of x) (gate_at file y))) (rw w.1.0 at w.1.1)) (rw w.1.0 at r.0),
        rw (or_left (bad_edit (bad_table file size.n) size.m x) false here, r.1),
      )

  -- a call that is done leaves what calls with one edit each leave, in their order, and none of them is refused
  pub edits_in_turn : (before after : Env) (es : List Edit) (old new : List ℕ) → EditsMade file before after es old new (Ok tt) → InTurn file before old es after new
  edits_in_turn before after es old new c =
      let z = (done_there file (edits_refusal file before es old) j c).0 in
      steps_turns es (edit_tells file (state_in before) before.inputs old size.n size.m _ z)
      (edits_fit file size.n size.m es (edit_argument _ file (state_in before) before.inputs old size.n size.m z))
      (edits_one_by_one file j before after es old new c).0

  -- and back: at most 256 such calls are one call
  pub turns_edited :
      (before after : Env) (es : List Edit) (old new : List ℕ) → GoodState file size.n (state_in before) → GoodInputs size.m before.inputs → GoodValues size.n old
      → length es ≤ edit_limit → InTurn file before old es after new → EditsMade file before after es old new (Ok tt)
  turns_edited before after es old new s i v few c = let w = turns_steps c in steps_made es (s, i, v) few w.1 w.0
