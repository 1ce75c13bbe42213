-- The edit call by a plan that stands for a file is the edit call on the file. Assumes nothing.
use mathlib.Core.Path.{◌≡◌, ◌∙◌, ap, fun_ext}
use mathlib.Core.Bool.{Bool}
use mathlib.Core.List.{List}
use Prim.Native.Nat.{ℕ}
use Rattle.netlist.specs.Rule.{Env}
use Rattle.slicefile.specs.Refusals.{Answer}
use Rattle.editlist.specs.declared.Edit.{Edit}
use Rattle.plan.specs.Plan.{plan_edges, Ready}
use Rattle.buffers.specs.Buffers.{edit_refusal, bad_table, bad_table_by}
use Rattle.buffers.proofs.Modes.{edit_same, table_same}
use Rattle.calls.proofs.Calls.{planned_called}
use Rattle.edits.specs.Edits.{bad_edits, changes_of, state_in, edits_refusal, EditsMade, EditsPlanned}
use Rattle.edits.proofs.Marks.{edited_file}

module _ (file : List ℕ) {n m : ℕ} {plan : List ℕ} (r : Ready file n m plan) where
  -- the plan finds the same edits bad
  edits_same : (es : List Edit) → bad_edits (bad_table_by (plan_edges plan n) n) m es ≡ bad_edits (bad_table file n) m es
  edits_same es = ap (λ (bad : ℕ → ℕ → Bool). bad_edits bad m es) (fun_ext (λ t. fun_ext (λ w. table_same file r t w)))

  pub edits_file :
      (before after : Env) (es : List Edit) (old new : List ℕ) {a : Answer} → EditsPlanned plan n m before after es old new a
      → EditsMade file before after es old new a
  edits_file before after es old new p =
      planned_called file (edits_refusal file before es old) r.verdict
      (edit_same file r (state_in before) before.inputs old _
      ∙ ap (λ (bad : Bool). edit_refusal bad file (state_in before) before.inputs old n m) (edits_same es))
      (λ d. (d.0, edited_file file r (changes_of es) d.1)) p
