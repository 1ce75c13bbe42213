-- What the edit call answers and leaves. "All are checked first; one bad edit (11) or more than 256 (11) changes nothing. The result is that of
-- the edits made one after another, the same input twice included."
use Rattle.std.specs.Prelude.{ℕ, ◌≡◌, Bool, ◌||◌, cond, List, map, eqb, ltb, length}
use Rattle.std.specs.List.{list_any}
use Rattle.lent.specs.Lent.{Lent, Shown, was, left, shown}
use Rattle.netlist.specs.Rule.{Env, env}
use Rattle.netlist.specs.Settle.{Edited}
use Rattle.netlist.specs.Changes.{Change, OfInput, OfContents, changed_by, touches_any}
use Rattle.netlist.specs.Table.{signal_count, net_of}
use Rattle.slicefile.specs.Refusals.{Tested, Answer}
use Rattle.editlist.specs.Listed.{edit_limit}
use Rattle.editlist.specs.declared.Edit.{Edit}
use Rattle.column.specs.Clock.{State, state_of}
use Rattle.column.specs.File.{gate_at}
use Rattle.plan.specs.Plan.{plan_edges}
use Rattle.buffers.specs.Buffers.{edit_refusal, edit_refusal_by, bad_input, bad_table, bad_table_by, bad_words_by}
use Rattle.calls.specs.Calls.{Called, Planned}

-- "each an input or a table's contents": kind 0 is an outside input, any other a table
abbrev pub change_of : Edit → Change
change_of e = cond (eqb e.kind 0) (OfInput e.number e.value) (OfContents e.number e.value)

-- "the edits", as changes "in their order"
abbrev pub changes_of : List Edit → List Change
changes_of es = map change_of es

-- a change that is not in range, with m outside inputs and a test of a table's new contents
abbrev pub bad_change : (ℕ → ℕ → Bool) → ℕ → Change → Bool
bad_change bad m (OfInput j b) = bad_input m j b
bad_change bad m (OfContents t w) = bad t w

-- a bad edit: of no kind, or of a change that is not in range
abbrev pub bad_edit : (ℕ → ℕ → Bool) → ℕ → Edit → Bool
bad_edit bad m e = ltb 1 e.kind || bad_change bad m (change_of e)

abbrev pub any_bad : (ℕ → ℕ → Bool) → ℕ → List Edit → Bool
any_bad bad m es = list_any (bad_edit bad m) es

-- "one bad edit (11) or more than 256 (11)"
unfoldable pub bad_edits : (ℕ → ℕ → Bool) → ℕ → List Edit → Bool
bad_edits bad m es = ltb edit_limit (length es) || any_bad bad m es

-- the contents and the flip-flops that a rule takes
abbrev pub state_in : Env → State
state_in e = state_of e.contents e.flops

-- the refusal of an edit call on a file, with the buffers as they were
abbrev pub edits_refusal : List ℕ → Env → List Edit → List ℕ → ℕ → ℕ → Tested
edits_refusal file before es old n m = edit_refusal (bad_edits (bad_table file n) m es) file (state_in before) before.inputs old n m

-- the value table that edits leave, for the contents and inputs after them: what depends on any change of the list is recomputed, all else keeps its
-- byte
abbrev pub EditedFor : List ℕ → List Change → Env → List ℕ → List ℕ → ℕ → Type 0
EditedFor file cs after old new n = Edited (gate_at file) (signal_count n) after (λ x. touches_any cs (gate_at file x)) old new

-- the edit call: the contents, flip-flops and inputs before and after it, the edits, the values before and after it
abbrev pub EditsMade : List ℕ → Env → Env → List Edit → List ℕ → List ℕ → Answer → Type 0
EditsMade file before after es old new =
    Called file (edits_refusal file before es old) ((after ≡ before) × (new ≡ old))
    (λ n m. (after ≡ changed_by before (changes_of es)) × EditedFor file (changes_of es) after old new n)

-- the same over a plan of n slices and m outside inputs, whatever file it stands for
abbrev pub plan_refusal : List ℕ → ℕ → ℕ → Env → List Edit → List ℕ → Tested
plan_refusal plan n m before es old =
    edit_refusal_by (bad_edits (bad_table_by (plan_edges plan n) n) m es) (bad_words_by (plan_edges plan n) before.contents) (state_in before) before.inputs old n m

abbrev pub EditedPlan : List ℕ → ℕ → List Change → Env → List ℕ → List ℕ → Type 0
EditedPlan plan n cs after old new = Edited (net_of plan n) (signal_count n) after (λ x. touches_any cs (net_of plan n x)) old new

abbrev pub EditsPlanned : List ℕ → ℕ → ℕ → Env → Env → List Edit → List ℕ → List ℕ → Answer → Type 0
EditsPlanned plan n m before after es old new =
    Planned (plan_refusal plan n m before es old) ((after ≡ before) × (new ≡ old))
    ((after ≡ changed_by before (changes_of es)) × EditedPlan plan n (changes_of es) after old new)

-- the two promises on lent buffers, as they were and as they are left
abbrev pub env_was : Lent → Shown → Lent → Env
env_was contents flops inputs = env (was contents) (shown flops) (was inputs)

abbrev pub env_left : Lent → Shown → Lent → Env
env_left contents flops inputs = env (left contents) (shown flops) (left inputs)

abbrev pub Edits : Shown → Lent → Shown → Lent → Lent → List Edit → Answer → Type 0
Edits file contents flops inputs values es =
    EditsMade (shown file) (env_was contents flops inputs) (env_left contents flops inputs) es (was values) (left values)

abbrev pub PlanEdits : List ℕ → ℕ → ℕ → Lent → Shown → Lent → Lent → List Edit → Answer → Type 0
PlanEdits plan n m contents flops inputs values es =
    EditsPlanned plan n m (env_was contents flops inputs) (env_left contents flops inputs) es (was values) (left values)
