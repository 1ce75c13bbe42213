-- What the promise of the edit call comes to: it settles its answer and every byte it leaves; an edited table that was settled is the table settled
-- afresh; the call leaves what its edits leave one after another; and that is good for the next call. Assumes nothing.
use mathlib.Core.Path.{◌≡◌, ◌∙◌, sym, subst⁻¹}
use Rattle.std.specs.Prelude.{Ok}
use mathlib.Core.Bool.{false}
use mathlib.Core.List.{List, [], ◌∷◌}
use Prim.Native.Nat.{ℕ, ◌*◌}
use native.Mathlib.Omega.{arith}
use borrow.Author.Tests.{ltb-false}
use lib.Dec.{leb, ltb}
use lib.ListN.{length, set, length-set}
use Rattle.netlist.specs.Rule.{Env}
use Rattle.netlist.specs.Settle.{Settled}
use Rattle.netlist.specs.Changes.{Change, OfInput, OfContents, changed, changed_by, touches_any, Steps, Replaced}
use Rattle.netlist.specs.Table.{signal_count}
use Rattle.netlist.proofs.Bits.{edited_bits}
use Rattle.netlist.proofs.Composing.{none_edited, steps_edited}
use Rattle.netlist.proofs.Replacing.{changes_replace}
use Rattle.netlist.proofs.Net.{one_edited, changes_edited, one_by_one}
use Rattle.slicefile.specs.declared.Size.{Size}
use Rattle.slicefile.specs.Refusals.{Answer}
use Rattle.slicefile.proofs.Tests.{or_left, or_right}
use Rattle.editlist.specs.Listed.{edit_limit}
use Rattle.editlist.specs.declared.Edit.{Edit}
use Rattle.column.specs.Clock.{state_of, SettledFor, OnlySettled}
use Rattle.column.specs.File.{gate_at}
use Rattle.column.specs.Judge.{Judged}
use Rattle.column.proofs.Tables.{records_sound, closed, ordered, settled_only}
use Rattle.column.proofs.Verdicts.{accepted_free}
use Rattle.buffers.specs.Buffers.{bad_word, bad_table, GoodState, GoodInputs, GoodValues}
use Rattle.buffers.proofs.Good.{bytes_good, good_bytes, set_bytes, set_words, state_good, edit_good, edit_tells}
use Rattle.buffers.proofs.Lengths.{state_lengths, edit_lengths, edit_argument}
use Rattle.calls.specs.Calls.{judged, refused, done}
use Rattle.calls.proofs.Demands.{agree, done_there, not_refused}
use Rattle.edits.specs.Edits.{change_of, changes_of, bad_change, bad_edit, any_bad, bad_edits, state_in, edits_refusal, EditedFor, EditsMade}

module _ (file : List ℕ) {size : Size} (j : Judged file (Ok size)) (cs : List Change) where
  edited_once : (after : Env) (old new new' : List ℕ) → length old ≡ signal_count size.n → EditedFor file cs after old new size.n → EditedFor file cs after old new' size.n → new ≡ new'
  edited_once after old new new' long d d' =
      one_edited (gate_at file) (signal_count size.n) (closed file j) (accepted_free file j) after (λ x. touches_any cs (gate_at file x)) old new new' long d d'

  changes_settle :
      (before after : Env) (old new : List ℕ) → after ≡ changed_by before cs → EditedFor file cs after old new size.n → SettledFor file (state_in before) before.inputs old
      → Settled (gate_at file) (signal_count size.n) after new
  changes_settle before after old new e d s =
      rw e (changes_edited (gate_at file) (signal_count size.n) (closed file j) (accepted_free file j) before cs old new (rw (records_sound file j).count at s) (rw e at d))

pub edits_unique : (file : List ℕ) (before after after' : Env) (es : List Edit) (old new new' : List ℕ) {r r' : Answer}
    → EditsMade file before after es old new r → EditsMade file before after' es old new' r' → (r ≡ r') × ((after ≡ after') × (new ≡ new'))
edits_unique file before after after' es old new new' c c' =
    agree file (edits_refusal file before es old) c c' (λ s t. (s.0 ∙ sym t.0, s.1 ∙ sym t.1))
    (λ n m j z d d'.
    let same : after ≡ after' = d.0 ∙ sym d'.0 in
    let size = (edit_lengths _ file (state_in before) before.inputs old n m z).values in
    (same, edited_once file j (changes_of es) after old new new' size d.1 (rw (← same) at d'.1)))

-- ---- demand 3: "if the table was settled before .. each byte of the table as left equals that of the table settled afresh after" all changes of the
-- list, in their order. That what depends on no change keeps its byte, and what does on any holds its rule, on any table, is `Edited` itself
pub edits_settle : (file : List ℕ) (before after : Env) (es : List Edit) (old new : List ℕ) → EditsMade file before after es old new (Ok tt)
    → SettledFor file (state_in before) before.inputs old → OnlySettled file (state_in after) after.inputs new
edits_settle file before after es old new (done j z d) s =
    settled_only file j (state_in after) after.inputs new (changes_settle file j (changes_of es) before after old new d.0 d.1 s)

-- "the inputs and contents are the old ones with only the named byte or word replaced", where one is named twice by the last edit of it
pub edits_replace : (file : List ℕ) (before after : Env) (es : List Edit) (old new : List ℕ) → EditsMade file before after es old new (Ok tt)
    → Replaced before (changes_of es) after
edits_replace file before after es old new (done j z d) = rw d.0 (changes_replace before (changes_of es))

-- an empty list changes nothing, on any table
pub no_edits : (file : List ℕ) (before after : Env) (old new : List ℕ) {r : Answer} → EditsMade file before after [] old new r → (after ≡ before) × (new ≡ old)
no_edits file before after old new (judged j kept) = kept
no_edits file before after old new (refused j z kept) = kept
no_edits file before after old new (done {size} j z d) =
    (d.0, none_edited (gate_at file) (signal_count size.n) after old new (edit_lengths _ file (state_in before) before.inputs old size.n size.m z).values d.1)

module _ (file : List ℕ) {size : Size} (j : Judged file (Ok size)) (before after : Env) (es : List Edit) (old new : List ℕ) where
  -- "The result is that of the edits made one after another": it is a result of theirs, and they have no other
  pub edits_one_by_one :
      EditsMade file before after es old new (Ok tt)
      → Steps (gate_at file) (signal_count size.n) before old (changes_of es) after new
      × ((after' : Env) (new' : List ℕ) → Steps (gate_at file) (signal_count size.n) before old (changes_of es) after' new' → (after' ≡ after) × (new' ≡ new))
  edits_one_by_one c =
      let w = done_there file (edits_refusal file before es old) j c in
      let e = w.1.0 in
      let d = w.1.1 in
      let long = (edit_lengths _ file (state_in before) before.inputs old size.n size.m w.0).values in (
        subst⁻¹ (λ (a : Env). Steps (gate_at file) (signal_count size.n) before old (changes_of es) a new) e
            ((one_by_one (gate_at file) (signal_count size.n) (closed file j) (accepted_free file j) before (changes_of es) old new long).0 (rw e at d)),
        λ after' new' s.
            let t = steps_edited (gate_at file) (ordered file j).1 s in
            (t.0 ∙ sym e, edited_once file j (changes_of es) after old new' new long (rw e t.1) d),
      )

  -- ---- calls chain: the call takes a good state, good inputs and good values, with edits in range, and what it leaves is good for the next call
  pub edits_taken : {r : Answer} → GoodState file size.n (state_in before) → GoodInputs size.m before.inputs → GoodValues size.n old → bad_edits (bad_table file size.n) size.m es ≡ false
      → EditsMade file before after es old new r → r ≡ Ok tt
  edits_taken s i v fits c = not_refused file (edits_refusal file before es old) j (edit_good file (state_in before) before.inputs old size.n size.m _ s i v fits) c

module _ (file : List ℕ) (n m : ℕ) where
  abbrev Good : Env → Type 0
  Good e = GoodState file n (state_in e) × GoodInputs m e.inputs

  change_good : (e : Env) (c : Change) → bad_change (bad_table file n) m c ≡ false → Good e → Good (changed e c)
  change_good e (OfInput j b) fits good =
      let small = ltb-false 1 b (or_right (leb m j) (ltb 1 b) fits) in
      (good.0, (length-set e.inputs j b ∙ good.1.0, set_bytes e.inputs j b good.1.1 (omega arith)))
  change_good e (OfContents t w) fits good =
      let sized = state_lengths n (state_in e) good.0.0 in
      let allowed = or_right (leb (4 * n) t) (bad_word file t w) fits in (
        (state_good n (state_of (set e.contents t w) e.flops) (length-set e.contents t w ∙ sized.0) sized.1, set_words file e.contents t w good.0.1 allowed),
        good.1,
      )

  changes_good : (e : Env) (es : List Edit) → any_bad (bad_table file n) m es ≡ false → Good e → Good (changed_by e (changes_of es))
  changes_good e [] fits good = good
  changes_good e (x ∷ es) fits good =
      let here = or_left (bad_edit (bad_table file n) m x) (any_bad (bad_table file n) m es) fits in
      changes_good (changed e (change_of x)) es (or_right (bad_edit (bad_table file n) m x) (any_bad (bad_table file n) m es) fits)
      (change_good e (change_of x) (or_right (ltb 1 x.kind) (bad_change (bad_table file n) m (change_of x)) here) good)

  pub edits_fit : (es : List Edit) → bad_edits (bad_table file n) m es ≡ false → any_bad (bad_table file n) m es ≡ false
  unfolding bad_edits
  edits_fit es fits = or_right (ltb edit_limit (length es)) (any_bad (bad_table file n) m es) fits

pub edits_leave : (file : List ℕ) {size : Size} → Judged file (Ok size) → (before after : Env) (es : List Edit) (old new : List ℕ)
    → EditsMade file before after es old new (Ok tt) → GoodState file size.n (state_in after) × GoodInputs size.m after.inputs × GoodValues size.n new
edits_leave file {size} j before after es old new c =
    let w = done_there file (edits_refusal file before es old) j c in
    let d = w.1.1 in
    let good = edit_tells file (state_in before) before.inputs old size.n size.m _ w.0 in
    let fits = edits_fit file size.n size.m es (edit_argument _ file (state_in before) before.inputs old size.n size.m w.0) in
    let after_good : Good file size.n size.m after = rw w.1.0 (changes_good file size.n size.m before es fits (good.0, good.1)) in
    let long : length new ≡ signal_count size.n = d.size ∙ good.2.0 in (
      after_good.0,
      after_good.1,
      (long, bytes_good new (λ x h. edited_bits (gate_at file) (ordered file j).1 d (λ y l. good_bytes old good.2.1 y (omega (arith, good.2.0))) x (omega arith))),
    )
