-- What is done with the words of a list is done with the list. Assumes nothing.
use mathlib.Core.Path.{◌≡◌, refl, sym, ◌∙◌, ap, subst}
use mathlib.Core.Bool.{Bool, true, false, cond, true≢false}
use mathlib.Core.List.{List}
use Prim.Native.Nat.{ℕ, ◌<◌}
use borrow.Author.Tests.{lt-ltb}
use lib.Dec.{ltb}
use lib.ListN.{length}
use Rattle.netlist.specs.Rule.{Env}
use Rattle.slicefile.specs.Refusals.{Answer}
use Rattle.editlist.specs.Listed.{edit_limit, edits_in, listed_count, Listed}
use Rattle.editlist.specs.declared.Edit.{Edit}
use Rattle.editlist.proofs.Listing.{edits_long, edits_all}
use Rattle.buffers.specs.Buffers.{bad_table, edit_refusal}
use Rattle.buffers.proofs.Lengths.{edit_argument}
use Rattle.calls.specs.Calls.{judged, refused, done}
use Rattle.edits.specs.Edits.{bad_edits, state_in, EditsMade}

-- a list that is too long is bad, whatever is in it
pub too_long : (bad : ℕ → ℕ → Bool) (m : ℕ) (es : List Edit) → ltb edit_limit (length es) ≡ true → bad_edits bad m es ≡ true
unfolding bad_edits
too_long bad m es e = rw e

-- and so are more edits in words than a list may have
pub long_bad : (bad : ℕ → ℕ → Bool) (m : ℕ) (words : List ℕ) (count : ℕ) → edit_limit < count → true ≡ bad_edits bad m (edits_in words count)
long_bad bad m words count h = sym (too_long bad m (edits_in words count) (rw (edits_long words 0 count) (lt-ltb edit_limit count h)))

-- of two lists that are bad alike, and the same where they are not bad, the call promises the same
module _ (file : List ℕ) (before after : Env) (es ds : List Edit) (old new : List ℕ) (bad : (n m : ℕ) → bad_edits (bad_table file n) m ds ≡ bad_edits (bad_table file n) m es) (same : (n m : ℕ) → bad_edits (bad_table file n) m es ≡ false → es ≡ ds) where
  pub made_alike : {r : Answer} → EditsMade file before after es old new r → EditsMade file before after ds old new r
  made_alike (judged j kept) = judged j kept
  made_alike (refused {size} j z kept) =
      refused j (ap (λ (b : Bool). edit_refusal b file (state_in before) before.inputs old size.n size.m) (bad size.n size.m) ∙ z) kept
  made_alike {r} (done {size} j z d) =
      subst (λ (cs : List Edit). EditsMade file before after cs old new r) (same size.n size.m (edit_argument _ file (state_in before) before.inputs old size.n size.m z)) (done j z d)

module _ (file : List ℕ) (before after : Env) (es : List Edit) (words old new : List ℕ) where
  abbrev listed : List Edit
  listed = edits_in words (length es)

  -- the words of one that is not too long are the list
  few : ltb edit_limit (length es) ≡ false → Listed es (listed_count (length es)) words → listed ≡ es
  few e l = edits_all words es (subst (λ (k : ℕ). Listed es k words) (ap (λ (t : Bool). cond t 0 (length es)) e) l)

  -- and one that is too long is refused for that
  bad_alike : ltb edit_limit (length es) ≡ true → (n m : ℕ) → bad_edits (bad_table file n) m es ≡ bad_edits (bad_table file n) m listed
  bad_alike e n m = too_long (bad_table file n) m es e ∙ sym (too_long (bad_table file n) m listed (rw (edits_long words 0 (length es)) e))

  many : ltb edit_limit (length es) ≡ true → {r : Answer} → EditsMade file before after listed old new r → EditsMade file before after es old new r
  many e =
      made_alike file before after listed es old new (bad_alike e)
      (λ n m fits. absurd (true≢false (sym (too_long (bad_table file n) m es e) ∙ bad_alike e n m ∙ fits)))

  pub edits_listed : {r : Answer} → Listed es (listed_count (length es)) words → EditsMade file before after listed old new r → EditsMade file before after es old new r
  edits_listed {r} l c = by (ltb edit_limit (length es)) refl
    where
      by : (t : Bool) → ltb edit_limit (length es) ≡ t → EditsMade file before after es old new r
      by true e = many e c
      by false e = subst (λ (ds : List Edit). EditsMade file before after ds old new r) (few e l) c
