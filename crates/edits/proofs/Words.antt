-- A list in words is answered as the list of edits that is handed on for it. Assumes nothing.
use mathlib.Core.Path.{◌≡◌, refl, sym, ◌∙◌, ap, ap₂, subst}
use mathlib.Core.Bool.{Bool, true, false, ◌||◌, true≢false}
use mathlib.Core.List.{List, [], ◌∷◌, map}
use Prim.Native.Nat.{ℕ, suc, ◌+◌, ◌≤◌, ◌<◌, min}
use native.Mathlib.Nat.{add-zero}
use native.Mathlib.Omega.{arith}
use borrow.Author.Tests.{lt-ltb}
use lib.Dec.{ltb}
use lib.ListN.{length, get_or, take}
use Rattle.std.proofs.lemmas.List.{length-take-le, get_or-take}
use Rattle.std.proofs.lemmas.Bool.Decides.{nat_tests}
use Rattle.netlist.specs.Rule.{Env}
use Rattle.slicefile.specs.Refusals.{Answer}
use Rattle.slicefile.proofs.Tests.{or_left, or_right}
use Rattle.editlist.specs.Listed.{edit_limit, none, edits_from, edits_in}
use Rattle.editlist.specs.declared.Edit.{Edit}
use Rattle.editlist.proofs.Listing.{edits_long}
use Rattle.buffers.specs.Buffers.{bad_table}
use Rattle.edits.specs.Edits.{bad_edit, any_bad, bad_edits, EditsMade}
use Rattle.edits.specs.Words.{narrowed, handed, Handed}
use Rattle.edits.proofs.Listed.{too_long, made_alike}

-- an edit is as bad as it was, and one that is not bad is the same
narrowed_bad : (bad : ℕ → ℕ → Bool) (m : ℕ) (e : Edit) → bad_edit bad m (narrowed e) ≡ bad_edit bad m e
narrowed_bad bad m e = by (ltb 255 e.kind) refl
  where
    by : (t : Bool) → ltb 255 e.kind ≡ t → bad_edit bad m (narrowed e) ≡ bad_edit bad m e
    by true h = let k : ltb 1 e.kind ≡ true = grind (arith, nat_tests) in rw (h, k) refl
    by false h = rw h refl

narrowed_same : (bad : ℕ → ℕ → Bool) (m : ℕ) (e : Edit) → bad_edit bad m e ≡ false → narrowed e ≡ e
narrowed_same bad m e fits = let k : ltb 255 e.kind ≡ false = grind (arith, nat_tests) in rw k refl

all_bad : (bad : ℕ → ℕ → Bool) (m : ℕ) (es : List Edit) → any_bad bad m (map narrowed es) ≡ any_bad bad m es
all_bad bad m [] = refl
all_bad bad m (e ∷ es) = ap₂ (λ (b c : Bool). b || c) (narrowed_bad bad m e) (all_bad bad m es)

all_same : (bad : ℕ → ℕ → Bool) (m : ℕ) (es : List Edit) → any_bad bad m es ≡ false → map narrowed es ≡ es
all_same bad m [] fits = refl
all_same bad m (e ∷ es) fits =
    ap₂ (λ (d : Edit) (ds : List Edit). d ∷ ds) (narrowed_same bad m e (or_left (bad_edit bad m e) (any_bad bad m es) fits))
    (all_same bad m es (or_right (bad_edit bad m e) (any_bad bad m es) fits))

-- what is handed on of k of the words
handed_from : (words : List ℕ) (es : List Edit) (i : ℕ) → ((j : ℕ) → j < length es → get_or es j none ≡ handed words (i + j)) → es ≡ map narrowed (edits_from words i (length es))
handed_from words [] i each = refl
handed_from words (e ∷ es) i each =
    ap₂ (λ (d : Edit) (ds : List Edit). d ∷ ds) (rw (add-zero i) at (each 0 (omega arith)))
    (handed_from words es (suc i) (λ j h. let k : suc i + j ≡ i + suc j = omega arith in rw k (each (suc j) (omega arith))))

module _ (file : List ℕ) (before after : Env) (words : List ℕ) (count : ℕ) (es : List Edit) (old new : List ℕ) where
  abbrev listed : List Edit
  listed = edits_in words count

  -- as many as are told of
  few : ltb edit_limit count ≡ false → length es ≡ count → Handed words count es → {r : Answer} → EditsMade file before after es old new r → EditsMade file before after listed old new r
  unfolding bad_edits
  few short long each =
      let e : es ≡ map narrowed listed = subst (λ (k : ℕ). es ≡ map narrowed (edits_in words k)) long (handed_from words es 0 (λ j h. let z : 0 + j ≡ j = omega arith in rw z (each j (rw long at h)))) in
      made_alike file before after es listed old new
      (λ n m. ap₂ (λ (k : ℕ) (b : Bool). ltb edit_limit k || b) (edits_long words 0 count ∙ sym long) (sym (all_bad (bad_table file n) m listed) ∙ ap (any_bad (bad_table file n) m) (sym e)))
      (λ n m fits. e ∙ all_same (bad_table file n) m listed (sym (all_bad (bad_table file n) m listed) ∙ ap (any_bad (bad_table file n) m) (sym e) ∙ or_right (ltb edit_limit (length es)) (any_bad (bad_table file n) m es) fits))

  -- or too many
  many : ltb edit_limit count ≡ true → ltb edit_limit (length es) ≡ true → {r : Answer} → EditsMade file before after es old new r → EditsMade file before after listed old new r
  many past long =
      let told : (n m : ℕ) → bad_edits (bad_table file n) m listed ≡ true = λ n m. too_long (bad_table file n) m listed (rw (edits_long words 0 count) past) in
      made_alike file before after es listed old new (λ n m. told n m ∙ sym (too_long (bad_table file n) m es long))
      (λ n m fits. absurd (true≢false (sym (too_long (bad_table file n) m es long) ∙ fits)))

-- the call on the list that is handed on, cut to one edit more than a list may have, is the call on the words
pub words_made : (file : List ℕ) (before after : Env) (words : List ℕ) (count most : ℕ) (list : List Edit) (old new : List ℕ)
    → most ≡ min count (edit_limit + 1) → length list ≡ edit_limit + 1 → Handed words edit_limit list → {r : Answer}
    → EditsMade file before after (take most list) old new r → EditsMade file before after (edits_in words count) old new r
words_made file before after words count most list old new cut long each {r} c = by (ltb edit_limit count) refl
  where
    within : most ≤ length list
    within = omega (arith, cut, long)

    by : (t : Bool) → ltb edit_limit count ≡ t → EditsMade file before after (edits_in words count) old new r
    by true h =
        let past : edit_limit < most = grind (arith, nat_tests, cut, h) in
        many file before after words count (take most list) old new h (rw (length-take-le most list within) (lt-ltb edit_limit most past)) c
    by false h =
        let short : count ≤ edit_limit = grind (arith, nat_tests, h) in
        let same : most ≡ count = omega (arith, cut, short) in
        few file before after words count (take most list) old new h (length-take-le most list within ∙ same)
        (λ i l. get_or-take most list i none (rw (← same) at l) ∙ each i (omega (arith, l, short))) c
