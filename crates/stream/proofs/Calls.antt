-- The four ways a call goes, made and told by their conditions. Assumes nothing.
use mathlib.Core.Path.{◌≡◌, refl, sym}
use mathlib.Core.Bool.{Bool, true, false}
use Rattle.std.specs.Prelude.{Some, None, Err}
use mathlib.Core.List.{List}
use Prim.Native.Nat.{ℕ}
use borrow.Author.Tests.{eq-eqb, ne_eqb}
use lib.Dec.{eqb}
use lib.ListN.{length}
use Rattle.slicefile.specs.declared.Reason.TheVariants.{WrongBuffer, OutOfRange}
use Rattle.slicefile.specs.Refusals.{refused, Verdict}
use Rattle.column.specs.File.{file_limit}
use Rattle.stream.specs.declared.Reader.{Reader}
use Rattle.stream.specs.declared.Fed.{Fed}
use Rattle.stream.specs.Feeding.{Reply, foreign, Keeps, TakesRun, FeedsBy, Feeds}

-- a row of a table, found by its conditions
row : (table : Bool → Reply → Bool → Type 0) {sized sized' strange strange' : Bool} {said said' : Reply} → sized ≡ sized' → said ≡ said' → strange ≡ strange'
    → table sized said strange → table sized' said' strange'
row table e f g k = rw (← e, ← f, ← g) k

-- the table of a call
abbrev calls : Reader → List ℕ → List ℕ → Bool → Fed → List ℕ → Bool → Reply → Bool → Type 0
calls r store run last fed after sized said strange = FeedsBy sized said strange r store run last fed after

sized : (store : List ℕ) → length store ≡ file_limit → eqb (length store) file_limit ≡ true
sized store full = eq-eqb (length store) file_limit full

module _ {r : Reader} {store run : List ℕ} {last : Bool} {fed : Fed} {after : List ℕ} where
  -- ---- made
  pub feeds_wrong : (length store ≡ file_limit → ⊥) → Keeps (Some (Err (refused WrongBuffer 0))) r store fed after → Feeds r store run last fed after
  feeds_wrong ne k = record { by = row (calls r store run last fed after) {strange = foreign r} {said = r.said} (sym (ne_eqb (length store) file_limit ne)) refl refl k }

  pub wrong_told : (length store ≡ file_limit → ⊥) → Feeds r store run last fed after → Keeps (Some (Err (refused WrongBuffer 0))) r store fed after
  wrong_told ne k = row (calls r store run last fed after) {strange = foreign r} {said = r.said} (ne_eqb (length store) file_limit ne) refl refl k.by

  module _ (full : length store ≡ file_limit) where
    pub feeds_again : {v : Verdict} → r.said ≡ Some v → Keeps (Some v) r store fed after → Feeds r store run last fed after
    feeds_again e k = record { by = row (calls r store run last fed after) {strange = foreign r} (sym (sized store full)) (sym e) refl k }

    pub feeds_strange : r.said ≡ None → foreign r ≡ true → Keeps (Some (Err (refused OutOfRange 0))) r store fed after → Feeds r store run last fed after
    feeds_strange e f k = record { by = row (calls r store run last fed after) (sym (sized store full)) (sym e) (sym f) k }

    pub feeds_run : r.said ≡ None → foreign r ≡ false → TakesRun r store run last fed after → Feeds r store run last fed after
    feeds_run e f k = record { by = row (calls r store run last fed after) (sym (sized store full)) (sym e) (sym f) k }

    -- ---- told
    pub strange_told : r.said ≡ None → foreign r ≡ true → Feeds r store run last fed after → Keeps (Some (Err (refused OutOfRange 0))) r store fed after
    strange_told e f k = row (calls r store run last fed after) (sized store full) e f k.by

    pub again_told : {v : Verdict} → r.said ≡ Some v → Feeds r store run last fed after → Keeps (Some v) r store fed after
    again_told e k = row (calls r store run last fed after) {strange = foreign r} (sized store full) e refl k.by

    pub run_told : r.said ≡ None → foreign r ≡ false → Feeds r store run last fed after → TakesRun r store run last fed after
    run_told e f k = row (calls r store run last fed after) (sized store full) e f k.by
