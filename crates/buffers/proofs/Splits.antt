-- An edit is refused as settling is, and else for its values or its list. Assumes nothing.
use mathlib.Core.Path.{◌≡◌, refl, ◌∙◌, ap}
use mathlib.Core.Bool.{Bool, true, false, ◌||◌}
use mathlib.Core.List.{List}
use Prim.Native.Nat.{ℕ}
use Rattle.slicefile.specs.declared.Reason.TheVariants.{WrongBuffer, OutOfRange}
use Rattle.slicefile.specs.Refusals.{Tested}
use Rattle.rules.specs.Rules.{given, ◌or_else◌}
use Rattle.column.specs.Clock.{State}
use Rattle.buffers.specs.Buffers.{bad_lengths, bad_bytes, settle_refusal_by, edit_refusal_by}

split : (lengths inputs values words bad : Bool)
    → (given WrongBuffer lengths or_else given OutOfRange (inputs || words)) or_else given OutOfRange (values || bad)
    ≡ given WrongBuffer lengths or_else given OutOfRange (inputs || values || words || bad)
split true inputs values words bad = refl
split false true values words bad = refl
split false false true true bad = refl
split false false true false bad = refl
split false false false true bad = refl
split false false false false bad = refl

pub edit_splits :
    (bad words : Bool) (st : State) (inputs values : List ℕ) (n m : ℕ) {tested : Tested} → tested ≡ settle_refusal_by words st inputs values n m
    → tested or_else given OutOfRange (bad_bytes values || bad) ≡ edit_refusal_by bad words st inputs values n m
edit_splits bad words st inputs values n m e =
    ap (λ (t : Tested). t or_else given OutOfRange (bad_bytes values || bad)) e
    ∙ split (bad_lengths n m st inputs values) (bad_bytes inputs) (bad_bytes values) words bad
