-- What a call that refuses nothing tells of its buffers, by the numbers of a plan: their lengths, and bits where they must be. Assumes nothing.
use mathlib.Core.Path.{◌≡◌}
use mathlib.Core.Bool.{Bool, false, ◌||◌}
use mathlib.Core.List.{List}
use Prim.Native.Nat.{ℕ, ◌≤◌, ◌<◌}
use native.Mathlib.Decide.{dec_lt}
use native.Mathlib.Omega.{arith}
use lib.ListN.{length, get_or, get_or-eq_default}
use Rattle.slicefile.proofs.Tests.{or_left, or_right}
use Rattle.std.specs.Prelude.{Ok}
use Rattle.slicefile.specs.declared.Reason.TheVariants.{WrongBuffer, OutOfRange}
use Rattle.rules.specs.Rules.{given}
use Rattle.rules.proofs.Refusals.{given_none, or_else_left, or_else_right}
use Rattle.evaluation.specs.Numbers.{Bits}
use Rattle.column.specs.Clock.{State}
use Rattle.buffers.specs.Buffers.{bad_lengths, bad_bytes, settle_refusal_by, edit_refusal_by}
use Rattle.buffers.proofs.Good.{good_bytes}
use Rattle.buffers.proofs.Lengths.{Lengths, lengths}

-- bytes 0 and 1, and 0 past the end
all_bits : (bytes : List ℕ) → bad_bytes bytes ≡ false → Bits bytes
all_bits bytes e c = by (dec_lt c (length bytes))
  where
    by : Dec (c < length bytes) → get_or bytes c 0 < 2
    by (yes h) = good_bytes bytes e c h
    by (no h) =
        let past : length bytes ≤ c = omega arith in
        rw (get_or-eq_default bytes 0 past) (omega arith)

module _ (words : Bool) (st : State) (inputs values : List ℕ) (n m : ℕ) where
  pub settle_passed : settle_refusal_by words st inputs values n m ≡ Ok tt → Lengths n m st inputs values × Bits inputs
  settle_passed e =
      let z = given_none OutOfRange _ (or_else_right (given WrongBuffer (bad_lengths n m st inputs values)) _ e) in
      (lengths n m st inputs values (given_none WrongBuffer _ (or_else_left (given WrongBuffer (bad_lengths n m st inputs values)) _ e)), all_bits inputs (or_left (bad_bytes inputs) words z))

  pub edit_passed :
      (bad : Bool) → edit_refusal_by bad words st inputs values n m ≡ Ok tt → Lengths n m st inputs values × Bits inputs × Bits values × (bad ≡ false)
  edit_passed bad e =
      let z = given_none OutOfRange _ (or_else_right (given WrongBuffer (bad_lengths n m st inputs values)) _ e) in
      let w = or_left (bad_bytes inputs || bad_bytes values || words) bad z in
      let b = or_left (bad_bytes inputs || bad_bytes values) words w in
      (lengths n m st inputs values (given_none WrongBuffer _ (or_else_left (given WrongBuffer (bad_lengths n m st inputs values)) _ e)), all_bits inputs (or_left (bad_bytes inputs) (bad_bytes values) b), all_bits values (or_right (bad_bytes inputs) (bad_bytes values) b), or_right (bad_bytes inputs || bad_bytes values || words) bad z)
