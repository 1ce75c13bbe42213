-- What a record that is not refused tells. Assumes nothing.
use mathlib.Core.Path.{◌≡◌}
use mathlib.Core.Bool.{false, not, ◌&&◌, ◌||◌}
use Rattle.std.specs.Prelude.{Ok}
use mathlib.Core.List.{List}
use Prim.Native.Nat.{ℕ, ◌≤◌}
use native.Mathlib.Omega.{arith}
use borrow.Author.Tests.{ltb-false, eqb-true, eqb-false, not-false}
use lib.Dec.{ltb, leb, eqb}
use lib.ListN.{length}
use Rattle.slicefile.specs.Format.{slice_limit, input_limit, size_tag, slice_tag, end_tag, head_length, body_length, record_length, byte_at, pair_at}
use Rattle.slicefile.specs.declared.Reason.TheVariants.{Cut, UnknownTag, WrongLength, NotDue, OutsideList}
use Rattle.slicefile.proofs.Tests.{or_left, or_right}
use Rattle.rules.specs.Rules.{given}
use Rattle.rules.proofs.Refusals.{or_else_left, or_else_right, given_none}
use Rattle.framing.specs.Framing.{header_refusal, bad_size, slice_refusal, size_refusal}

-- a record whose header is not refused is of the tag and the length due, and is whole
pub record Headed (due : ℕ) (s : List ℕ) : Type 0 where
  pub tag : byte_at s 0 ≡ due
  pub told : pair_at s 1 ≡ body_length due
  pub whole : record_length due ≤ length s

pub header_tells : (due : ℕ) (s : List ℕ) → header_refusal due s ≡ Ok tt → Headed due s
unfolding header_refusal
header_tells due s e =
    let e₁ = or_else_right (given Cut (ltb (length s) head_length)) _ e in
    let e₂ = or_else_right (given UnknownTag (not (leb size_tag (byte_at s 0) && leb (byte_at s 0) end_tag))) _ e₁ in
    let e₃ = or_else_right (given NotDue (not (eqb (byte_at s 0) due))) _ e₂ in
    record {
      tag = eqb-true _ _ (not-false _ (given_none NotDue _ (or_else_left (given NotDue (not (eqb (byte_at s 0) due))) _ e₂)));
      told = eqb-true _ _ (not-false _ (given_none WrongLength _ (or_else_left (given WrongLength (not (eqb (pair_at s 1) (body_length due)))) _ e₃)));
      whole = ltb-false (length s) (record_length due) (given_none Cut _ (or_else_right (given WrongLength (not (eqb (pair_at s 1) (body_length due)))) _ e₃));
    }

pub header_whole : (due : ℕ) (s : List ℕ) → header_refusal due s ≡ Ok tt → record_length due ≤ length s
header_whole due s e = (header_tells due s e).whole

-- a slice record that is not refused is whole
pub slice_whole : (n m number : ℕ) (s : List ℕ) → slice_refusal n m number s ≡ Ok tt → record_length slice_tag ≤ length s
unfolding slice_refusal
slice_whole n m number s e = header_whole slice_tag s (or_else_left (header_refusal slice_tag s) _ e)

-- a size record that is not refused is whole, and its numbers are in their lists
pub size_whole : (s : List ℕ) → size_refusal s ≡ Ok tt → record_length size_tag ≤ length s
unfolding size_refusal
size_whole s e = header_whole size_tag s (or_else_left (header_refusal size_tag s) _ e)

pub size_within : (n m : ℕ) → bad_size n m ≡ false → (1 ≤ n) × (n ≤ slice_limit) × (m ≤ input_limit)
unfolding bad_size
size_within n m e =
    let f = or_left (eqb n 0 || ltb slice_limit n) (ltb input_limit m) e in
    let z : n ≡ 0 → ⊥ = eqb-false n 0 (or_left (eqb n 0) (ltb slice_limit n) f) in (
      omega (arith, z),
      ltb-false slice_limit n (or_right (eqb n 0) (ltb slice_limit n) f),
      ltb-false input_limit m (or_right (eqb n 0 || ltb slice_limit n) (ltb input_limit m) e),
    )

pub size_tells : (s : List ℕ) → size_refusal s ≡ Ok tt → (1 ≤ byte_at s 3) × (byte_at s 3 ≤ slice_limit) × (byte_at s 4 ≤ input_limit)
unfolding size_refusal
size_tells s e = size_within (byte_at s 3) (byte_at s 4) (given_none OutsideList _ (or_else_right (header_refusal size_tag s) _ e))
