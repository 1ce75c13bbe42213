-- The end record is the three bytes 03 00 00: a header that is due an end record is not refused exactly when they begin the list. Assumes nothing.
use mathlib.Core.Path.{◌≡◌, refl, ◌∙◌, sym, ap}
use mathlib.Core.Bool.{true, ◌&&◌}
use mathlib.Core.Logic.{◌↔◌}
use Rattle.std.specs.Prelude.{Ok}
use mathlib.Core.List.{List, [], ◌∷◌}
use Prim.Native.Nat.{ℕ, ◌+◌, ◌*◌, ◌≤◌, ◌<◌}
use native.Mathlib.Decide.{dec_lt}
use native.Mathlib.Omega.{arith}
use borrow.Author.Tests.{eqb-true, le-ltb}
use lib.Dec.{eqb}
use lib.ListN.{length, get_or, take, length-take}
use Rattle.slicefile.specs.Format.{end_tag, head_length, end_record, byte_at}
use Rattle.framing.specs.Framing.{header_refusal}
use Rattle.slicefile.proofs.Tests.{both}
use Rattle.framing.proofs.RecordLaws.{Headed, header_tells}

-- the list begins with the end record
pub record Ends (s : List ℕ) : Type 0 where
  pub room : head_length ≤ length s
  pub first : byte_at s 0 ≡ 3
  pub second : byte_at s 1 ≡ 0
  pub third : byte_at s 2 ≡ 0

ends_header : (s : List ℕ) → Ends s → header_refusal end_tag s ≡ Ok tt
unfolding header_refusal
ends_header s e = simp (le-ltb (length s) 3 e.room, e.first, e.second, e.third)

header_ends : (s : List ℕ) → header_refusal end_tag s ≡ Ok tt → Ends s
header_ends s e =
    let h : Headed end_tag s = header_tells end_tag s e in
    let z : byte_at s 1 + 256 * byte_at s 2 ≡ 0 = h.told in
    record { room = h.whole; first = h.tag; second = omega arith; third = omega arith }

first_three : (s : List ℕ) → head_length ≤ length s → take head_length s ≡ byte_at s 0 ∷ byte_at s 1 ∷ byte_at s 2 ∷ []
first_three (a ∷ b ∷ c ∷ s) h = refl
first_three (a ∷ b ∷ []) h = absurd (omega arith)
first_three (a ∷ []) h = absurd (omega arith)
first_three [] h = absurd (omega arith)

-- bytes that are those of the record
bytes_end : (s : List ℕ) → head_length ≤ length s → take head_length s ≡ end_record → Ends s
bytes_end s h e =
    let f : byte_at s 0 ∷ byte_at s 1 ∷ byte_at s 2 ∷ [] ≡ end_record = sym (first_three s h) ∙ e in
    let at : (i : ℕ) → get_or (byte_at s 0 ∷ byte_at s 1 ∷ byte_at s 2 ∷ []) i 0 ≡ get_or end_record i 0 = λ i. ap (λ (l : List ℕ). get_or l i 0) f in
    record { room = h; first = at 0; second = at 1; third = at 2 }

-- fewer bytes are not
pub no_end : (s : List ℕ) → length s < head_length → take head_length s ≡ end_record → ⊥
no_end s h e = omega (arith, ap length e, length-take head_length s)

-- what `is_end` tests
pub end_test : (s : List ℕ) → head_length ≤ length s → ((eqb (byte_at s 0) 3 && eqb (byte_at s 1) 0 && eqb (byte_at s 2) 0) ≡ true) ↔ (take head_length s ≡ end_record)
end_test s h =
    let a = eqb (byte_at s 0) 3 in
    let b = eqb (byte_at s 1) 0 in
    let c = eqb (byte_at s 2) 0 in (
      λ e. let ab = both (a && b) c e in
          let each = both a b ab.0 in
          first_three s h ∙ simp (eqb-true (byte_at s 0) 3 each.0, eqb-true (byte_at s 1) 0 each.1, eqb-true (byte_at s 2) 0 ab.1),
      λ e. let d = bytes_end s h e in simp (d.first, d.second, d.third),
    )

-- the record in the paper's words: a header that is due an end record is not refused exactly where they begin the list
pub end_bytes : (s : List ℕ) → header_refusal end_tag s ≡ Ok tt → take head_length s ≡ end_record
end_bytes s e =
    let d : Ends s = header_ends s e in
    first_three s d.room ∙ simp (d.first, d.second, d.third)

pub end_header : (s : List ℕ) → take head_length s ≡ end_record → header_refusal end_tag s ≡ Ok tt
end_header s e = at (dec_lt (length s) head_length)
  where
    at : Dec (length s < head_length) → header_refusal end_tag s ≡ Ok tt
    at (yes short) = absurd (no_end s short e)
    at (no long) = ends_header s (bytes_end s (omega arith) e)
