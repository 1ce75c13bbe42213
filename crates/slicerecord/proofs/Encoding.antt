-- A record's bytes: their number, and the list that stores its fields one after another. Assumes nothing.
use mathlib.Core.Path.{◌≡◌, refl, ◌∙◌}
use mathlib.Core.List.{List, [], ◌∷◌, ◌++◌, append-nil, append_assoc}
use Prim.Native.Nat.{ℕ, ◌+◌}
use native.Mathlib.Omega.{arith}
use lib.ListN.{length, replicate, length-append, drop_of_length-le}
use lib.Seq.{sets}
use Rattle.slicefile.specs.Format.{slice_tag, body_length, record_length}
use Rattle.slicerecord.specs.Record.{all_bytes, body_bytes, record_bytes, Sized}
use Rattle.slicerecord.specs.declared.Record.{Record}
use Rattle.slicerecord.proofs.Stores.{sets_next, sets_front, length_all_bytes}

pub length_body_bytes : (r : Record) → Sized r → length (body_bytes r) ≡ body_length slice_tag
unfolding body_bytes
length_body_bytes r z = simp (length-append, length_all_bytes) (omega arith)

pub length_record_bytes : (r : Record) → Sized r → length (record_bytes r) ≡ record_length slice_tag
unfolding record_bytes
length_record_bytes r z = omega (arith, length_body_bytes r z)

-- the list out, but for the k bytes xs stored from its start on
record Stored (out : List ℕ) (k : ℕ) (xs now : List ℕ) : Type 0 where
  count : length xs ≡ k
  held : now ≡ sets out 0 xs

-- one more run
stored_next : {out xs now next : List ℕ} {k : ℕ} (j : ℕ) (ys : List ℕ) → Stored out k xs now → length ys ≡ j → next ≡ sets now k ys → Stored out (k + j) (xs ++ ys) next
stored_next {out} {xs} {now} {next} {k} j ys s h e =
    let z : 0 + k ≡ k = omega arith in
    record { count = rw (length-append xs ys, s.count, h); held = e ∙ rw z at (sets_next out 0 k xs ys s.count s.held) }

-- all bytes
stored_all : {out xs now : List ℕ} {k : ℕ} → Stored out k xs now → length out ≡ k → now ≡ xs
stored_all {out} {xs} {now} {k} s h = s.held ∙ sets_front out xs k s.count (omega arith) ∙ rw (drop_of_length-le out {i = k} (omega arith)) (append-nil xs)

-- the fields stored one after another are the record's bytes
pub encoded : (r : Record) → Sized r → {o₁ o₂ o₃ o₄ o₅ o₆ o₇ o₈ o₉ o₁₀ o₁₁ : List ℕ}
    → o₁ ≡ sets (replicate (record_length slice_tag) 0) 0 (slice_tag ∷ body_length slice_tag ∷ 0 ∷ r.number ∷ r.kind ∷ [])
    → o₂ ≡ sets o₁ 5 r.modes
    → o₃ ≡ sets o₂ 9 r.shifts
    → o₄ ≡ sets o₃ 13 (all_bytes 8 r.contents)
    → o₅ ≡ sets o₄ 45 r.carries
    → o₆ ≡ sets o₅ 49 (r.start ∷ [])
    → o₇ ≡ sets o₆ 50 r.muxes
    → o₈ ≡ sets o₇ 54 r.mains
    → o₉ ≡ sets o₈ 58 r.seconds
    → o₁₀ ≡ sets o₉ 62 (r.powerup ∷ r.resets ∷ r.resettable ∷ [])
    → o₁₁ ≡ sets o₁₀ 65 (all_bytes 2 r.pins)
    → o₁₁ ≡ record_bytes r
unfolding record_bytes body_bytes
encoded r z e₁ e₂ e₃ e₄ e₅ e₆ e₇ e₈ e₉ e₁₀ e₁₁ =
    let s₁ : Stored (replicate (record_length slice_tag) 0) 5 (slice_tag ∷ body_length slice_tag ∷ 0 ∷ r.number ∷ r.kind ∷ []) _ = record { count = refl; held = e₁ } in
    let s₂ = stored_next 4 r.modes s₁ z.modes e₂ in
    let s₃ = stored_next 4 r.shifts s₂ z.shifts e₃ in
    let s₄ = stored_next 32 (all_bytes 8 r.contents) s₃ (rw (length_all_bytes 8 r.contents, z.contents)) e₄ in
    let s₅ = stored_next 4 r.carries s₄ z.carries e₅ in
    let s₆ = stored_next 1 (r.start ∷ []) s₅ refl e₆ in
    let s₇ = stored_next 4 r.muxes s₆ z.muxes e₇ in
    let s₈ = stored_next 4 r.mains s₇ z.mains e₈ in
    let s₉ = stored_next 4 r.seconds s₈ z.seconds e₉ in
    let s₁₀ = stored_next 3 (r.powerup ∷ r.resets ∷ r.resettable ∷ []) s₉ refl e₁₀ in
    let s₁₁ = stored_next 62 (all_bytes 2 r.pins) s₁₀ (rw (length_all_bytes 2 r.pins, z.pins)) e₁₁ in
    simp append_assoc at (stored_all s₁₁ refl)
