-- Laws of numbers put into a list: one after the other, run after run, and which list a part then is. Assumes nothing.
use mathlib.Core.Path.{◌≡◌, refl, sym, ◌∙◌}
use mathlib.Core.List.{List}
use mathlib.Core.Logic.{◌⊎◌, inl, inr}
use Prim.Native.Nat.{ℕ, ◌+◌, ◌-◌, ◌≤◌, ◌<◌}
use native.Mathlib.Decide.{ℕ_discrete, dec_lt}
use native.Mathlib.Nat.{not-suc-le-zero, zero-add}
use native.Mathlib.Omega.{arith}
use lib.ListN.{length, get_or, set, take, drop, length-set, length-drop}
use lib.Seq.{get_or-set_same, get_or-set_other, get_or-take, get_or-drop, ext_get_or, length-take-le}
use Rattle.lent.specs.Put.{Put, PutAll}

pub put_none : (f : ℕ → ℕ) (at : ℕ) (old : List ℕ) → Put f at 0 old old
put_none f at old = record { long = refl; put = λ i h. absurd (not-suc-le-zero h); kept = λ c h. refl }

-- one more
pub put_next : {f : ℕ → ℕ} {at k : ℕ} {old now : List ℕ} (v : ℕ) → v ≡ f k → at + k < length now → Put f at k old now → Put f at (k + 1) old (set now (at + k) v)
put_next {f} {at} {k} {old} {now} v e room p =
    record {
      long = length-set now (at + k) v ∙ p.long;
      put = λ i h. by i h (ℕ_discrete i k);
      kept = λ c h. get_or-set_other now (at + k) c v 0 (off c h) ∙ p.kept c (further c h);
    }
  where
    by : (i : ℕ) → i < k + 1 → Dec (i ≡ k) → get_or (set now (at + k) v) (at + i) 0 ≡ f i
    by i h (yes same) = rw same (get_or-set_same now (at + k) v 0 room ∙ e)
    by i h (no other) = get_or-set_other now (at + k) (at + i) v 0 (λ z. other (omega arith)) ∙ p.put i (omega arith)

    off : (c : ℕ) → (c < at) ⊎ (at + (k + 1) ≤ c) → c ≡ at + k → ⊥
    off c (inl h) z = omega arith
    off c (inr h) z = omega arith

    further : (c : ℕ) → (c < at) ⊎ (at + (k + 1) ≤ c) → (c < at) ⊎ (at + k ≤ c)
    further c (inl h) = inl h
    further c (inr h) = inr (omega arith)

-- the same numbers, said in another way
pub put_as : {f g : ℕ → ℕ} {at k : ℕ} {old new : List ℕ} → ((i : ℕ) → i < k → f i ≡ g i) → Put f at k old new → Put g at k old new
put_as same p = record { long = p.long; put = λ i h. p.put i h ∙ same i h; kept = p.kept }

-- a list put over another of its length
pub put_whole : {src old new : List ℕ} → length old ≡ length src → PutAll src 0 old new → new ≡ src
put_whole {src} {old} {new} size p = ext_get_or 0 new src (p.long ∙ size) (λ i h. rw (zero-add i) at (p.put i (omega (arith, p.long))))

-- the bytes before k are copied, and then all are
abbrev pub Copied : List ℕ → ℕ → List ℕ → Type 0
Copied from k to = (length to ≡ length from) × ((i : ℕ) → i < k → get_or to i 0 ≡ get_or from i 0)

pub copied_whole : (from to : List ℕ) → Copied from (length from) to → to ≡ from
copied_whole from to c = ext_get_or 0 to from c.0 (λ i h. c.1 i (omega (arith, c.0)))

-- a run behind those that are put
pub put_more : {f : ℕ → ℕ} {at k j : ℕ} {old now new : List ℕ} → Put f at k old now → Put (λ i. f (k + i)) (at + k) j now new → Put f at (k + j) old new
put_more {f} {at} {k} {j} {old} {now} {new} p q =
    record {
      long = q.long ∙ p.long;
      put = λ i h. by i h (dec_lt i k);
      kept = λ c h. q.kept c (outside c h) ∙ p.kept c (before c h);
    }
  where
    by : (i : ℕ) → i < k + j → Dec (i < k) → get_or new (at + i) 0 ≡ f i
    by i h (yes l) = q.kept (at + i) (inl (omega arith)) ∙ p.put i l
    by i h (no l) =
        let a : at + k + (i - k) ≡ at + i = omega arith in
        let b : k + (i - k) ≡ i = omega arith in
        rw (a, b) at (q.put (i - k) (omega arith))

    outside : (c : ℕ) → (c < at) ⊎ (at + (k + j) ≤ c) → (c < at + k) ⊎ (at + k + j ≤ c)
    outside c (inl h) = inl (omega arith)
    outside c (inr h) = inr (omega arith)

    before : (c : ℕ) → (c < at) ⊎ (at + (k + j) ≤ c) → (c < at) ⊎ (at + k ≤ c)
    before c (inl h) = inl h
    before c (inr h) = inr (omega arith)

module _ {f : ℕ → ℕ} {at k : ℕ} {old new : List ℕ} (p : Put f at k old new) where
  -- what stands before is as it was
  pub put_front : (j : ℕ) → j ≤ at → at ≤ length old → take j new ≡ take j old
  put_front j h l =
      ext_get_or 0 (take j new) (take j old) (length-take-le j new (omega (arith, p.long)) ∙ sym (length-take-le j old (omega arith)))
      (λ i b.
      let c : i < j = omega (arith, length-take-le j new (omega (arith, p.long))) in
      get_or-take j new i 0 c ∙ p.kept i (inl (omega arith)) ∙ sym (get_or-take j old i 0 c))

  -- the part is the list with those numbers
  pub put_part : at + k ≤ length old → (l : List ℕ) → length l ≡ k → ((i : ℕ) → i < k → get_or l i 0 ≡ f i) → take k (drop at new) ≡ l
  put_part fits l size same =
      ext_get_or 0 (take k (drop at new)) l (whole ∙ sym size)
      (λ i b.
      let c : i < k = omega (arith, whole) in
      get_or-take k (drop at new) i 0 c ∙ get_or-drop at new i 0 ∙ p.put i c ∙ sym (same i c))
    where
      whole : length (take k (drop at new)) ≡ k
      whole = length-take-le k (drop at new) (omega (arith, length-drop at new, p.long))
