-- A part written in one go, as `out[at..at + src.len()].copy_from_slice(src)`, is numbers put from its place on. Assumes nothing.
use mathlib.Core.Path.{◌≡◌, sym, ◌∙◌}
use mathlib.Core.List.{List}
use mathlib.Core.Logic.{◌⊎◌, inl, inr}
use Prim.Native.Nat.{ℕ, ◌+◌, ◌-◌, ◌≤◌, ◌<◌}
use native.Mathlib.Omega.{arith}
use lib.ListN.{length, get_or, take, drop, length-drop, get_or-append}
use lib.Seq.{get_or-take, get_or-drop, get_or-append_right, length-take-le}
use borrow.Rule.Slice.PartMut.{put_mid, same_len_mid}
use Rattle.lent.specs.Put.{PutAll}

-- k is the part's length, and `now` is what it holds after the write
pub put_mid_all :
    {at k : ℕ} {src old now : List ℕ} → now ≡ src → k ≡ length src → at + k ≤ length old → PutAll src at old (put_mid at k old now)
put_mid_all {at} {k} {src} {old} {now} e size fits =
    rw e (record {
      long = same_len_mid at k old src (sym (length-take-le k (drop at old) (omega (arith, length-drop at old)) ∙ size));
      put = λ i h.
          let off : at + i - length (take at old) ≡ i = omega (arith, front) in
          get_or-append_right (take at old) _ (at + i) 0 (omega (arith, front)) ∙ rw off (get_or-append src _ 0 i h);
      kept = outside;
    })
  where
    front : length (take at old) ≡ at
    front = length-take-le at old (omega arith)

    outside : (c : ℕ) → (c < at) ⊎ (at + length src ≤ c) → get_or (put_mid at k old src) c 0 ≡ get_or old c 0
    outside c (inl h) = get_or-append (take at old) _ 0 c (omega (arith, front)) ∙ get_or-take at old c 0 h
    outside c (inr h) =
        let there : at + (k + (c - length (take at old) - length src)) ≡ c = omega (arith, front) in
        get_or-append_right (take at old) _ c 0 (omega (arith, front)) ∙ get_or-append_right src _ (c - length (take at old)) 0 (omega (arith, front))
        ∙ get_or-drop k (drop at old) _ 0 ∙ get_or-drop at old _ 0 ∙ rw there
