-- Bytes stored one run after another. Assumes nothing.
use mathlib.Core.Path.{◌≡◌, refl, ◌∙◌, sym, ap}
use mathlib.Core.List.{List, [], ◌∷◌, ◌++◌, append-nil, append_assoc}
use Prim.Native.Nat.{ℕ, zero, suc, ◌+◌, ◌-◌, ◌*◌, ◌<◌, ◌≤◌, ◌/◌}
use native.Mathlib.Nat.{add-zero, mul-suc, mul-zero}
use native.Mathlib.Omega.{arith}
use borrow.Rule.Slice.PartMut.{put_mid}
use lib.ListN.{length, set, take, drop, get_or, length-append}
use lib.Seq.{sets, sets-eq, drop-drop, length-take-le}
use Rattle.std.proofs.lemmas.List.{take_more}
use Rattle.slicerecord.specs.Record.{bytes_of, all_bytes}

-- a run and what follows it, stored as one
pub sets_append : (l : List ℕ) (i : ℕ) (xs ys : List ℕ) → sets l i (xs ++ ys) ≡ sets (sets l i xs) (i + length xs) ys
sets_append l i [] ys = rw (add-zero i)
sets_append l i (x ∷ xs) ys =
    let e : i + suc (length xs) ≡ suc i + length xs = omega arith in
    rw e (sets_append (set l i x) (suc i) xs ys)

-- the same where the second run's offset is known
pub sets_next : (l₀ : List ℕ) {l : List ℕ} (i k : ℕ) (xs ys : List ℕ) → length xs ≡ k → l ≡ sets l₀ i xs → sets l (i + k) ys ≡ sets l₀ i (xs ++ ys)
sets_next l₀ i k xs ys h e = rw (e, ← h, sets_append l₀ i xs ys)

-- a run stored from the start on
pub sets_front : (l xs : List ℕ) (k : ℕ) → length xs ≡ k → k ≤ length l → sets l 0 xs ≡ xs ++ drop k l
sets_front l xs k e h =
    let z : 0 + length xs ≡ k = omega arith in
    rw z at (sets-eq xs l 0 (omega arith))

-- a part copied over is a run stored
pub sets_part : (l xs : List ℕ) (at : ℕ) {ys : List ℕ} → at + length xs ≤ length l → ys ≡ xs → put_mid at (at + length xs - at) l ys ≡ sets l at xs
sets_part l xs at h e =
    let k : at + length xs - at ≡ length xs = omega arith in
    rw (k, e, sets-eq xs l at h, drop-drop (length xs) at l, append_assoc)

pub length_bytes_of : (k w : ℕ) → length (bytes_of k w) ≡ k
unfolding bytes_of
length_bytes_of zero w = refl
length_bytes_of (suc k) w = ap suc (length_bytes_of k (w / 256))

pub length_all_bytes : (k : ℕ) (ws : List ℕ) → length (all_bytes k ws) ≡ k * length ws
unfolding all_bytes
length_all_bytes k [] = sym (mul-zero k)
length_all_bytes k (w ∷ ws) = rw (length-append (bytes_of k w) (all_bytes k ws), length_bytes_of k w, length_all_bytes k ws, mul-suc k (length ws)) (omega arith)

-- the bytes of a list's numbers, and of one more
all_bytes_more : (k : ℕ) (ws : List ℕ) (w : ℕ) → all_bytes k (ws ++ (w ∷ [])) ≡ all_bytes k ws ++ bytes_of k w
unfolding all_bytes
all_bytes_more k [] w = append-nil (bytes_of k w)
all_bytes_more k (v ∷ ws) w = rw (all_bytes_more k ws w, append_assoc)

-- the bytes of a list's first i numbers are stored, and then those of the next
pub numbers_next : (l₀ : List ℕ) {l new bs : List ℕ} (at k i : ℕ) (ws : List ℕ) → i < length ws → bs ≡ bytes_of k (get_or ws i 0)
    → l ≡ sets l₀ at (all_bytes k (take i ws)) → new ≡ sets l (at + k * i) bs → new ≡ sets l₀ at (all_bytes k (take (i + 1) ws))
numbers_next l₀ {l} at k i ws h b e f =
    let size : length (all_bytes k (take i ws)) ≡ k * i = rw (length_all_bytes, length-take-le i ws (omega arith)) in
    rw (take_more ws i 0 h, all_bytes_more) (f ∙ rw b (sets_next l₀ at (k * i) _ _ size e))
