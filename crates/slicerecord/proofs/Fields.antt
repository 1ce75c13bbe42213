-- A record's fields, found in its bytes. Assumes nothing.
use mathlib.Core.Path.{◌≡◌, ◌∙◌, sym, ap}
use mathlib.Core.List.{List, [], ◌∷◌, ◌++◌, append_assoc}
use Prim.Native.Nat.{ℕ, zero, suc, ◌+◌, ◌*◌, ◌^◌, ◌<◌}
use native.Mathlib.Nat.{mul-zero, mul-suc}
use native.Mathlib.Omega.{arith}
use lib.ListN.{length, get_or, take, drop, get_or-append}
use lib.Seq.{drop-drop, drop_at, take_at, get_or-drop}
use Rattle.slicefile.specs.Lists.{digits, tabulate}
use Rattle.slicefile.specs.Format.{byte_at}
use Rattle.slicefile.proofs.Tabulate.{tabulated}
use Rattle.slicerecord.specs.Record.{bytes_of, all_bytes, Below}
use Rattle.slicerecord.proofs.Stores.{length_bytes_of}
use Rattle.slicerecord.proofs.Digits.{digits_bytes_of}
use Rattle.slicerecord.proofs.Pieces.{piece}

-- what follows a field of k bytes
pub after : (s : List ℕ) (a k : ℕ) (xs ys : List ℕ) → drop a s ≡ xs ++ ys → length xs ≡ k → drop (a + k) s ≡ ys
after s a k xs ys e h = sym (drop-drop k a s) ∙ rw e (drop_at xs ys k h)

-- one byte
pub byte_field : (s : List ℕ) (a j : ℕ) {t : List ℕ} → drop a s ≡ t → byte_at s (a + j) ≡ get_or t j 0
byte_field s a j e = sym (get_or-drop a s j 0) ∙ ap (λ (l : List ℕ). get_or l j 0) e

-- k single bytes
pub bytes_field : (s : List ℕ) (a k : ℕ) (xs ys : List ℕ) → drop a s ≡ xs ++ ys → length xs ≡ k → tabulate 0 k (λ l. byte_at s (a + l)) ≡ xs
bytes_field s a k xs ys e h =
    sym (tabulated (λ l. byte_at s (a + l)) k xs h (λ l b. sym (byte_field s a l e ∙ get_or-append xs ys 0 l (omega arith))))

-- a number of k bytes
number_at : (k : ℕ) (ws t : List ℕ) (l : ℕ) → l < length ws → take k (drop (k * l) (all_bytes k ws ++ t)) ≡ bytes_of k (get_or ws l 0)
unfolding all_bytes
number_at k [] t l h = absurd (omega arith)
number_at k (w ∷ ws) t zero h = rw (mul-zero k, append_assoc (bytes_of k w) (all_bytes k ws) t) (take_at (bytes_of k w) (all_bytes k ws ++ t) k (length_bytes_of k w))
number_at k (w ∷ ws) t (suc l) h =
    let m : k * suc l ≡ k + k * l = rw mul-suc (omega arith) in
    rw (append_assoc (bytes_of k w) (all_bytes k ws) t, m, ← drop-drop (k * l) k (bytes_of k w ++ (all_bytes k ws ++ t)), drop_at (bytes_of k w) (all_bytes k ws ++ t) k (length_bytes_of k w))
    (number_at k ws t l (omega arith))

-- c numbers of k bytes each
pub numbers_field : (s : List ℕ) (a k c : ℕ) (ws t : List ℕ) → drop a s ≡ all_bytes k ws ++ t → Below (256 ^ k) ws → length ws ≡ c
    → tabulate 0 c (λ l. digits 256 (piece s (a + k * l) k)) ≡ ws
numbers_field s a k c ws t e b h =
    sym (tabulated (λ l. digits 256 (piece s (a + k * l) k)) c ws h (λ l m. rw (← drop-drop (k * l) a s, e, number_at k ws t l (omega arith), digits_bytes_of k (get_or ws l 0) (b l))))
