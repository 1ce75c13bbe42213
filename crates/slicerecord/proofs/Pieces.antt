-- Fields of a body as pieces of its bytes. Assumes nothing.
use mathlib.Core.Path.{◌≡◌, refl, ◌∙◌, sym}
use mathlib.Core.List.{List, [], ◌∷◌, ◌++◌}
use Prim.Native.Nat.{ℕ, zero, suc, ◌+◌, ◌*◌, ◌<◌, ◌≤◌}
use native.Mathlib.Nat.{add-zero, mul-zero, mul-suc, mul-add}
use native.Mathlib.Omega.{arith}
use lib.Dec.{lit<}
use lib.ListN.{length, take, drop, length-drop}
use lib.Seq.{take-add, drop-drop, get_or-take, get_or-drop, length-take-le, drop-cons}
use Rattle.slicefile.specs.Lists.{digits, tabulate}
use Rattle.slicefile.specs.Format.{byte_at, pair_at}
use Rattle.slicefile.proofs.Tabulate.{tabulated, tabulate_same}
use Rattle.slicerecord.specs.Record.{bytes_of, all_bytes, Below}
use Rattle.slicerecord.proofs.Digits.{bytes_of_digits}

-- the k bytes of s from offset a on
abbrev pub piece : List ℕ → ℕ → ℕ → List ℕ
piece s a k = take k (drop a s)

length_piece : (s : List ℕ) (a k : ℕ) → a + k ≤ length s → length (piece s a k) ≡ k
length_piece s a k h = length-take-le k (drop a s) (rw length-drop (omega arith))

-- its bytes are bytes
below_take : (k : ℕ) (l : List ℕ) → Below 256 l → Below 256 (take k l)
below_take zero l b i = lit< tt
below_take (suc k) [] b i = lit< tt
below_take (suc k) (x ∷ l) b zero = b 0
below_take (suc k) (x ∷ l) b (suc i) = below_take k l (λ j. b (suc j)) i

pub below_piece : (s : List ℕ) (a k : ℕ) → Below 256 s → Below 256 (piece s a k)
below_piece s a k b = below_take k (drop a s) (λ i. rw (get_or-drop a s i 0) (b (a + i)))

-- two pieces next to each other are one
pub join : (s : List ℕ) (a k j : ℕ) {xs ys : List ℕ} → xs ≡ piece s a k → ys ≡ piece s (a + k) j → xs ++ ys ≡ piece s a (k + j)
join s a k j e f = rw (e, f, take-add k j (drop a s), drop-drop k a s)

pub piece_byte : (s : List ℕ) (a : ℕ) → a < length s → byte_at s a ∷ [] ≡ piece s a 1
piece_byte s a h = rw (drop-cons s a 0)

-- k single bytes
pub piece_bytes : (s : List ℕ) (a k : ℕ) → a + k ≤ length s → tabulate 0 k (λ l. byte_at s (a + l)) ≡ piece s a k
piece_bytes s a k h =
    sym (tabulated (λ l. byte_at s (a + l)) k (piece s a k) (length_piece s a k h) (λ l b. get_or-take k (drop a s) l 0 b ∙ get_or-drop a s l 0))

-- the bytes of the number on k bytes
pub piece_number : (s : List ℕ) (a k : ℕ) → Below 256 s → a + k ≤ length s → bytes_of k (digits 256 (piece s a k)) ≡ piece s a k
piece_number s a k b h = rw (length_piece s a k h) at (bytes_of_digits (piece s a k) (below_piece s a k b))

-- the bytes of c numbers on k bytes each, from number i on
pub piece_numbers : (s : List ℕ) (a k i c : ℕ) → Below 256 s → a + k * (i + c) ≤ length s
    → all_bytes k (tabulate i c (λ p. digits 256 (piece s (a + k * p) k))) ≡ piece s (a + k * i) (k * c)
unfolding all_bytes tabulate
piece_numbers s a k i zero b h = rw (mul-zero k)
piece_numbers s a k i (suc c) b h =
    let n : k * suc i ≡ k * i + k = mul-suc k i in
    let m : k * suc c ≡ k + k * c = rw mul-suc (omega arith) in
    let all : k * (i + suc c) ≡ k * i + k * suc c = mul-add k i (suc c) in
    let rest : k * (suc i + c) ≡ k * suc i + k * c = mul-add k (suc i) c in
    let next : a + k * suc i ≡ a + k * i + k = omega arith in
    rw m (join s (a + k * i) k (k * c) (piece_number s (a + k * i) k b (omega arith)) (rw next at (piece_numbers s a k (suc i) c b (omega arith))))

-- a pair is the number on 2 bytes
pair_digits : (t : List ℕ) → byte_at t 0 + 256 * byte_at t 1 ≡ digits 256 (take 2 t)
pair_digits [] = refl
pair_digits (x ∷ []) = refl
pair_digits (x ∷ y ∷ t) = omega arith

pair_piece : (s : List ℕ) (a : ℕ) → pair_at s a ≡ digits 256 (piece s a 2)
pair_piece s a =
    let e : byte_at (drop a s) 0 ≡ byte_at s a = rw add-zero at (get_or-drop a s 0 0) in
    rw (e, get_or-drop a s 1 0) at (pair_digits (drop a s))

-- codes are numbers on 2 bytes each
pub pairs_pieces : (s : List ℕ) (a c : ℕ) → tabulate 0 c (λ p. pair_at s (a + 2 * p)) ≡ tabulate 0 c (λ p. digits 256 (piece s (a + 2 * p) 2))
pairs_pieces s a c = tabulate_same c _ _ (λ p h. pair_piece s (a + 2 * p))
