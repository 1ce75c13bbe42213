-- A number and its bytes, each from the other. Assumes nothing.
use mathlib.Core.Path.{◌≡◌, refl}
use mathlib.Core.List.{List, [], ◌∷◌}
use Prim.Native.Nat.{ℕ, zero, suc, ◌+◌, ◌*◌, ◌/◌, ◌%◌, ◌^◌, ◌<◌}
use native.Mathlib.Nat.{pow-suc, pow-succ', div-one, div-div-eq-div-mul}
use native.Mathlib.Omega.{arith}
use lib.ListN.{length}
use Rattle.std.specs.Int.{w16, w64, byte_at, bytes_low_first, to_le_bytes}
use Rattle.slicefile.specs.Lists.{digits}
use Rattle.slicerecord.specs.Record.{bytes_of, Below}

-- the number on a number's bytes
pub digits_bytes_of : (k w : ℕ) → w < 256 ^ k → digits 256 (bytes_of k w) ≡ w
unfolding bytes_of
digits_bytes_of zero w h = omega arith
digits_bytes_of (suc k) w h =
    let p : w < 256 * 256 ^ k = rw pow-succ' at h in
    let e = digits_bytes_of k (w / 256) (omega arith) in
    rw e (omega arith)

-- the bytes of the number on a list of bytes
pub bytes_of_digits : (l : List ℕ) → Below 256 l → bytes_of (length l) (digits 256 l) ≡ l
unfolding bytes_of
bytes_of_digits [] h = refl
bytes_of_digits (d ∷ l) h =
    let b : d < 256 = h 0 in
    let low : (d + 256 * digits 256 l) % 256 ≡ d = omega arith in
    let high : (d + 256 * digits 256 l) / 256 ≡ digits 256 l = omega arith in
    rw (low, high, bytes_of_digits l (λ i. h (suc i)))

-- what `to_le_bytes` gives
byte : (i n : ℕ) → byte_at i n ≡ n / 256 ^ i % 256
byte zero n = rw div-one
byte (suc i) n = refl

from_byte : (i k n : ℕ) → bytes_low_first i k n ≡ bytes_of k (n / 256 ^ i)
unfolding bytes_of
from_byte i zero n = refl
from_byte i (suc k) n = rw (byte i n, from_byte (suc i) k n, pow-suc 256 i, div-div-eq-div-mul n (256 ^ i) 256)

pub word_bytes : (w : ℕ) → to_le_bytes w64 w ≡ bytes_of 8 w
word_bytes w = rw div-one at (from_byte 0 8 w)

pub code_bytes : (w : ℕ) → to_le_bytes w16 w ≡ bytes_of 2 w
code_bytes w = rw div-one at (from_byte 0 2 w)
