-- The record that a body of bytes holds is one that the field types allow. Assumes nothing.
use mathlib.Core.Path.{refl}
use mathlib.Core.List.{List, [], ◌∷◌}
use Prim.Native.Nat.{ℕ, zero, suc, ◌+◌, ◌*◌, ◌^◌, ◌<◌}
use native.Mathlib.Nat.{pow-succ'}
use native.Mathlib.Omega.{arith}
use lib.Dec.{lit<}
use lib.ListN.{take, drop}
use lib.Seq.{get_or-drop}
use Rattle.slicefile.specs.Lists.{digits, tabulate}
use Rattle.slicefile.specs.Format.{byte_at, contents_word, pin_count, pin_code}
use Rattle.slicerecord.specs.Record.{letters, record_of, Below, Typed}

-- the number on k bytes
digits_below : (k : ℕ) (l : List ℕ) → Below 256 l → digits 256 (take k l) < 256 ^ k
digits_below zero l b = omega arith
digits_below (suc k) [] b = rw pow-succ' (omega (arith, digits_below k [] b))
digits_below (suc k) (x ∷ l) b = rw pow-succ' (omega (arith, b 0, digits_below k l (λ i. b (suc i))))

below_tabulate : (c i k : ℕ) (f : ℕ → ℕ) → 0 < c → ((j : ℕ) → f j < c) → Below c (tabulate i k f)
unfolding tabulate
below_tabulate c i zero f p h j = p
below_tabulate c i (suc k) f p h zero = h i
below_tabulate c i (suc k) f p h (suc j) = below_tabulate c (suc i) k f p h j

module _ (body : List ℕ) (b : Below 256 body) where
  word_below : (l : ℕ) → contents_word body l < 2 ^ 64
  word_below l = digits_below 8 (drop (10 + 8 * l) body) (λ i. rw (get_or-drop (10 + 8 * l) body i 0) (b (10 + 8 * l + i)))

  code_below : (p : ℕ) → pin_code body p < 2 ^ 16
  code_below p = omega (arith, b (62 + 2 * p), b (62 + 2 * p + 1))

  choices : (a : ℕ) → Below 256 (letters (λ l. byte_at body (a + l)))
  choices a = below_tabulate 256 0 4 (λ l. byte_at body (a + l)) (lit< tt) (λ l. b (a + l))

  pub bytes_typed : Typed (record_of body)
  unfolding record_of tabulate
  bytes_typed =
      record {
        sized = record { modes = refl; shifts = refl; contents = refl; carries = refl; muxes = refl; mains = refl; seconds = refl; pins = refl };
        number = b 0;
        kind = b 1;
        modes = choices 2;
        shifts = choices 6;
        contents = below_tabulate (2 ^ 64) 0 4 (contents_word body) (lit< tt) word_below;
        carries = choices 42;
        start = b 46;
        muxes = choices 47;
        mains = choices 51;
        seconds = choices 55;
        powerup = b 59;
        resets = b 60;
        resettable = b 61;
        pins = below_tabulate (2 ^ 16) 0 pin_count (pin_code body) (lit< tt) code_below;
      }
