-- What look-ups in a row give. A pick is a number that names one bit of the contents: in word pick / 64 the bit at place pick % 64.
use Rattle.std.specs.Prelude.{List, ℕ, zero, suc, ◌+◌, ◌*◌, ◌/◌, ◌%◌, get_or}
use Rattle.netlist.specs.Rule.{bit_at}

-- the bit that a pick names, so many places on in its word
abbrev pub picked : List ℕ → ℕ → ℕ → ℕ
picked contents pick on = bit_at (get_or contents (pick / 64) 0) ((pick + on) % 64)

-- the last bit of the first i picks, 0 before the first. Each place is moved on by the bit before it, times the link: 1 makes the picks a chain, with
-- 0 each is by itself.
unfoldable pub last_bit : List ℕ → List ℕ → ℕ → ℕ → ℕ
last_bit contents picks link zero = 0
last_bit contents picks link (suc i) = picked contents (get_or picks i 0) (link * last_bit contents picks link i)

-- the sum of the bits of the first i picks
unfoldable pub summed : List ℕ → List ℕ → ℕ → ℕ → ℕ
summed contents picks link zero = 0
summed contents picks link (suc i) = summed contents picks link i + last_bit contents picks link (suc i)
