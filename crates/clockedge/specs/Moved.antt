-- The contents words of a column while the letters of one slice move.
use Rattle.std.specs.Prelude.{◌≡◌, List, ◌⊎◌, ℕ, ◌+◌, ◌*◌, ◌≤◌, ◌<◌, length, get_or}
use Rattle.clockedge.specs.Moves.{word_by}

-- "word 4s plus the letter": the first k letters of slice s have moved, from the words before the edge, and every other word is kept
pub record Moved (wires e : List ℕ) (s k : ℕ) (old new : List ℕ) : Type 0 where
  pub long : length new ≡ length old
  pub moved : (l : ℕ) → l < k → get_or new (4 * s + l) 0 ≡ word_by wires e l (get_or old (4 * s + l) 0) (get_or old (4 * s + l + 1) 0)
  pub kept : (i : ℕ) → (i < 4 * s) ⊎ (4 * s + k ≤ i) → get_or new i 0 ≡ get_or old i 0
