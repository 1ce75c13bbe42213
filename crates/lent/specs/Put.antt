-- Numbers put into a list from a place on.
use Rattle.std.specs.Prelude.{◌≡◌, List, ◌⊎◌, ℕ, ◌+◌, ◌≤◌, ◌<◌, length, get_or}

-- k numbers, given by their index, are put from a place on, and every other element is kept
pub record Put (f : ℕ → ℕ) (at k : ℕ) (old new : List ℕ) : Type 0 where
  pub long : length new ≡ length old
  pub put : (i : ℕ) → i < k → get_or new (at + i) 0 ≡ f i
  pub kept : (c : ℕ) → (c < at) ⊎ (at + k ≤ c) → get_or new c 0 ≡ get_or old c 0

-- the elements of a list are, each at its place
abbrev pub PutAll : List ℕ → ℕ → List ℕ → List ℕ → Type 0
PutAll src at old new = Put (λ i. get_or src i 0) at (length src) old new
