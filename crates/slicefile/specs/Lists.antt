-- Lists, numbers and tests that the definitions share.
use Rattle.std.specs.Prelude.{ℕ, zero, suc, ◌+◌, ◌*◌, Bool, false, ◌||◌, List, [], ◌∷◌}

-- the test passes at some number below the bound
unfoldable pub any_below : ℕ → (ℕ → Bool) → Bool
any_below zero f = false
any_below (suc k) f = f k || any_below k f

-- the number whose digits in the base are given, lowest first
abbrev pub digits : ℕ → List ℕ → ℕ
digits base [] = 0
digits base (d ∷ ds) = d + base * digits base ds

-- the values of f at the k numbers from i
unfoldable pub tabulate : ℕ → ℕ → (ℕ → ℕ) → List ℕ
tabulate i zero f = []
tabulate i (suc k) f = f i ∷ tabulate (suc i) k f
