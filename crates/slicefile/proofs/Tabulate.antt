-- A tabulated list: its length, what stands where, and which list is one. Assumes nothing.
use mathlib.Core.Path.{◌≡◌, refl, ◌∙◌, sym, ap}
use mathlib.Core.List.{List}
use Prim.Native.Nat.{ℕ, zero, suc, ◌+◌, ◌<◌}
use native.Mathlib.Nat.{zero-add}
use native.Mathlib.Omega.{arith}
use lib.ListN.{length, get_or}
use lib.Seq.{ext_get_or}
use Rattle.slicefile.specs.Lists.{tabulate}

pub tabulate_length : (i k : ℕ) (f : ℕ → ℕ) → length (tabulate i k f) ≡ k
unfolding tabulate
tabulate_length i zero f = refl
tabulate_length i (suc k) f = ap suc (tabulate_length (suc i) k f)

-- what stands at a place
at_from : (i k : ℕ) (f : ℕ → ℕ) (j : ℕ) → j < k → get_or (tabulate i k f) j 0 ≡ f (i + j)
unfolding tabulate
at_from i zero f j h = absurd (omega arith)
at_from i (suc k) f zero h = ap f (omega arith)
at_from i (suc k) f (suc j) h = at_from (suc i) k f j (omega arith) ∙ ap f (omega arith)

pub tabulate_at : (k : ℕ) (f : ℕ → ℕ) (j : ℕ) → j < k → get_or (tabulate 0 k f) j 0 ≡ f j
tabulate_at k f j h = at_from 0 k f j h ∙ ap f (zero-add j)

-- a list of k numbers, each the value at its place, is tabulated
pub tabulated : (f : ℕ → ℕ) (k : ℕ) (l : List ℕ) → length l ≡ k → ((j : ℕ) → j < k → get_or l j 0 ≡ f j) → l ≡ tabulate 0 k f
tabulated f k l e p =
    ext_get_or 0 l (tabulate 0 k f) (e ∙ sym (tabulate_length 0 k f)) (λ j h. p j (omega arith) ∙ sym (tabulate_at k f j (omega arith)))

-- the values from i on
pub tabulate_from : (i k : ℕ) (f : ℕ → ℕ) → tabulate i k f ≡ tabulate 0 k (λ j. f (i + j))
tabulate_from i k f = tabulated (λ j. f (i + j)) k (tabulate i k f) (tabulate_length i k f) (at_from i k f)

-- functions that agree below k
pub tabulate_same : (k : ℕ) (f g : ℕ → ℕ) → ((j : ℕ) → j < k → f j ≡ g j) → tabulate 0 k f ≡ tabulate 0 k g
tabulate_same k f g p = tabulated g k (tabulate 0 k f) (tabulate_length 0 k f) (λ j h. tabulate_at k f j h ∙ p j h)
