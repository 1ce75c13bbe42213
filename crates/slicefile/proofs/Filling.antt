-- A buffer filled from the front, and the list that it is in the end. Assumes nothing.
use mathlib.Core.Path.{◌≡◌, ◌∙◌}
use mathlib.Core.List.{List}
use Prim.Native.Nat.{ℕ, ◌+◌, ◌<◌}
use native.Mathlib.Decide.{dec_lt}
use native.Mathlib.Omega.{arith}
use lib.ListN.{length, get_or, set}
use lib.Seq.{get_or-set_same, get_or-set_other}
use Rattle.slicefile.specs.Lists.{tabulate}
use Rattle.slicefile.proofs.Tabulate.{tabulated}

-- the first k elements are those of f
abbrev pub Filled : (ℕ → ℕ) → ℕ → List ℕ → Type 0
Filled f k l = (i : ℕ) → i < k → get_or l i 0 ≡ f i

pub filled_next : (f : ℕ → ℕ) (k : ℕ) (l : List ℕ) (v : ℕ) → k < length l → v ≡ f k → Filled f k l → Filled f (k + 1) (set l k v)
filled_next f k l v h e p i b = by_place (dec_lt i k)
  where
    by_place : Dec (i < k) → get_or (set l k v) i 0 ≡ f i
    by_place (yes before) = get_or-set_other l k i v 0 (λ z. omega arith) ∙ p i before
    by_place (no late) =
        let z : i ≡ k = omega arith in
        rw z (get_or-set_same l k v 0 h ∙ e)

pub filled_all : (f : ℕ → ℕ) (k : ℕ) (l : List ℕ) → length l ≡ k → Filled f k l → l ≡ tabulate 0 k f
filled_all = tabulated
