-- Dependence, loops and topological orders of any signals, given the list of signals that each one reads directly.
use Rattle.std.specs.Prelude.{◌≡◌, Bool, true, ◌⊎◌, ℕ, ◌<◌, length, get_or}
use mathlib.Core.List.{List, Memᴰ}

-- signal x reads signal y directly
abbrev pub Reads : (ℕ → List ℕ) → ℕ → ℕ → Type 0
Reads reads x y = Memᴰ y (reads x)

-- a chain of one or more direct reads leads from x to y
pub data Depends (reads : ℕ → List ℕ) : ℕ → ℕ → Type 0 where
  direct : {x y : ℕ} → Reads reads x y → Depends reads x y
  through : {x y z : ℕ} → Reads reads x y → Depends reads y z → Depends reads x z

-- a combinational loop: a signal that depends on itself
abbrev pub Loop : (ℕ → List ℕ) → ℕ → Type 0
Loop reads x = Depends reads x x

abbrev pub LoopFree : (ℕ → List ℕ) → ℕ → Type 0
LoopFree reads N = (x : ℕ) → x < N → Loop reads x → ⊥

-- each of the N signals reads only signals below N
abbrev pub WellFormed : (ℕ → List ℕ) → ℕ → Type 0
WellFormed reads N = (x y : ℕ) → x < N → Reads reads x y → y < N

-- y stands in the list before place i
abbrev pub Before : List ℕ → ℕ → ℕ → Type 0
Before order i y = (j : ℕ) × (j < i) × (get_or order j 0 ≡ y)

-- place i of the list holds a signal below N that does not stand before it, and all that it reads does
pub record InOrder (reads : ℕ → List ℕ) (N : ℕ) (order : List ℕ) (i : ℕ) : Type 0 where
  pub below : get_or order i 0 < N
  pub first : Before order i (get_or order i 0) → ⊥
  pub after : (y : ℕ) → Reads reads (get_or order i 0) y → Before order i y

-- a topological order: the list names each signal below N once, and each comes after all it reads
pub record Ordered (reads : ℕ → List ℕ) (N : ℕ) (order : List ℕ) : Type 0 where
  pub size : length order ≡ N
  pub each : (i : ℕ) → i < N → InOrder reads N order i

-- x depends on a change: it, or a signal it depends on, touches what changed
abbrev pub Affected : (ℕ → List ℕ) → (ℕ → Bool) → ℕ → Type 0
Affected reads touches x = (touches x ≡ true) ⊎ ((y : ℕ) × Depends reads x y × (touches y ≡ true))
