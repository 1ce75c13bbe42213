-- Two netlists with the same gates.
use Rattle.std.specs.Prelude.{◌≡◌, ℕ, ◌<◌}
use Rattle.netlist.specs.declared.Gate.{Gate}

-- each of the N signals has the same gate in both
abbrev pub Agree : (ℕ → Gate) → (ℕ → Gate) → ℕ → Type 0
Agree g h N = (x : ℕ) → x < N → g x ≡ h x
