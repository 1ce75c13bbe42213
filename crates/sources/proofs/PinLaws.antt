-- The numbers of a slice's pins: each stands at its place. Assumes nothing.
use mathlib.Core.Path.{◌≡◌, ◌∙◌, ap}
use mathlib.Core.List.{List}
use Prim.Native.Nat.{ℕ, ◌<◌}
use lib.ListN.{get_or}
use Rattle.netlist.specs.Table.{code_of}
use Rattle.slicefile.specs.Format.{pin_count}
use Rattle.slicefile.proofs.Tabulate.{tabulate_at}
use Rattle.sources.specs.Sources.{pin_source, pin_numbers}

-- the number of pin p
pub pin_at : (n m : ℕ) (body : List ℕ) {pins : List ℕ} → pins ≡ pin_numbers n m body → (p : ℕ) → p < pin_count → get_or pins p 0 ≡ code_of n (pin_source n m body p)
unfolding pin_numbers
pin_at n m body e p h = ap (λ (l : List ℕ). get_or l p 0) e ∙ tabulate_at pin_count (λ p. code_of n (pin_source n m body p)) p h
