-- A slice's edge has 27 numbers, and each stands at its place. Assumes nothing.
use mathlib.Core.Path.{◌≡◌}
use mathlib.Core.List.{List}
use Prim.Native.Nat.{ℕ, ◌<◌}
use lib.ListN.{length, get_or}
use Rattle.slicefile.proofs.Tabulate.{tabulate_length, tabulate_at}
use Rattle.clocknumbers.specs.Numbers.{edge_length, edge_number, edge_numbers}

pub numbers_length : (n m s : ℕ) (body : List ℕ) → length (edge_numbers n m s body) ≡ edge_length
unfolding edge_numbers
numbers_length n m s body = tabulate_length 0 edge_length (edge_number n m s body)

-- number k of a slice's edge
pub number_at : (n m s : ℕ) (body : List ℕ) (k : ℕ) → k < edge_length → get_or (edge_numbers n m s body) k 0 ≡ edge_number n m s body k
unfolding edge_numbers
number_at n m s body = tabulate_at edge_length (edge_number n m s body)
