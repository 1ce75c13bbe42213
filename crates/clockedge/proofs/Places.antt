-- Where the fields of several numbers stand among those of a slice's edge, by their index. Assumes nothing.
use mathlib.Core.Path.{◌≡◌, ◌∙◌}
use mathlib.Core.Bool.{false}
use mathlib.Core.List.{List}
use Prim.Native.Nat.{ℕ, ◌+◌, ◌-◌, ◌<◌}
use native.Mathlib.Omega.{arith}
use borrow.Author.Tests.{ne_eqb, lt-ltb, le-ltb}
use lib.Dec.{eqb}
use lib.ListN.{get_or}
use Rattle.netlist.specs.Table.{code_of}
use Rattle.series7.specs.Edge.{flop_source}
use Rattle.clocknumbers.specs.Numbers.{enable_place, reset_place, write_place, address_place, flop_place, values_place, kind_place, data_place, width_place, address_code, table_kind, data_code, edge_number, edge_numbers}
use Rattle.clocknumbers.proofs.Table.{number_at}

past : (k b : ℕ) → b < k → eqb k b ≡ false
past k b h = ne_eqb k b (λ e. omega arith)

module _ (n m s : ℕ) (body : List ℕ) where
  -- pin i of the write address
  pub address_at : (i : ℕ) → i < 6 → get_or (edge_numbers n m s body) (address_place + i) 0 ≡ address_code n m body i
  unfolding edge_number
  address_at i h =
      let k = address_place + i in
      let index : k - address_place ≡ i = omega arith in
      number_at n m s body k (omega arith) ∙ rw (past k enable_place (omega arith), past k reset_place (omega arith), past k write_place (omega arith), lt-ltb k flop_place (omega arith), index)

  -- the data of bit b of the flip-flop byte
  pub flop_at : (b : ℕ) → b < 8 → get_or (edge_numbers n m s body) (flop_place + b) 0 ≡ code_of n (flop_source n m s body b)
  unfolding edge_number
  flop_at b h =
      let k = flop_place + b in
      let index : k - flop_place ≡ b = omega arith in
      number_at n m s body k (omega arith)
      ∙ rw (past k enable_place (omega arith), past k reset_place (omega arith), past k write_place (omega arith), le-ltb k flop_place (omega arith), lt-ltb k values_place (omega arith), index)

  -- letter l's table kind
  pub kind_at : (l : ℕ) → l < 4 → get_or (edge_numbers n m s body) (kind_place + l) 0 ≡ table_kind body l
  unfolding edge_number
  kind_at l h =
      let k = kind_place + l in
      let index : k - kind_place ≡ l = omega arith in
      number_at n m s body k (omega arith)
      ∙ rw (past k enable_place (omega arith), past k reset_place (omega arith), past k write_place (omega arith), le-ltb k flop_place (omega arith), le-ltb k values_place (omega arith), past k values_place (omega arith), lt-ltb k data_place (omega arith), index)

  -- letter l's write data
  pub data_at : (l : ℕ) → l < 4 → get_or (edge_numbers n m s body) (data_place + l) 0 ≡ data_code n m body l
  unfolding edge_number
  data_at l h =
      let k = data_place + l in
      let index : k - data_place ≡ l = omega arith in
      number_at n m s body k (omega arith)
      ∙ rw (past k enable_place (omega arith), past k reset_place (omega arith), past k write_place (omega arith), le-ltb k flop_place (omega arith), le-ltb k values_place (omega arith), past k values_place (omega arith), le-ltb k data_place (omega arith), lt-ltb k width_place (omega arith), index)
