-- A slice's clock edge as 27 plain numbers, of which it reads the first 26. A source stands by its code, and is the constant 0 where the slice
-- doesn't use it.
use Rattle.std.specs.Prelude.{cond, List, ℕ, ◌-◌, ltb, eqb}
use Rattle.netlist.specs.Table.{code_of}
use Rattle.slicefile.specs.Lists.{tabulate}
use Rattle.slicefile.specs.Format.{mode, shift_data, set_reset_values, set_reset_used, lut_pin, bypass_pin, clock_enable_pin, set_reset_pin, write_enable_pin}
use Rattle.sources.specs.Sources.{pin_source}
use Rattle.series7.specs.Edge.{flop_source}

-- their places: the sources of CE, SR and WE; of the write address D1-D6
abbrev pub enable_place : ℕ
enable_place = 0

abbrev pub reset_place : ℕ
reset_place = 1

abbrev pub write_place : ℕ
write_place = 2

abbrev pub address_place : ℕ
address_place = 3

-- the data of main A to D and second A to D; the set/reset values
abbrev pub flop_place : ℕ
flop_place = 9

abbrev pub values_place : ℕ
values_place = 17

-- the table kinds and the write data of A to D
abbrev pub kind_place : ℕ
kind_place = 18

abbrev pub data_place : ℕ
data_place = 22

-- the flip-flops in the byte: 8, which no edge reads; it is there for a slice family that has fewer
abbrev pub width_place : ℕ
width_place = 26

-- how many numbers a slice has
abbrev pub edge_length : ℕ
edge_length = 27

-- "set/reset pin: 0 ignored, 1 used"
unfoldable pub reset_code : ℕ → ℕ → List ℕ → ℕ
reset_code n m body = cond (eqb (set_reset_used body) 1) (code_of n (pin_source n m body set_reset_pin)) 0

-- "memory writes .. at the address on D1-D6", and only with D in memory mode
unfoldable pub address_code : ℕ → ℕ → List ℕ → ℕ → ℕ
address_code n m body i = cond (eqb (mode body 3) 1) (code_of n (pin_source n m body (lut_pin 3 i))) 0

-- a table's kind by its mode and its shift data: 0 logic, 1 memory, 2 shift from the bypass pin, 3 shift from the next letter
unfoldable pub kind_of : ℕ → ℕ → ℕ
kind_of x d = cond (eqb x 0) 0 (cond (eqb x 1) 1 (cond (eqb d 1) 3 2))

abbrev pub table_kind : List ℕ → ℕ → ℕ
table_kind body l = kind_of (mode body l) (shift_data body l)

-- the bypass pin's code, for the two kinds that write it
unfoldable pub write_code : ℕ → ℕ → ℕ
write_code k code = cond (eqb k 0) 0 (cond (eqb k 3) 0 code)

-- letter l's write data
abbrev pub data_code : ℕ → ℕ → List ℕ → ℕ → ℕ
data_code n m body l = write_code (table_kind body l) (code_of n (pin_source n m body (bypass_pin l)))

-- number k of the edge
unfoldable pub edge_number : ℕ → ℕ → ℕ → List ℕ → ℕ → ℕ
edge_number n m s body k =
    cond (eqb k enable_place) (code_of n (pin_source n m body clock_enable_pin))
    (cond (eqb k reset_place) (reset_code n m body)
    (cond (eqb k write_place) (code_of n (pin_source n m body write_enable_pin))
    (cond (ltb k flop_place) (address_code n m body (k - address_place))
    (cond (ltb k values_place) (code_of n (flop_source n m s body (k - flop_place)))
    (cond (eqb k values_place) (set_reset_values body)
    (cond (ltb k data_place) (table_kind body (k - kind_place))
    (cond (ltb k width_place) (data_code n m body (k - data_place)) 8)))))))

-- the numbers of slice s, whose record has that body, in a file of n slices and m outside inputs
unfoldable pub edge_numbers : ℕ → ℕ → ℕ → List ℕ → List ℕ
edge_numbers n m s body = tabulate 0 edge_length (edge_number n m s body)
