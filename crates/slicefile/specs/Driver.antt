-- The driver that a pin code names: "a constant, an outside input, or one output of one slice", or none: "a pin it left open".
use Rattle.std.specs.Prelude.{ℕ, Option, None, Some, ◌-◌, ◌/◌, ◌%◌, ◌<◌, cond, ◌&&◌, ltb, eqb}
use Rattle.slicefile.specs.declared.Driver.{Driver}
use Rattle.slicefile.specs.declared.Driver.TheVariants as driver

-- code 0 or 1 is that constant; 2 is a pin left open; 256+j is outside input j (j < m); 4096+16s+k is output k (0-11) of slice s (s < n).
-- No other code exists
unfoldable pub driver_of : ℕ → ℕ → ℕ → Option Driver
driver_of code n m =
    cond (ltb code 2) (Some (driver.Constant (eqb code 1)))
    (cond (ltb code 256) (cond (eqb code 2) (Some driver.Open) None)
    (cond (ltb code 4096) (cond (ltb (code - 256) m) (Some (driver.Input (code - 256))) None)
    (cond (ltb ((code - 4096) / 16) n && ltb (code % 16) 12)
    (Some (driver.Output (record { slice = (code - 4096) / 16; output = code % 16 })))
    None)))

-- what a decoded driver names is there: its outside input below m, its slice below n, its output one of the twelve
abbrev pub Within : ℕ → ℕ → Driver → Type 0
Within n m (driver.Constant b) = Unit {0}
Within n m driver.Open = Unit {0}
Within n m (driver.Input j) = j < m
Within n m (driver.Output o) = (o.slice < n) × (o.output < 12)

abbrev pub DecodedWithin : ℕ → ℕ → Option Driver → Type 0
DecodedWithin n m (Some d) = Within n m d
DecodedWithin n m None = Unit {0}
