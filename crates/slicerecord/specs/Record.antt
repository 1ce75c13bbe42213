-- A slice record as fields, and its bytes.
use Rattle.std.specs.Prelude.{ℕ, zero, suc, ◌/◌, ◌%◌, ◌^◌, ◌<◌, ◌≡◌, List, [], ◌∷◌, ◌++◌, length, get_or}
use Rattle.slicefile.specs.Lists.{tabulate}
use Rattle.slicefile.specs.Format.{number_byte, kind, mode, shift_data, contents_word, carry_data, carry_start, mux_choice, main_input, second_input, power_up_bits, set_reset_values, set_reset_used, pin_count, pin_code, slice_tag, body_length}
use Rattle.slicerecord.specs.declared.Record.{Record}

-- a field of the four letters
abbrev pub letters : (ℕ → ℕ) → List ℕ
letters f = tabulate 0 4 f

-- the record that a slice's body holds
unfoldable pub record_of : List ℕ → Record
record_of body =
    record {
      number = number_byte body;
      kind = kind body;
      modes = letters (mode body);
      shifts = letters (shift_data body);
      contents = letters (contents_word body);
      carries = letters (carry_data body);
      start = carry_start body;
      muxes = letters (mux_choice body);
      mains = letters (main_input body);
      seconds = letters (second_input body);
      powerup = power_up_bits body;
      resets = set_reset_values body;
      resettable = set_reset_used body;
      pins = tabulate 0 pin_count (pin_code body);
    }

-- a number's k bytes, low byte first; and those of each number of a list
unfoldable pub bytes_of : ℕ → ℕ → List ℕ
bytes_of zero w = []
bytes_of (suc k) w = w % 256 ∷ bytes_of k (w / 256)

unfoldable pub all_bytes : ℕ → List ℕ → List ℕ
all_bytes k [] = []
all_bytes k (w ∷ ws) = bytes_of k w ++ all_bytes k ws

-- the body of a record, in the order of the layout's table
unfoldable pub body_bytes : Record → List ℕ
body_bytes r =
    (r.number ∷ r.kind ∷ [])
    ++ (r.modes
    ++ (r.shifts
    ++ (all_bytes 8 r.contents
    ++ (r.carries
    ++ ((r.start ∷ [])
    ++ (r.muxes ++ (r.mains ++ (r.seconds ++ ((r.powerup ∷ r.resets ∷ r.resettable ∷ []) ++ all_bytes 2 r.pins)))))))))

-- the whole record: tag, length, body
unfoldable pub record_bytes : Record → List ℕ
record_bytes r = (slice_tag ∷ body_length slice_tag ∷ 0 ∷ []) ++ body_bytes r

-- what the field types say of a record: the lengths of its arrays
pub record Sized (r : Record) : Type 0 where
  pub modes : length r.modes ≡ 4
  pub shifts : length r.shifts ≡ 4
  pub contents : length r.contents ≡ 4
  pub carries : length r.carries ≡ 4
  pub muxes : length r.muxes ≡ 4
  pub mains : length r.mains ≡ 4
  pub seconds : length r.seconds ≡ 4
  pub pins : length r.pins ≡ pin_count

-- each number of a list is below a bound
abbrev pub Below : ℕ → List ℕ → Type 0
Below b l = (i : ℕ) → get_or l i 0 < b

-- and the range of each number: bytes, words of 64 bits, codes of 16 bits
pub record Typed (r : Record) : Type 0 where
  pub sized : Sized r
  pub number : r.number < 256
  pub kind : r.kind < 256
  pub modes : Below 256 r.modes
  pub shifts : Below 256 r.shifts
  pub contents : Below (2 ^ 64) r.contents
  pub carries : Below 256 r.carries
  pub start : r.start < 256
  pub muxes : Below 256 r.muxes
  pub mains : Below 256 r.mains
  pub seconds : Below 256 r.seconds
  pub powerup : r.powerup < 256
  pub resets : r.resets < 256
  pub resettable : r.resettable < 256
  pub pins : Below (2 ^ 16) r.pins
