-- The slice file's records: "one tag byte, two length bytes (low byte first), body", their tags and lengths, the limits, and the fields of a
-- slice's body by letter (A to D count 0 to 3) or pin.
use Rattle.std.specs.Prelude.{ℕ, ◌+◌, ◌*◌, ◌≤◌, cond, List, [], ◌∷◌, eqb, length, get_or, take, drop}
use Rattle.slicefile.specs.Lists.{digits}

-- "slice count n (1 to 64), outside inputs m (0 to 64)"
abbrev pub slice_limit : ℕ
slice_limit = 64

abbrev pub input_limit : ℕ
input_limit = 64

-- tag 1 is the size record, 2 a slice, 3 the end record
abbrev pub size_tag : ℕ
size_tag = 1

abbrev pub slice_tag : ℕ
slice_tag = 2

abbrev pub end_tag : ℕ
end_tag = 3

-- the tag byte and the two length bytes
abbrev pub head_length : ℕ
head_length = 3

-- the length of a tag's body: "tag 1, length 2", "tag 2, length 124", "tag 3, length 0"
abbrev pub body_length : ℕ → ℕ
body_length tag = cond (eqb tag size_tag) 2 (cond (eqb tag slice_tag) 124 0)

-- a whole record
abbrev pub record_length : ℕ → ℕ
record_length tag = head_length + body_length tag

-- "the end record, the three bytes 03 00 00"
abbrev pub end_record : List ℕ
end_record = 3 ∷ 0 ∷ 0 ∷ []

abbrev pub byte_at : List ℕ → ℕ → ℕ
byte_at s i = get_or s i 0

-- a number of two bytes, low byte first
abbrev pub pair_at : List ℕ → ℕ → ℕ
pair_at s i = byte_at s i + 256 * byte_at s (i + 1)

-- the body of the record of a tag that begins the list
abbrev pub body_of : ℕ → List ℕ → List ℕ
body_of tag s = take (body_length tag) (drop head_length s)

-- "slice count n" and "outside inputs m": the body of the size record, which begins the file
abbrev pub slice_count : List ℕ → ℕ
slice_count file = byte_at file head_length

abbrev pub input_count : List ℕ → ℕ
input_count file = byte_at file (head_length + 1)

-- bytes that hold a slice's body: all of it, whatever follows
abbrev pub HoldsSlice : List ℕ → Type 0
HoldsSlice body = body_length slice_tag ≤ length body

-- bytes 0, 1: the slice's number; 0 SLICEL, 1 SLICEM
abbrev pub number_byte : List ℕ → ℕ
number_byte body = byte_at body 0

abbrev pub kind : List ℕ → ℕ
kind body = byte_at body 1

-- bytes 2-5: 0 logic, 1 memory, 2 shift
abbrev pub mode : List ℕ → ℕ → ℕ
mode body l = byte_at body (2 + l)

-- bytes 6-9: 0 bypass pin, 1 cascade
abbrev pub shift_data : List ℕ → ℕ → ℕ
shift_data body l = byte_at body (6 + l)

-- bytes 10-41: the contents word, 8 bytes a letter, low byte first
abbrev pub contents_word : List ℕ → ℕ → ℕ
contents_word body l = digits 256 (take 8 (drop (10 + 8 * l) body))

-- bytes 42-45: 0 O5, 1 bypass pin
abbrev pub carry_data : List ℕ → ℕ → ℕ
carry_data body l = byte_at body (42 + l)

-- byte 46: 0 zero, 1 one, 2 pin AX, 3 slice below
abbrev pub carry_start : List ℕ → ℕ
carry_start body = byte_at body 46

-- bytes 47-50: 0 O5, 1 sum, 2 carry, 3 wide, 4 second flip-flop
abbrev pub mux_choice : List ℕ → ℕ → ℕ
mux_choice body l = byte_at body (47 + l)

-- bytes 51-54: 0 O6, 1 O5, 2 sum, 3 carry, 4 wide, 5 bypass pin
abbrev pub main_input : List ℕ → ℕ → ℕ
main_input body l = byte_at body (51 + l)

-- bytes 55-58: 0 O5, 1 bypass pin
abbrev pub second_input : List ℕ → ℕ → ℕ
second_input body l = byte_at body (55 + l)

-- bytes 59, 60: bits 0-3 main A to D, 4-7 second; byte 61: 0 ignored, 1 used
abbrev pub power_up_bits : List ℕ → ℕ
power_up_bits body = byte_at body 59

abbrev pub set_reset_values : List ℕ → ℕ
set_reset_values body = byte_at body 60

abbrev pub set_reset_used : List ℕ → ℕ
set_reset_used body = byte_at body 61

-- bytes 62-123: "31 pins, 2 bytes each, low byte first"
abbrev pub pin_count : ℕ
pin_count = 31

-- the driver code of pin p
abbrev pub pin_code : List ℕ → ℕ → ℕ
pin_code body p = pair_at body (62 + 2 * p)

-- the pins in their order: pin i (from 0) of a letter's table, the letter's bypass pin (AX to DX), CE, SR, WE
abbrev pub lut_pin : ℕ → ℕ → ℕ
lut_pin l i = 6 * l + i

abbrev pub bypass_pin : ℕ → ℕ
bypass_pin l = 24 + l

abbrev pub clock_enable_pin : ℕ
clock_enable_pin = 28

abbrev pub set_reset_pin : ℕ
set_reset_pin = 29

abbrev pub write_enable_pin : ℕ
write_enable_pin = 30
