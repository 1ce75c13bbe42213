-- Refusals 10 and 11: what is wrong with the buffers and arguments lent to a call, for a file of n slices and m outside inputs.
use Rattle.std.specs.Prelude.{ℕ, ◌+◌, ◌*◌, ◌/◌, ◌%◌, ◌^◌, ◌≡◌, Bool, false, not, ◌&&◌, ◌||◌, List, eqb, ltb, leb, length, get_or}
use Rattle.netlist.specs.Table.{signal_count}
use Rattle.slicefile.specs.Lists.{any_below}
use Rattle.slicefile.specs.Format.{mode}
use Rattle.slicefile.specs.declared.Reason.TheVariants.{WrongBuffer, OutOfRange}
use Rattle.slicefile.specs.Refusals.{Tested}
use Rattle.rules.specs.Rules.{given, ◌or_else◌}
use Rattle.clocknumbers.specs.Numbers.{edge_length, kind_place}
use Rattle.column.specs.Clock.{State}
use Rattle.column.specs.File.{slice_body}

-- "a buffer of another length than named": 4n words of contents, n flip-flop bytes
unfoldable pub bad_state : ℕ → State → Bool
bad_state n st = not (eqb (length st.contents) (4 * n)) || not (eqb (length st.flops) n)

-- besides these, m input bytes and 32n value bytes
unfoldable pub bad_lengths : ℕ → ℕ → State → List ℕ → List ℕ → Bool
bad_lengths n m st inputs values =
    bad_state n st || not (eqb (length inputs) m) || not (eqb (length values) (signal_count n))

-- "an input or value byte not 0 or 1"
unfoldable pub bad_bytes : List ℕ → Bool
bad_bytes bytes = any_below (length bytes) (λ i. ltb 1 (get_or bytes i 0))

-- "a word or new contents with bits 32-63 set in mode 2", of table t, numbered as its word
unfoldable pub bad_word : List ℕ → ℕ → ℕ → Bool
bad_word file t w = eqb (mode (slice_body file (t / 4)) (t % 4)) 2 && leb (2 ^ 32) w

unfoldable pub bad_words : List ℕ → List ℕ → Bool
bad_words file contents = any_below (length contents) (λ t. bad_word file t (get_or contents t 0))

-- settling and clocking, with words that are bad or not: "bytes that are only filled (values in settle and clock; all in power up) are not judged"
abbrev pub settle_refusal_by : Bool → State → List ℕ → List ℕ → ℕ → ℕ → Tested
settle_refusal_by words st inputs values n m = given WrongBuffer (bad_lengths n m st inputs values) or_else given OutOfRange (bad_bytes inputs || words)

unfoldable pub settle_refusal : List ℕ → State → List ℕ → List ℕ → ℕ → ℕ → Tested
settle_refusal file st inputs values n m = settle_refusal_by (bad_words file st.contents) st inputs values n m

-- an edit, whose own argument is bad or not
abbrev pub edit_refusal_by : Bool → Bool → State → List ℕ → List ℕ → ℕ → ℕ → Tested
edit_refusal_by argument words st inputs values n m =
    given WrongBuffer (bad_lengths n m st inputs values) or_else given OutOfRange (bad_bytes inputs || bad_bytes values || words || argument)

unfoldable pub edit_refusal : Bool → List ℕ → State → List ℕ → List ℕ → ℕ → ℕ → Tested
edit_refusal argument file st inputs values n m = edit_refusal_by argument (bad_words file st.contents) st inputs values n m

-- "an outside input below m", and a byte 0 or 1 for it
abbrev pub bad_input : ℕ → ℕ → ℕ → Bool
bad_input m input byte = leb m input || ltb 1 byte

-- "a table, numbered as its word, below 4n", and contents that its mode allows
abbrev pub bad_table : List ℕ → ℕ → ℕ → ℕ → Bool
bad_table file n table word = leb (4 * n) table || bad_word file table word

-- the same by the numbers of the slices' edges: kind 2 or 3 is shift mode
abbrev pub kind_in : List ℕ → ℕ → ℕ
kind_in edges t = get_or edges (edge_length * (t / 4) + kind_place + t % 4) 0

abbrev pub bad_word_by : List ℕ → ℕ → ℕ → Bool
bad_word_by edges t w = leb 2 (kind_in edges t) && leb (2 ^ 32) w

unfoldable pub bad_words_by : List ℕ → List ℕ → Bool
bad_words_by edges contents = any_below (length contents) (λ t. bad_word_by edges t (get_or contents t 0))

abbrev pub bad_table_by : List ℕ → ℕ → ℕ → ℕ → Bool
bad_table_by edges n table word = leb (4 * n) table || bad_word_by edges table word

-- what a call leaves for the next one on the file: a state, inputs and values that none of them refuses
abbrev pub GoodState : List ℕ → ℕ → State → Type 0
GoodState file n st = (bad_state n st ≡ false) × (bad_words file st.contents ≡ false)

abbrev pub GoodInputs : ℕ → List ℕ → Type 0
GoodInputs m inputs = (length inputs ≡ m) × (bad_bytes inputs ≡ false)

abbrev pub GoodValues : ℕ → List ℕ → Type 0
GoodValues n values = (length values ≡ signal_count n) × (bad_bytes values ≡ false)
