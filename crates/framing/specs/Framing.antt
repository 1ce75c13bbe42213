-- Refusals 1 to 5 of a record as a whole, in the paper's order, before and around the rules of a slice's body.
use Rattle.std.specs.Prelude.{ℕ, Bool, not, ◌&&◌, ◌||◌, List, leb, ltb, eqb, length}
use Rattle.slicefile.specs.Format.{slice_limit, input_limit, size_tag, slice_tag, end_tag, head_length, body_length, record_length, byte_at, pair_at, body_of, slice_count, input_count}
use Rattle.slicefile.specs.declared.Reason.TheVariants.{Cut, UnknownTag, WrongLength, NotDue, OutsideList}
use Rattle.slicefile.specs.Refusals.{Tested}
use Rattle.rules.specs.Rules.{given, ◌or_else◌, body_refusal}

-- "header whole (1), tag known (2), due (4), length (3), body whole (1)", of the record that begins the list
unfoldable pub header_refusal : ℕ → List ℕ → Tested
header_refusal due s =
    given Cut (ltb (length s) head_length)
    or_else given UnknownTag (not (leb size_tag (byte_at s 0) && leb (byte_at s 0) end_tag))
    or_else given NotDue (not (eqb (byte_at s 0) due))
    or_else given WrongLength (not (eqb (pair_at s 1) (body_length due)))
    or_else given Cut (ltb (length s) (record_length due))

-- rule 5 for the size record: "n, m or a choice outside its list"
unfoldable pub bad_size : ℕ → ℕ → Bool
bad_size n m = eqb n 0 || ltb slice_limit n || ltb input_limit m

-- the record of the slice of a number, which begins the list
unfoldable pub slice_refusal : ℕ → ℕ → ℕ → List ℕ → Tested
slice_refusal n m number s = header_refusal slice_tag s or_else body_refusal n m number (body_of slice_tag s)

-- the size record, which begins the file
unfoldable pub size_refusal : List ℕ → Tested
size_refusal s = header_refusal size_tag s or_else given OutsideList (bad_size (slice_count s) (input_count s))
