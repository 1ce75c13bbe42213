-- The reader as three words: bytes kept, slices passed, the packed verdict (0: none yet); three zeros are a fresh reader.
use Rattle.std.specs.Prelude.{ℕ, ◌≡◌, Bool, true, false, cond, not, Option, Some, None, List, [], ◌∷◌, eqb, length, get_or}
use Rattle.slicefile.specs.declared.Reason.TheVariants.{WrongBuffer}
use Rattle.slicefile.specs.Refusals.{refused}
use Rattle.stream.specs.declared.Reader.{Reader}
use Rattle.stream.specs.declared.Fed.{Fed}
use Rattle.stream.specs.Feeding.{Reply, reader, Feeds}
use Rattle.stream.specs.Sessions.{Call}
use Rattle.quagmuffin.specs.Packed.{pack_refusal, pack_verdict, unpack_verdict, Fits, SmallVerdict}

abbrev pub state_length : ℕ
state_length = 3

-- 0 is "more": an accepted file has a slice at least, so its number is not 0
abbrev pub pack_reply : Reply → ℕ
pack_reply None = 0
pack_reply (Some v) = pack_verdict v

abbrev pub unpack_reply : ℕ → Reply
unpack_reply i = cond (eqb i 0) None (Some (unpack_verdict i))

abbrev pub FitsReply : Reply → Type 0
FitsReply None = Unit {0}
FitsReply (Some v) = Fits v

-- a refusal of 1 to 11 at a place within the longest file, or a file within the limits
abbrev pub SmallReply : Reply → Type 0
SmallReply None = Unit {0}
SmallReply (Some v) = SmallVerdict v

abbrev pub reader_of : List ℕ → Reader
reader_of words = reader (get_or words 0 0) (get_or words 1 0) (unpack_reply (get_or words 2 0))

-- where the state has its length
abbrev pub loaded : List ℕ → Option Reader
loaded words = cond (eqb (length words) state_length) (Some (reader_of words)) None

abbrev pub words_of : Reader → List ℕ
words_of r = r.len ∷ r.passed ∷ pack_reply r.said ∷ []

-- any byte but 0 says that "there is no more"
abbrev pub is_last : ℕ → Bool
is_last last = not (eqb last 0)

-- the call on a state of three words
pub record FedWords (state store run : List ℕ) (last answer : ℕ) (words after : List ℕ) : Type 0 where
  pub fed : Fed
  pub feeds : Feeds (reader_of state) store run (is_last last) fed after
  pub says : answer ≡ pack_reply fed.reply
  pub hands : words ≡ words_of fed.reader

-- by whether the state has its length: another is 10, and nothing moves
abbrev pub WordsBy : Bool → List ℕ → List ℕ → List ℕ → ℕ → ℕ → List ℕ → List ℕ → Type 0
WordsBy false state store run last answer words after = (answer ≡ pack_refusal (refused WrongBuffer 0)) × (words ≡ state) × (after ≡ store)
WordsBy true state store run last answer words after = FedWords state store run last answer words after

pub record FeedsWords (state store run : List ℕ) (last answer : ℕ) (words after : List ℕ) : Type 0 where
  pub by : WordsBy (eqb (length state) state_length) state store run last answer words after

-- calls one after another, each given the words and the store that the last one left, and what their answers say
pub data Serial : List ℕ → List ℕ → List Call → List Reply → Type 0 where
  silence : {state store : List ℕ} → Serial state store [] []
  call : {state store words after : List ℕ} {c : Call} {last answer : ℕ} {calls : List Call} {replies : List Reply} → is_last last ≡ c.last
      → FeedsWords state store c.run last answer words after → Serial words after calls replies → Serial state store (c ∷ calls) (unpack_reply answer ∷ replies)

-- a fresh reader
abbrev pub fresh_words : List ℕ
fresh_words = 0 ∷ 0 ∷ 0 ∷ []
