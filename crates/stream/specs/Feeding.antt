-- One call of the reader: what it says, the state it hands on and the bytes in its store, for any state.
use Rattle.std.specs.Prelude.{ℕ, ◌+◌, ◌-◌, ◌≤◌, ◌≡◌, Bool, true, false, cond, ◌||◌, Option, Some, None, Ok, Err, List, ◌++◌, eqb, ltb, length, take}
use Rattle.std.proofs.lemmas.List.Edits.{sets}
use Rattle.slicefile.specs.Format.{slice_limit}
use Rattle.slicefile.specs.declared.Reason.{Reason}
use Rattle.slicefile.specs.declared.Reason.TheVariants.{Cut, BytesAfterEnd, WrongBuffer, OutOfRange}
use Rattle.slicefile.specs.Refusals.{refused, Verdict}
use Rattle.column.specs.File.{file_limit}
use Rattle.column.specs.Check.{check_from, passed_from}
use Rattle.column.specs.Judge.{Judged}
use Rattle.stream.specs.declared.Reader.{Reader}
use Rattle.stream.specs.declared.Fed.{Fed}

-- a reply: "more", or a verdict
abbrev pub Reply : Type 0
Reply = Option Verdict

abbrev pub reader : ℕ → ℕ → Reply → Reader
reader len passed said = record { len = len; passed = passed; said = said }

-- "a fresh reader"
abbrev pub fresh : Reader
fresh = reader 0 0 None

-- a state that no call leaves: more bytes than the store has, or more slices than a file
abbrev pub foreign : Reader → Bool
foreign r = ltb file_limit r.len || ltb slice_limit r.passed

-- the bytes run out (1)
abbrev pub is_cut : Reason → Bool
is_cut Cut = true
is_cut r = false

-- what a check says while more bytes may come: bytes that run out may go on, and so may a sound file
abbrev pub early : Verdict → Reply
early (Err r) = cond (is_cut r.reason) None (Some (Err r))
early (Ok size) = None

-- what is said of a full store when more bytes come: 8 behind it, where no other refusal is certain
abbrev pub overfull : Reply → Reply
overfull None = Some (Err (refused BytesAfterEnd file_limit))
overfull (Some v) = Some v

-- with so many bytes more, which find room, the check, taken up behind some slices, runs out of bytes in the next one
pub record StaysInside (bytes : List ℕ) (passed more : ℕ) : Type 0 where
  pub room : length bytes + more ≤ file_limit
  pub waits : (x : List ℕ) → length x ≡ more → (None ≡ early (check_from passed (bytes ++ x))) × (passed ≡ passed_from passed (bytes ++ x))

-- the reader after some bytes, of which so many are kept and so many slices have passed before: with all of them there, the judge's verdict;
-- else what the check says, taken up behind those slices
pub data Hears (bytes : List ℕ) (len passed : ℕ) : Bool → Reader → Type 0 where
  judged : {v : Verdict} → Judged bytes v → Hears bytes len passed true (reader len passed (Some v))
  certain : {v : Verdict} → early (check_from passed bytes) ≡ Some v → Hears bytes len passed false (reader len passed (Some v))
  waits : early (check_from passed bytes) ≡ None → Hears bytes len passed false (reader len (passed_from passed bytes) None)

-- the bytes seen, with a run: those at the front of the store, and the run
abbrev pub seen : Reader → List ℕ → List ℕ → List ℕ
seen r store run = take r.len store ++ run

-- the bytes of a run that find room in the store
abbrev pub fitting : Reader → List ℕ → List ℕ
fitting r run = take (file_limit - r.len) run

-- "the sender says there is no more", or there are more bytes than the longest file has
abbrev pub final : Bool → List ℕ → Bool
final last bytes = last || ltb file_limit (length bytes)

-- a run taken into the store
pub record Takes (r : Reader) (store run : List ℕ) (last : Bool) (next : Reader) (after : List ℕ) : Type 0 where
  pub stored : after ≡ sets store r.len (fitting r run)
  pub hears : Hears (seen r store run) (r.len + length (fitting r run)) r.passed (final last (seen r store run)) next

-- a call that says something and leaves everything as it was
pub record Keeps (reply : Reply) (r : Reader) (store : List ℕ) (fed : Fed) (after : List ℕ) : Type 0 where
  pub says : fed.reply ≡ reply
  pub same : fed.reader ≡ r
  pub untouched : after ≡ store

-- a call that takes the run, and says what it hands on
pub record TakesRun (r : Reader) (store run : List ℕ) (last : Bool) (fed : Fed) (after : List ℕ) : Type 0 where
  pub says : fed.reply ≡ fed.reader.said
  pub takes : Takes r store run last fed.reader after

-- a call, by whether the store has its length, what was said before, and whether no call leaves such a state: another length is 10; "after a
-- verdict every call gives it again"; such a state is 11; else the run is taken
abbrev pub FeedsBy : Bool → Reply → Bool → Reader → List ℕ → List ℕ → Bool → Fed → List ℕ → Type 0
FeedsBy false said strange r store run last fed after = Keeps (Some (Err (refused WrongBuffer 0))) r store fed after
FeedsBy true (Some v) strange r store run last fed after = Keeps (Some v) r store fed after
FeedsBy true None true r store run last fed after = Keeps (Some (Err (refused OutOfRange 0))) r store fed after
FeedsBy true None false r store run last fed after = TakesRun r store run last fed after

pub record Feeds (r : Reader) (store run : List ℕ) (last : Bool) (fed : Fed) (after : List ℕ) : Type 0 where
  pub by : FeedsBy (eqb (length store) file_limit) r.said (foreign r) r store run last fed after
