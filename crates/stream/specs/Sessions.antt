-- The reader in the words of request One: what is certain, what a call owes, and calls one after another.
use Rattle.std.specs.Prelude.{ℕ, ◌≤◌, ◌≡◌, Bool, true, false, Some, None, Err, List, [], ◌∷◌, ◌++◌, length, take}
use Rattle.slicefile.specs.declared.Refusal.{Refusal}
use Rattle.slicefile.specs.Refusals.{number, Verdict}
use Rattle.column.specs.File.{file_limit}
use Rattle.column.specs.Check.{Passed}
use Rattle.column.specs.Judge.{Judged}
use Rattle.stream.specs.declared.Reader.{Reader}
use Rattle.stream.specs.declared.Fed.{Fed}
use Rattle.stream.specs.Feeding.{Reply, Feeds}

-- "a refusal of 2 to 8 is certain from the bytes seen": whatever follows, nothing included, the judge refuses by such a number
abbrev pub Certain : List ℕ → Type 0
Certain bytes = (x : List ℕ) → (r : Refusal) × (2 ≤ number r.reason) × (number r.reason ≤ 8) × Judged (bytes ++ x) (Err r)

-- what a reader owes that has seen these bytes and given no verdict before: "once the sender says there is no more, the verdict must equal the
-- judge's on the joined bytes"; till then the judge's once a refusal is certain, and "more" exactly before that
pub data Owed (bytes : List ℕ) : Bool → Reply → Type 0 where
  ended : {v : Verdict} → Judged bytes v → Owed bytes true (Some v)
  certain : {v : Verdict} → Certain bytes → Judged bytes v → Owed bytes false (Some v)
  more : (Certain bytes → ⊥) → Owed bytes false None

-- a reader that has seen these bytes, keeps them, and has given no verdict
pub record Holds (r : Reader) (store bytes : List ℕ) : Type 0 where
  pub room : length store ≡ file_limit
  pub waits : r.said ≡ None
  pub count : r.len ≡ length bytes
  pub kept : take r.len store ≡ bytes
  pub passed : Passed bytes r.passed

-- one that has given its verdict
pub record Closed (v : Verdict) (r : Reader) (store : List ℕ) : Type 0 where
  pub room : length store ≡ file_limit
  pub verdict : r.said ≡ Some v

-- the state that a reply leaves
abbrev pub Leaves : Reply → Reader → List ℕ → List ℕ → Type 0
Leaves None r store bytes = Holds r store bytes
Leaves (Some v) r store bytes = Closed v r store

-- a run, and whether the sender says that there is no more
pub record Call : Type 0 where
  pub run : List ℕ
  pub last : Bool

-- "each call given the state the last one left": the replies to a list of calls
pub data Session : Reader → List ℕ → List Call → List Reply → Type 0 where
  silence : {r : Reader} {store : List ℕ} → Session r store [] []
  call : {r : Reader} {store after : List ℕ} {c : Call} {fed : Fed} {calls : List Call} {replies : List Reply}
      → Feeds r store c.run c.last fed after → Session fed.reader after calls replies → Session r store (c ∷ calls) (fed.reply ∷ replies)

-- the runs of some calls, joined
abbrev pub joined : List Call → List ℕ
joined [] = []
joined (c ∷ calls) = c.run ++ joined calls

-- the first verdict among some replies
abbrev pub first_verdict : List Reply → Reply
first_verdict [] = None
first_verdict (None ∷ replies) = first_verdict replies
first_verdict (Some v ∷ replies) = Some v

-- what a reply is by the first verdict before it: that one again, else what is owed on all bytes so far
abbrev pub Follows : Reply → List ℕ → Bool → Reply → Type 0
Follows (Some v) bytes last reply = reply ≡ Some v
Follows None bytes last reply = Owed bytes last reply

-- where there is no call
abbrev pub no_call : Call
no_call = record { run = []; last = false }
