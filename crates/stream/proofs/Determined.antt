-- A call is determined: its reply, the state it hands on and every byte of the store. Assumes nothing.
use mathlib.Core.Path.{◌≡◌, ◌∙◌, refl, sym, ap, ap₂}
use mathlib.Core.Bool.{Bool, true, false}
use Rattle.std.specs.Prelude.{Some, None}
use mathlib.Core.List.{List}
use Prim.Native.Nat.{ℕ}
use lib.Dec.{eqb}
use lib.ListN.{length}
use Rattle.slicefile.specs.Refusals.{Verdict}
use Rattle.column.specs.File.{file_limit}
use Rattle.column.proofs.Verdicts.{judged_unique}
use Rattle.stream.specs.declared.Reader.{Reader}
use Rattle.stream.specs.declared.Fed.{Fed}
use Rattle.stream.specs.Feeding.{Reply, reader, foreign, seen, Hears, judged, certain, waits, Keeps, FeedsBy, Feeds}
use Rattle.stream.specs.Sessions.{Owed, ended, certain as owed-certain, more}
use Rattle.stream.proofs.Hearing.{more_or_given, same_verdict}

-- what is owed is one reply
pub owed_unique : (bytes : List ℕ) {last : Bool} {a b : Reply} → Owed bytes last a → Owed bytes last b → a ≡ b
owed_unique bytes (ended j) (ended i) = ap Some (judged_unique bytes j i)
owed_unique bytes (owed-certain c j) (owed-certain d i) = ap Some (judged_unique bytes j i)
owed_unique bytes (owed-certain c j) (more never) = absurd (never c)
owed_unique bytes (more never) (owed-certain d i) = absurd (never d)
owed_unique bytes (more never) (more nor) = refl

-- ---- a call
hears_unique : (bytes : List ℕ) {len passed : ℕ} {b : Bool} {x y : Reader} → Hears bytes len passed b x → Hears bytes len passed b y → x ≡ y
hears_unique bytes {len} {passed} (judged j) (judged i) = ap (λ (v : Verdict). reader len passed (Some v)) (judged_unique bytes j i)
hears_unique bytes {len} {passed} (certain e) (certain f) = ap (λ (v : Verdict). reader len passed (Some v)) (same_verdict (sym e ∙ f))
hears_unique bytes (certain e) (waits f) = absurd (more_or_given _ f e)
hears_unique bytes (waits e) (certain f) = absurd (more_or_given _ e f)
hears_unique bytes (waits e) (waits f) = refl

module _ (r : Reader) (store run : List ℕ) (last : Bool) where
  same_fed : {fed fed' : Fed} → fed.reply ≡ fed'.reply → fed.reader ≡ fed'.reader → fed ≡ fed'
  same_fed e f = ap₂ (λ (a : Reply) (b : Reader). record { reply = a; reader = b }) e f

  kept_once : {reply : Reply} {fed fed' : Fed} {after after' : List ℕ} → Keeps reply r store fed after → Keeps reply r store fed' after' → (fed ≡ fed') × (after ≡ after')
  kept_once k l = (same_fed (k.says ∙ sym l.says) (k.same ∙ sym l.same), k.untouched ∙ sym l.untouched)

  by_row : (sized : Bool) (said : Reply) (strange : Bool) (fed fed' : Fed) (after after' : List ℕ) → FeedsBy sized said strange r store run last fed after
      → FeedsBy sized said strange r store run last fed' after' → (fed ≡ fed') × (after ≡ after')
  by_row false said strange fed fed' after after' k l = kept_once k l
  by_row true (Some v) strange fed fed' after after' k l = kept_once k l
  by_row true None true fed fed' after after' k l = kept_once k l
  by_row true None false fed fed' after after' k l =
      let same = hears_unique (seen r store run) k.takes.hears l.takes.hears in
      (same_fed (k.says ∙ ap (λ (x : Reader). x.said) same ∙ sym l.says) same, k.takes.stored ∙ sym l.takes.stored)

  pub feeds_unique : {fed fed' : Fed} {after after' : List ℕ} → Feeds r store run last fed after → Feeds r store run last fed' after' → (fed ≡ fed') × (after ≡ after')
  feeds_unique k l = by_row (eqb (length store) file_limit) r.said (foreign r) _ _ _ _ k.by l.by
