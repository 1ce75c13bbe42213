-- A record's refusal goes by its own bytes: one other than 1 stays whatever follows, and 1 says that the bytes run out in the record.
-- Assumes nothing.
use mathlib.Core.Path.{◌≡◌, refl, sym, ap, ap₂, ◌∙◌}
use mathlib.Core.Bool.{Bool, true, false, not, ◌&&◌}
use Rattle.std.specs.Prelude.{Ok, Err}
use mathlib.Core.List.{List, ◌++◌}
use Prim.Native.Nat.{ℕ, ◌%◌, ◌≤◌, ◌<◌}
use native.Mathlib.Omega.{arith}
use borrow.Author.Tests.{lt-ltb, le-ltb, ltb-true, ltb-false}
use lib.Dec.{ltb, leb, eqb}
use lib.ListN.{length, take, drop, length-append, length-drop, get_or-append}
use lib.Seq.{take-append-le, drop-append-le}
use Rattle.slicefile.specs.Format.{size_tag, slice_tag, end_tag, head_length, body_length, record_length, byte_at, pair_at, body_of, number_byte}
use Rattle.slicefile.specs.declared.Reason.{Reason}
use Rattle.slicefile.specs.declared.Reason.TheVariants.{Cut, UnknownTag, WrongLength, NotDue, OutsideList, Combination, NoDriver}
use Rattle.slicefile.specs.Refusals.{Tested}
use Rattle.rules.specs.Rules.{given, ◌or_else◌, bad_choice, bad_combination, bad_driver, body_refusal}
use Rattle.framing.specs.Framing.{header_refusal, bad_size, slice_refusal, size_refusal}
use Rattle.rules.proofs.Refusals.{or_else_second}
use Rattle.framing.proofs.RecordLaws.{header_whole}

-- a test whose answer is that the bytes run out
abbrev cut : Tested → Type 0
cut a = a ≡ Err Cut

-- a first answer of that is the one given
first_one : (a b : Tested) → cut a → cut (a or_else b)
first_one (Ok u) b e = absurd (cc e)
first_one (Err r) b e = e

-- that answer is one of the two
one_of : (a b : Tested) {P : Type 0} → (cut a → P) → (cut b → P) → cut (a or_else b) → P
one_of (Ok u) b f g e = g e
one_of (Err r) b f g e = f e

-- what comes second counts only where the first gives no reason
second_stays : (a : Tested) {b c : Tested} → (a ≡ Ok tt → c ≡ b) → a or_else c ≡ a or_else b
second_stays (Ok u) f = f refl
second_stays (Err r) f = refl

later_stays : (a : Tested) {b c : Tested} → ((cut b → ⊥) → c ≡ b) → (cut (a or_else b) → ⊥) → a or_else c ≡ a or_else b
later_stays a {b} f ne = second_stays a (λ e. f (λ z. ne (sym (or_else_second a b e) ∙ z)))

-- a test for another reason, before a later one
later_one : (r : Reason) (t : Bool) {b : Tested} {P : Type 0} → (r ≡ Cut → ⊥) → (cut b → P) → cut (given r t or_else b) → P
later_one r true other f e = absurd (other (cc e))
later_one r false other f e = f e

given_other : (r : Reason) (t : Bool) → (r ≡ Cut → ⊥) → cut (given r t) → ⊥
given_other r true other e = other (cc e)
given_other r false other e = absurd (cc e)

given_one : (t : Bool) → cut (given Cut t) → t ≡ true
given_one true e = refl
given_one false e = absurd (cc e)

not_given : (t : Bool) → (cut (given Cut t) → ⊥) → t ≡ false
not_given true ne = absurd (ne refl)
not_given false ne = refl

-- bytes that do not run out before k do not in a longer list either
enough_stays : (s x : List ℕ) (k : ℕ) → ltb (length s) k ≡ false → ltb (length (s ++ x)) k ≡ false
enough_stays s x k e = le-ltb _ k (omega (arith, ltb-false (length s) k e, length-append s x))

-- a byte that is there stays
byte_stays : (s x : List ℕ) (i : ℕ) → i < length s → byte_at (s ++ x) i ≡ byte_at s i
byte_stays s x i h = get_or-append s x 0 i h

short_one : (s : List ℕ) (k : ℕ) → cut (given Cut (ltb (length s) k)) → length s < k
short_one s k e = ltb-true (length s) k (given_one (ltb (length s) k) e)

module _ (due : ℕ) (s : List ℕ) where
  abbrev unknown : Bool
  unknown = not (leb size_tag (byte_at s 0) && leb (byte_at s 0) end_tag)

  abbrev undue : Bool
  undue = not (eqb (byte_at s 0) due)

  abbrev mistold : Bool
  mistold = not (eqb (pair_at s 1) (body_length due))

  pub header_stays : (x : List ℕ) → (cut (header_refusal due s) → ⊥) → header_refusal due (s ++ x) ≡ header_refusal due s
  unfolding header_refusal
  header_stays x ne =
      let enough : ltb (length s) head_length ≡ false = not_given _ (λ z. ne (first_one (given Cut (ltb (length s) head_length)) _ z)) in
      let room : head_length ≤ length s = ltb-false (length s) head_length enough in
      simp (byte_stays s x 0 (omega arith), byte_stays s x 1 (omega arith), byte_stays s x 2 (omega arith), enough, enough_stays s x head_length enough)
      (later_stays (given UnknownTag unknown)
      (later_stays (given NotDue undue)
      (later_stays (given WrongLength mistold)
      (λ ne₅.
      let whole : ltb (length s) (record_length due) ≡ false = not_given _ ne₅ in
      simp (whole, enough_stays s x (record_length due) whole))))
      (λ z. ne (sym (or_else_second (given Cut (ltb (length s) head_length)) _ (ap (given Cut) enough)) ∙ z)))

  pub header_cut : cut (header_refusal due s) → length s < record_length due
  unfolding header_refusal
  header_cut =
      one_of (given Cut (ltb (length s) head_length)) _ (λ z. omega (arith, short_one s head_length z))
      (later_one UnknownTag unknown (λ e. cc e)
      (later_one NotDue undue (λ e. cc e) (later_one WrongLength mistold (λ e. cc e) (short_one s (record_length due)))))

-- tests of other numbers before a refusal 1
none_before : (t u v : Bool) (b : Tested) → cut (given UnknownTag t or_else given NotDue u or_else given WrongLength v or_else b) → (t ≡ false) × (u ≡ false) × (v ≡ false)
none_before true u v b e = absurd (cc e)
none_before false true v b e = absurd (cc e)
none_before false false true b e = absurd (cc e)
none_before false false false b e = (refl, refl, refl)

-- a record whose header is there, and whose body is still not whole with more bytes
pub header_waits : (due : ℕ) (s x : List ℕ) → head_length ≤ length s → cut (header_refusal due s) → length (s ++ x) < record_length due → cut (header_refusal due (s ++ x))
unfolding header_refusal
header_waits due s x room e short =
    let enough : ltb (length s) head_length ≡ false = le-ltb (length s) head_length room in
    let n = none_before (unknown due s) (undue due s) (mistold due s) (given Cut (ltb (length s) (record_length due))) (rw enough at e) in
    simp (byte_stays s x 0 (omega arith), byte_stays s x 1 (omega arith), byte_stays s x 2 (omega arith), enough_stays s x head_length enough, n.0, n.1, n.2, lt-ltb (length (s ++ x)) (record_length due) short)

-- a record with more rules on its body
module _ (due : ℕ) (rest : List ℕ → Tested) (s : List ℕ) where
  record_stays : (x : List ℕ) → (record_length due ≤ length s → rest (s ++ x) ≡ rest s) → (cut (header_refusal due s or_else rest s) → ⊥)
      → header_refusal due (s ++ x) or_else rest (s ++ x) ≡ header_refusal due s or_else rest s
  record_stays x f ne =
      ap (λ (h : Tested). h or_else rest (s ++ x)) (header_stays due s x (λ z. ne (first_one (header_refusal due s) (rest s) z)))
      ∙ second_stays (header_refusal due s) (λ e. f (header_whole due s e))

  record_cut : (cut (rest s) → ⊥) → cut (header_refusal due s or_else rest s) → length s < record_length due
  record_cut ne = one_of (header_refusal due s) (rest s) (header_cut due s) (λ z. absurd (ne z))

-- a body that is whole stays
body_stays : (tag : ℕ) (s x : List ℕ) → record_length tag ≤ length s → body_of tag (s ++ x) ≡ body_of tag s
body_stays tag s x h =
    ap (take (body_length tag)) (drop-append-le head_length s x (omega arith))
    ∙ take-append-le (body_length tag) (drop head_length s) x (omega (arith, length-drop head_length s))

module _ (n m number : ℕ) (s : List ℕ) where
  body_not_one : (body : List ℕ) → cut (body_refusal n m number body) → ⊥
  unfolding body_refusal
  body_not_one body =
      later_one NotDue (not (eqb (number_byte body) (number % 256))) (λ e. cc e)
      (later_one OutsideList (bad_choice body) (λ e. cc e)
      (later_one Combination (bad_combination number body) (λ e. cc e) (given_other NoDriver (bad_driver n m body) (λ e. cc e))))

  pub slice_stays : (x : List ℕ) → (cut (slice_refusal n m number s) → ⊥) → slice_refusal n m number (s ++ x) ≡ slice_refusal n m number s
  unfolding slice_refusal
  slice_stays x =
      record_stays slice_tag (λ b. body_refusal n m number (body_of slice_tag b)) s x (λ h. ap (body_refusal n m number) (body_stays slice_tag s x h))

  -- a slice whose header or body is cut
  pub slice_short : cut (header_refusal slice_tag s) → Err Cut ≡ slice_refusal n m number s
  unfolding slice_refusal
  slice_short e = sym (first_one (header_refusal slice_tag s) _ e)

  pub slice_cut : cut (slice_refusal n m number s) → length s < record_length slice_tag
  unfolding slice_refusal
  slice_cut = record_cut slice_tag (λ b. body_refusal n m number (body_of slice_tag b)) s (body_not_one (body_of slice_tag s))

module _ (s : List ℕ) where
  pub size_stays : (x : List ℕ) → (cut (size_refusal s) → ⊥) → size_refusal (s ++ x) ≡ size_refusal s
  unfolding size_refusal
  size_stays x =
      record_stays size_tag (λ b. given OutsideList (bad_size (byte_at b 3) (byte_at b 4))) s x
      (λ h. ap₂ (λ (k l : ℕ). given OutsideList (bad_size k l)) (byte_stays s x 3 (omega arith)) (byte_stays s x 4 (omega arith)))

  pub size_cut : cut (size_refusal s) → length s < record_length size_tag
  unfolding size_refusal
  size_cut = record_cut size_tag (λ b. given OutsideList (bad_size (byte_at b 3) (byte_at b 4))) s (given_other OutsideList (bad_size (byte_at s 3) (byte_at s 4)) (λ e. cc e))
