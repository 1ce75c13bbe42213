-- Request One as a host sees it: from three zeros, each call given the words and the store that the last one left, the answers are a reader's. And what
-- an answer and every word and byte left are is determined. Assumes nothing.
use mathlib.Core.Path.{◌≡◌, ◌∙◌, refl, sym, ap, subst}
use mathlib.Core.Bool.{Bool, true, false}
use Rattle.std.specs.Prelude.{Some, None, Ok, Err}
use mathlib.Core.List.{List, ◌∷◌, ◌++◌}
use Prim.Native.Nat.{ℕ, zero, suc, ◌<◌}
use native.Mathlib.Omega.{arith}
use borrow.Author.Tests.{eq-eqb, ne_eqb}
use lib.Dec.{eqb}
use lib.ListN.{length, get_or, take}
use Rattle.slicefile.specs.declared.Size.{Size}
use Rattle.slicefile.specs.Refusals.{Verdict}
use Rattle.column.specs.File.{file_limit}
use Rattle.column.specs.Judge.{Judged}
use Rattle.stream.specs.declared.Reader.{Reader}
use Rattle.stream.specs.declared.Fed.{Fed}
use Rattle.stream.specs.Feeding.{Reply, reader, foreign, Keeps, Feeds}
use Rattle.stream.specs.Sessions.{Owed, Call, Session, silence as none, call as one, joined, first_verdict, Follows, no_call}
use Rattle.stream.proofs.Calls.{wrong_told, again_told, strange_told}
use Rattle.stream.proofs.AnyState.{accepted_kept}
use Rattle.stream.proofs.Determined.{feeds_unique}
use Rattle.stream.proofs.Serial.{session, session_owed}
use Rattle.quagmuffin.specs.Packed.{pack_verdict, SmallVerdict}
use Rattle.quagmuffin.specs.Serial.{state_length, pack_reply, unpack_reply, reader_of, words_of, is_last, FedWords, WordsBy, FeedsWords, Serial, silence, call, fresh_words, SmallReply}
use Rattle.quagmuffin.proofs.Exported.{verdict_back}
use Rattle.quagmuffin.proofs.Words.{told_more, told_verdict, reply_again, words_again, feeds_all}

-- ---- answers and words, unpacked
not_zero : (v : Verdict) → SmallVerdict v → pack_verdict v ≡ 0 → ⊥
not_zero (Err r) s e = omega (arith, s.0)
not_zero (Ok size) s e = omega (arith, s.0)

abbrev Back : Reply → Type 0
Back reply = unpack_reply (pack_reply reply) ≡ reply

small_back : (v : Verdict) → SmallVerdict v → Back (Some v)
small_back v s = told_verdict (pack_verdict v) (not_zero v s) ∙ ap Some (verdict_back v s)

module _ {state store run : List ℕ} {last answer : ℕ} {words after : List ℕ} where
  -- a state of its length
  pub words_told : length state ≡ state_length → FeedsWords state store run last answer words after → FedWords state store run last answer words after
  words_told e f = subst (λ (b : Bool). WordsBy b state store run last answer words after) (eq-eqb (length state) state_length e) f.by

  module _ (f : FedWords state store run last answer words after) where
    back : Back f.fed.reply × Back f.fed.reader.said
    back = feeds_all Back small_back refl (reader_of state) store run (is_last last) f.fed after (ap unpack_reply (reply_again (get_or state 2 0))) f.feeds

    pub answer_told : unpack_reply answer ≡ f.fed.reply
    answer_told = ap unpack_reply f.says ∙ back.0

    pub state_told : reader_of words ≡ f.fed.reader
    state_told = ap reader_of f.hands ∙ ap (λ (x : Reply). reader f.fed.reader.len f.fed.reader.passed x) back.1

-- ---- the ways a call goes, by its words
module _ {state store run : List ℕ} {last answer : ℕ} {words after : List ℕ} (f : FeedsWords state store run last answer words after) where
  -- nothing moves
  abbrev Stays : ℕ → Type 0
  Stays number = (answer ≡ number) × (words ≡ state) × (after ≡ store)

  -- a state of another length
  pub state_wrong : (length state ≡ state_length → ⊥) → Stays 10
  state_wrong ne = subst (λ (b : Bool). WordsBy b state store run last answer words after) (ne_eqb (length state) state_length ne) f.by

  module _ (three : length state ≡ state_length) where
    abbrev w : FedWords state store run last answer words after
    w = words_told three f

    stays : {reply : Reply} → Keeps reply (reader_of state) store w.fed after → Stays (pack_reply reply)
    stays k =
        (w.says ∙ ap pack_reply k.says, w.hands ∙ ap words_of k.same ∙ words_again state three, k.untouched)

    -- a store of another length
    pub store_wrong : (length store ≡ file_limit → ⊥) → Stays 10
    store_wrong ne = stays (wrong_told ne w.feeds)

    module _ (full : length store ≡ file_limit) where
      -- a verdict that was given
      pub verdict_again : (get_or state 2 0 ≡ 0 → ⊥) → Stays (get_or state 2 0)
      verdict_again ne =
          let k = stays (again_told full (told_verdict (get_or state 2 0) ne) w.feeds) in
          (k.0 ∙ ap pack_reply (sym (told_verdict (get_or state 2 0) ne)) ∙ reply_again (get_or state 2 0), k.1, k.2)

      -- a state that no call leaves
      pub state_strange : get_or state 2 0 ≡ 0 → foreign (reader_of state) ≡ true → Stays 11
      state_strange z e = stays (strange_told full (told_more (get_or state 2 0) z) e w.feeds)

    -- whatever the state: what is accepted the judge accepts, and it is the front of the store, of so many bytes as the first word says
    pub accepted_front : {size : Size} → get_or state 2 0 ≡ 0 → unpack_reply answer ≡ Some (Ok size)
        → let bytes = take (get_or state 0 0) store ++ run in Judged bytes (Ok size) × (take (get_or words 0 0) after ≡ bytes)
    accepted_front z e =
        let a = accepted_kept (reader_of state) store run (is_last last) w.fed after (sym (answer_told w) ∙ e) (told_more (get_or state 2 0) z) w.feeds in
        (a.0, ap (λ (l : List ℕ). take (get_or l 0 0) after) w.hands ∙ a.1)

-- ---- call after call
pub serial_session : {state store : List ℕ} {calls : List Call} {replies : List Reply} → length state ≡ state_length → Serial state store calls replies → Session (reader_of state) store calls replies
serial_session e silence = none
serial_session {state} {store} e (call {words = words} {after = after} {c = c} {last = last} {answer = answer} {calls = calls} {replies = replies} l f rest) =
    let w : FedWords state store c.run last answer words after = words_told e f in
    let feeds : Feeds (reader_of state) store c.run c.last w.fed after = subst (λ (b : Bool). Feeds (reader_of state) store c.run b w.fed after) l w.feeds in
    let on : Session w.fed.reader after calls replies = subst (λ (r : Reader). Session r after calls replies) (state_told w) (serial_session (ap length w.hands) rest) in
    subst (λ (x : Reply). Session (reader_of state) store (c ∷ calls) (x ∷ replies)) (sym (answer_told w)) (one feeds on)

-- from three zeros the reply to each call is the first verdict given before it, else what is owed on the runs up to it, joined
pub serial : (store : List ℕ) {calls : List Call} {replies : List Reply} → length store ≡ file_limit → Serial fresh_words store calls replies
    → (k : ℕ) → k < length calls → Follows (first_verdict (take k replies)) (joined (take (suc k) calls)) (get_or calls k no_call).last (get_or replies k None)
serial store full s = session store full (serial_session refl s)

-- and up to the sender's last word, and with it, what is owed on all runs so far, also where the verdict was given before
pub serial_owed : (store : List ℕ) {calls : List Call} {replies : List Reply} → length store ≡ file_limit → Serial fresh_words store calls replies
    → (k : ℕ) → k < length calls → ((i : ℕ) → i < k → (get_or calls i no_call).last ≡ false)
    → Owed (joined (take (suc k) calls)) (get_or calls k no_call).last (get_or replies k None)
serial_owed store full s = session_owed store full (serial_session refl s)

-- ---- the numbers of a reader's refusals
small_told : {state store run : List ℕ} {last answer : ℕ} {words after : List ℕ} (w : FedWords state store run last answer words after) → SmallReply (reader_of state).said
    → SmallReply w.fed.reply × SmallReply w.fed.reader.said
small_told {state} {store} {run} {last} {after = after} w s = feeds_all SmallReply (λ v small. small) tt (reader_of state) store run (is_last last) w.fed after s w.feeds

small_from : {state store : List ℕ} {calls : List Call} {replies : List Reply} → length state ≡ state_length → SmallReply (reader_of state).said → Serial state store calls replies
    → (k : ℕ) → SmallReply (get_or replies k None)
small_from e s silence k = tt
small_from e s (call l f rest) zero =
    let w = words_told e f in
    subst SmallReply (sym (answer_told w)) (small_told w s).0
small_from e s (call l f rest) (suc k) =
    let w = words_told e f in
    small_from (ap length w.hands) (subst SmallReply (ap (λ (r : Reader). r.said) (sym (state_told w))) (small_told w s).1) rest k

-- from three zeros they are 1 to 11, at a place of at most 8,136
pub serial_small : (store : List ℕ) {calls : List Call} {replies : List Reply} → Serial fresh_words store calls replies → (k : ℕ) → SmallReply (get_or replies k None)
serial_small store s = small_from refl tt s

-- ---- determined
pub feed_determined : (state store run : List ℕ) (last : ℕ) {i j : ℕ} {words words' after after' : List ℕ} → FeedsWords state store run last i words after
    → FeedsWords state store run last j words' after' → (i ≡ j) × (words ≡ words') × (after ≡ after')
feed_determined state store run last {i} {j} {words} {words'} {after} {after'} f g = by_length (eqb (length state) state_length) f.by g.by
  where
    by_length : (b : Bool) → WordsBy b state store run last i words after → WordsBy b state store run last j words' after' → (i ≡ j) × (words ≡ words') × (after ≡ after')
    by_length false x y = (x.0 ∙ sym y.0, x.1 ∙ sym y.1, x.2 ∙ sym y.2)
    by_length true x y =
        let u = feeds_unique (reader_of state) store run (is_last last) x.feeds y.feeds in (
          x.says ∙ ap (λ (d : Fed). pack_reply d.reply) u.0 ∙ sym y.says,
          x.hands ∙ ap (λ (d : Fed). words_of d.reader) u.0 ∙ sym y.hands,
          u.1,
        )
