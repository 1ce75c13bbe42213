-- Request One: from a fresh reader, each call given the state the last one left, the verdict equals the judge's on the joined bytes once the
-- sender says there is no more, a refusal is given as soon as it is certain, and every call after a verdict gives it again. Assumes nothing.
use mathlib.Core.Path.{◌≡◌, ◌∙◌, refl, sym, ap, subst}
use mathlib.Core.Bool.{Bool, true, false, true≢false}
use Rattle.std.specs.Prelude.{Some, None}
use mathlib.Core.List.{List, [], ◌∷◌, ◌++◌, append-nil, append_assoc}
use Prim.Native.Nat.{ℕ, zero, suc, ◌+◌, ◌-◌, ◌≤◌, ◌<◌}
use native.Mathlib.Omega.{arith}
use borrow.Author.Tests.{le-ltb, ltb-true, ltb-false}
use lib.ListN.{length, take, get_or, length-take}
use lib.Seq.{length-sets}
use Rattle.slicefile.specs.Format.{slice_limit}
use Rattle.slicefile.specs.declared.Reason.TheVariants.{Cut}
use Rattle.slicefile.specs.declared.Refusal.{Refusal}
use Rattle.slicefile.specs.Refusals.{number, refused, Verdict}
use Rattle.framing.specs.Framing.{header_refusal, size_refusal}
use Rattle.column.specs.File.{file_limit}
use Rattle.column.specs.Check.{check_file, Passed}
use Rattle.column.specs.Judge.{Judged, bad}
use Rattle.column.proofs.Resuming.{none_passed, passed_fit, passed_check, passed_on, passed_stay}
use Rattle.stream.specs.declared.Reader.{Reader}
use Rattle.stream.specs.declared.Fed.{Fed}
use Rattle.stream.specs.Feeding.{Reply, fresh, foreign, early, seen, fitting, final, Hears, judged, certain as tested, waits, Feeds}
use Rattle.stream.specs.Sessions.{Certain, Owed, ended, certain, more, Holds, Closed, Leaves, Call, Session, silence, call, joined, first_verdict, Follows, no_call}
use Rattle.stream.proofs.Hearing.{more_or_given, same_verdict, early_other, given_early}
use Rattle.stream.proofs.Taking.{front_seen}
use Rattle.stream.proofs.Calls.{again_told, run_told}
use Rattle.stream.proofs.Certainty.{other_number, tests_certain, certain_tested, long_certain, certain_stays, verdict_stays}

-- ---- what a check says early is what is certain
module _ (bytes : List ℕ) where
  early_certain : {v : Verdict} → early (check_file bytes) ≡ Some v → Owed bytes false (Some v)
  early_certain e =
      let g = given_early (check_file bytes) e in
      certain (tests_certain bytes g.1 g.2) (subst (Judged bytes) g.3 (bad g.1))

  early_waits : early (check_file bytes) ≡ None → Owed bytes false None
  early_waits e =
      more (λ c.
      let t = certain_tested bytes c in
      more_or_given (early (check_file bytes)) e (ap early t.2 ∙ sym (early_other (other_number t.0 t.1))))

  -- the sender's word, or more bytes than the longest file has
  finally : (last : Bool) {v : Verdict} → true ≡ final last bytes → Judged bytes v → Owed bytes last (Some v)
  finally true e j = ended j
  finally false e j = certain (long_certain bytes (ltb-true file_limit (length bytes) (sym e))) j

  not_yet : (last : Bool) → false ≡ final last bytes → (last ≡ false) × (length bytes ≤ file_limit)
  not_yet true e = absurd (true≢false (sym e))
  not_yet false e = (refl, ltb-false file_limit (length bytes) (sym e))

  heard_owed : {len passed : ℕ} {b last : Bool} {next : Reader} → Passed bytes passed → b ≡ final last bytes → Hears bytes len passed b next → Owed bytes last next.said
  heard_owed {last = last} p e (judged j) = finally last e j
  heard_owed {last = last} p e (tested {v} g) =
      subst (λ (l : Bool). Owed bytes l (Some v)) (sym (not_yet last e).0) (early_certain (ap early (sym (passed_check bytes p)) ∙ g))
  heard_owed {last = last} p e (waits g) =
      subst (λ (l : Bool). Owed bytes l None) (sym (not_yet last e).0) (early_waits (ap early (sym (passed_check bytes p)) ∙ g))

-- ---- one call
module _ {r : Reader} {store bytes : List ℕ} (h : Holds r store bytes) where
  within : r.len ≤ file_limit
  within = omega (arith, h.count, ap length h.kept, length-take r.len store, h.room)

  own : foreign r ≡ false
  own = rw (le-ltb file_limit r.len within, le-ltb slice_limit r.passed (passed_fit bytes h.passed))

  module _ {run : List ℕ} {last : Bool} {fed : Fed} {after : List ℕ} (f : Feeds r store run last fed after) where
    abbrev all : List ℕ
    all = bytes ++ run

    same : seen r store run ≡ all
    same = ap (λ (b : List ℕ). b ++ run) h.kept

    heard : Hears all (r.len + length (fitting r run)) r.passed (final last all) fed.reader
    heard = subst (λ (b : List ℕ). Hears b (r.len + length (fitting r run)) r.passed (final last b) fed.reader) same (run_told h.room h.waits own f).takes.hears

    -- a reader that holds bytes says what is owed on them and the run
    pub call_owed : Owed all last fed.reply
    call_owed = subst (Owed all last) (sym (run_told h.room h.waits own f).says) (heard_owed all (passed_stay bytes run h.passed) refl heard)

    stored : length after ≡ file_limit
    stored = ap length (run_told h.room h.waits own f).takes.stored ∙ length-sets store r.len (fitting r run) ∙ h.room

    -- where all bytes found room it holds them
    goes_on : length all ≤ file_limit → fed.reader.len ≡ r.len + length (fitting r run) → fed.reader.said ≡ None → Passed all fed.reader.passed → Holds fed.reader after all
    goes_on short len said p =
        let kept = front_seen r store run h.room within (rw same short) len (run_told h.room h.waits own f).takes.stored ∙ same in
        record { room = stored; waits = said; count = omega (arith, len, ap length kept, length-take fed.reader.len after, stored, length-take (file_limit - r.len) run, within); kept = kept; passed = p }

    left_by : {b : Bool} {next : Reader} → b ≡ final last all → fed.reader ≡ next → Hears all (r.len + length (fitting r run)) r.passed b next → Leaves next.said fed.reader after all
    left_by e n (judged j) = record { room = stored; verdict = ap (λ (x : Reader). x.said) n }
    left_by e n (tested g) = record { room = stored; verdict = ap (λ (x : Reader). x.said) n }
    left_by e n (waits g) =
        goes_on (not_yet all last e).1 (ap (λ (x : Reader). x.len) n) (ap (λ (x : Reader). x.said) n)
        (subst (Passed all) (sym (ap (λ (x : Reader). x.passed) n)) (passed_on all (passed_stay bytes run h.passed)))

    -- and holds them too, or is closed with its verdict
    pub call_leaves : Leaves fed.reply fed.reader after all
    call_leaves = subst (λ (x : Reply). Leaves x fed.reader after all) (sym (run_told h.room h.waits own f).says) (left_by refl refl heard)

-- "after a verdict every call gives it again", and moves nothing
pub call_again : {v : Verdict} {r : Reader} {store : List ℕ} → Closed v r store → {run : List ℕ} {last : Bool} {fed : Fed} {after : List ℕ} → Feeds r store run last fed after
    → (fed.reply ≡ Some v) × (fed.reader ≡ r) × (after ≡ store)
call_again c f = let k = again_told c.room c.verdict f in (k.says, k.same, k.untouched)

-- ---- calls one after another

-- a fresh reader holds the empty file
pub fresh_holds : (store : List ℕ) → length store ≡ file_limit → Holds fresh store []
fresh_holds store full = record { room = full; waits = refl; count = refl; kept = refl; passed = none_passed [] }

closed_after : {v : Verdict} {r : Reader} {store : List ℕ} {calls : List Call} {replies : List Reply} → Closed v r store → Session r store calls replies
    → (k : ℕ) → k < length calls → get_or replies k None ≡ Some v
closed_after c silence k l = absurd (omega arith)
closed_after c (call f rest) zero l = (call_again c f).0
closed_after {v} c (call f rest) (suc k) l =
    let a = call_again c f in
    closed_after {v = v} record { room = ap length a.2 ∙ c.room; verdict = ap (λ (x : Reader). x.said) a.1 ∙ c.verdict } rest k (omega arith)

-- the replies behind one reply, by the state it leaves
behind : (reply : Reply) (r : Reader) (store bytes : List ℕ) (replies : List Reply) (all : List ℕ) (last : Bool) (next : Reply)
    → (Holds r store bytes → Follows (first_verdict replies) all last next) → ((v : Verdict) → Closed v r store → next ≡ Some v) → Leaves reply r store bytes
    → Follows (first_verdict (reply ∷ replies)) all last next
behind None r store bytes replies _ last next on again l = on l
behind (Some v) r store bytes replies _ last next on again l = again v l

held_after : {r : Reader} {store bytes : List ℕ} {calls : List Call} {replies : List Reply} → Holds r store bytes → Session r store calls replies
    → (k : ℕ) → k < length calls → Follows (first_verdict (take k replies)) (bytes ++ joined (take (suc k) calls)) (get_or calls k no_call).last (get_or replies k None)
held_after h silence k l = absurd (omega arith)
held_after {bytes = bytes} h (call {c = c} {fed = fed} f rest) zero l = subst (λ (b : List ℕ). Owed (bytes ++ b) c.last fed.reply) (sym (append-nil c.run)) (call_owed h f)
held_after {bytes = bytes} h (call {after = after} {c = c} {fed = fed} {calls = calls} {replies = replies} f rest) (suc k) l =
    let Next : List ℕ → Type 0 = λ b. Follows (first_verdict (take k replies)) b (get_or calls k no_call).last (get_or replies k None) in
    behind fed.reply fed.reader after (bytes ++ c.run) (take k replies) _ _ _ (λ g. subst Next (append_assoc bytes c.run (joined (take (suc k) calls))) (held_after g rest k (omega arith)))
    (λ v g. closed_after g rest k (omega arith)) (call_leaves h f)

-- the reply to each call is the first verdict given before it, else what is owed on the runs up to it, joined
pub session : (store : List ℕ) {calls : List Call} {replies : List Reply} → length store ≡ file_limit → Session fresh store calls replies
    → (k : ℕ) → k < length calls → Follows (first_verdict (take k replies)) (joined (take (suc k) calls)) (get_or calls k no_call).last (get_or replies k None)
session store full s = held_after (fresh_holds store full) s

-- ---- when a refusal is given

-- nothing is certain from no bytes
nothing_certain : Certain [] → ⊥
unfolding check_file size_refusal header_refusal
nothing_certain c =
    let t = certain_tested [] c in
    let same : refused Cut 0 ≡ t.0 = cc t.2 in
    omega (arith, t.1, ap (λ (r : Refusal). number r.reason) same)

-- "more" is said only where nothing is certain
more_uncertain : {bytes : List ℕ} {last : Bool} → Owed bytes last None → Certain bytes → ⊥
more_uncertain (more never) = never

-- a verdict before the sender's last word only where it is
given_certain : {bytes : List ℕ} {last : Bool} {reply : Reply} {v : Verdict} → last ≡ false → reply ≡ Some v → Owed bytes last reply → Certain bytes
given_certain e f (ended j) = absurd (true≢false e)
given_certain e f (certain c j) = c
given_certain e f (more never) = absurd (more_or_given None refl f)

-- replies without a verdict
none_before : (replies : List Reply) (k : ℕ) → first_verdict (take (suc k) replies) ≡ None → (first_verdict (take k replies) ≡ None) × (get_or replies k None ≡ None)
none_before [] zero e = (refl, refl)
none_before [] (suc k) e = (refl, refl)
none_before (None ∷ replies) zero e = (refl, refl)
none_before (None ∷ replies) (suc k) e = none_before replies k e
none_before (Some v ∷ replies) k e = absurd (more_or_given None refl (sym e))

module _ (store : List ℕ) {calls : List Call} {replies : List Reply} (full : length store ≡ file_limit) (s : Session fresh store calls replies) where
  -- what is owed to a call that no verdict came before
  before_verdict : (k : ℕ) → k < length calls → first_verdict (take k replies) ≡ None → Owed (joined (take (suc k) calls)) (get_or calls k no_call).last (get_or replies k None)
  before_verdict k l e =
      subst (λ (x : Reply). Follows x (joined (take (suc k) calls)) (get_or calls k no_call).last (get_or replies k None)) e (session store full s k l)

  -- a first verdict that is given before the sender's last word is certain from the bytes up to it, and was not without the last run: where that
  -- is one byte, it is the first at which it is certain
  pub first_certain : (k : ℕ) {v : Verdict} → k < length calls → first_verdict (take k replies) ≡ None → (get_or calls k no_call).last ≡ false → get_or replies k None ≡ Some v
      → Certain (joined (take (suc k) calls)) × (Certain (joined (take k calls)) → ⊥)
  first_certain zero l e n g = (given_certain n g (before_verdict 0 l e), nothing_certain)
  first_certain (suc k) l e n g =
      let b = none_before replies k e in
      (given_certain n g (before_verdict (suc k) l e), more_uncertain (subst (Owed _ _) b.1 (before_verdict k (omega arith) b.0)))

-- ---- up to the sender's last word

-- a verdict that is certain is owed on whatever follows
owed_on : (bytes x : List ℕ) (last : Bool) {v : Verdict} → Certain bytes → Judged bytes v → Owed (bytes ++ x) last (Some v)
owed_on bytes x true c j = ended (verdict_stays bytes x c j)
owed_on bytes x false c j = certain (certain_stays bytes x c) (verdict_stays bytes x c j)

given_judged : {bytes : List ℕ} {last : Bool} {reply : Reply} {v : Verdict} → last ≡ false → reply ≡ Some v → Owed bytes last reply → Judged bytes v
given_judged e f (ended j) = absurd (true≢false e)
given_judged {bytes} e f (certain c j) = subst (Judged bytes) (same_verdict f) j
given_judged e f (more never) = absurd (more_or_given None refl f)

owed_behind : (reply : Reply) {r : Reader} {store bytes : List ℕ} {last : Bool} {calls : List Call} {replies : List Reply} → last ≡ false → Owed bytes last reply → Leaves reply r store bytes
    → Session r store calls replies → (k : ℕ) → k < length calls → (Holds r store bytes → Owed (bytes ++ joined (take (suc k) calls)) (get_or calls k no_call).last (get_or replies k None))
    → Owed (bytes ++ joined (take (suc k) calls)) (get_or calls k no_call).last (get_or replies k None)
owed_behind None e o left s k l on = on left
owed_behind (Some v) {bytes = bytes} {calls = calls} e o left s k l on =
    subst (Owed (bytes ++ joined (take (suc k) calls)) (get_or calls k no_call).last) (sym (closed_after left s k l))
    (owed_on bytes (joined (take (suc k) calls)) (get_or calls k no_call).last (given_certain e refl o) (given_judged e refl o))

owed_after : {r : Reader} {store bytes : List ℕ} {calls : List Call} {replies : List Reply} → Holds r store bytes → Session r store calls replies
    → (k : ℕ) → k < length calls → ((i : ℕ) → i < k → (get_or calls i no_call).last ≡ false)
    → Owed (bytes ++ joined (take (suc k) calls)) (get_or calls k no_call).last (get_or replies k None)
owed_after h silence k l early = absurd (omega arith)
owed_after {bytes = bytes} h (call {c = c} {fed = fed} f rest) zero l early = subst (λ (b : List ℕ). Owed (bytes ++ b) c.last fed.reply) (sym (append-nil c.run)) (call_owed h f)
owed_after {bytes = bytes} h (call {after = after} {c = c} {fed = fed} {calls = calls} {replies = replies} f rest) (suc k) l early =
    let last = (get_or calls k no_call).last in
    let reply = get_or replies k None in
    subst (λ (b : List ℕ). Owed b last reply) (append_assoc bytes c.run (joined (take (suc k) calls)))
    (owed_behind fed.reply (early 0 (omega arith)) (call_owed h f) (call_leaves h f) rest k (omega arith)
    (λ g. owed_after g rest k (omega arith) (λ i b. early (suc i) (omega arith))))

-- up to the sender's last word, and with it, every reply is what is owed on the runs so far, joined, also where the verdict was given before: the judge's
-- on all of them once there is no more, and never "more" once a refusal is certain
pub session_owed : (store : List ℕ) {calls : List Call} {replies : List Reply} → length store ≡ file_limit → Session fresh store calls replies
    → (k : ℕ) → k < length calls → ((i : ℕ) → i < k → (get_or calls i no_call).last ≡ false)
    → Owed (joined (take (suc k) calls)) (get_or calls k no_call).last (get_or replies k None)
session_owed store full s = owed_after (fresh_holds store full) s
