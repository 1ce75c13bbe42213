-- What an exported answer tells: its number, unpacked, is the answer of the call below; 0 in its low 8 bits is done, or accepted; any other number leaves
-- every buffer as it was; and the number and every byte left are determined. Assumes nothing.
use mathlib.Core.Path.{◌≡◌, refl, sym, ◌∙◌, ap, subst⁻¹}
use mathlib.Core.Bool.{Bool, true, false}
use Rattle.std.specs.Prelude.{Ok, Err}
use mathlib.Core.List.{List}
use Prim.Native.Nat.{ℕ, ◌+◌, ◌*◌, ◌/◌, ◌%◌, ◌≤◌}
use native.Mathlib.Omega.{arith}
use borrow.Author.Tests.{ne_eqb}
use lib.ListN.{length}
use Rattle.slicefile.specs.declared.Reason.TheVariants.{WrongBuffer}
use Rattle.slicefile.specs.declared.Refusal.{Refusal}
use Rattle.slicefile.specs.Refusals.{number, sized, Tested, Answer, Verdict}
use Rattle.rules.specs.Rules.{given, ◌or_else◌}
use Rattle.editlist.specs.declared.Edit.{Edit}
use Rattle.slicerecord.specs.Record.{record_of}
use Rattle.recordcalls.specs.Calls.{write_refusal, answer_of, unless, written}
use Rattle.recordcalls.proofs.Answers.{kept_refused}
use Rattle.column.specs.Clock.{State, env_of}
use Rattle.column.specs.Judge.{Judged}
use Rattle.column.proofs.Bounds.{Most}
use Rattle.column.proofs.Verdicts.{judged_unique}
use Rattle.calls.specs.Calls.{Called, PoweredUp}
use Rattle.calls.proofs.Demands.{refused_kept as call_kept, power_up_unique}
use Rattle.simulator.specs.Running.{SettleCalled, ClockCalled}
use Rattle.simulator.proofs.Demands.{settle_unique, clock_unique}
use Rattle.edits.specs.Edits.{state_in, EditsMade}
use Rattle.edits.proofs.Demands.{edits_unique}
use Rattle.quagmuffin.specs.Bodies.{bad_body, read_body_refusal, body_read, write_body_refusal, body_written, RecordRead, RecordWritten}
use Rattle.quagmuffin.specs.Packed.{pack, pack_refusal, pack_answer, pack_verdict, unpack_refusal, unpack_answer, unpack_verdict, Packed, Answered, Small, SmallAnswer, SmallVerdict}
use Rattle.quagmuffin.proofs.Small.{judged_small, called_small, read_body_most, write_body_most}

-- ---- unpacking
number_back : (k p : ℕ) → k ≤ 11 → (pack k p % 256 ≡ k) × (pack k p / 256 ≡ p)
number_back k p h = (omega arith, omega arith)

refusal_back : (r : Refusal) → Small r → unpack_refusal (pack_refusal r) ≡ r
refusal_back r s = let b = number_back (number r.reason) r.place s.1 in rw (b.0, b.1, s.3)

-- a refusal's number is not 0, so neither are its low 8 bits
refusal_low : (r : Refusal) → Small r → pack_refusal r % 256 ≡ 0 → ⊥
refusal_low r s z = omega (arith, s.0, s.1)

answer_back : (a : Answer) → SmallAnswer a → unpack_answer (pack_answer a) ≡ a
answer_back (Ok tt) s = refl
answer_back (Err r) s = rw (ne_eqb _ _ (refusal_low r s), refusal_back r s)

pub verdict_back : (v : Verdict) → SmallVerdict v → unpack_verdict (pack_verdict v) ≡ v
verdict_back (Ok size) s =
    let i = pack 0 (size.n + 65536 * size.m) in
    let low : i % 256 ≡ 0 = omega arith in
    let high : i / 256 ≡ size.n + 65536 * size.m = omega arith in
    let few : (size.n + 65536 * size.m) % 65536 ≡ size.n = omega (arith, s.1) in
    let slices : i / 256 % 65536 ≡ size.n = ap (λ (k : ℕ). k % 65536) high ∙ few in
    let inputs : i / 16777216 ≡ size.m = omega (arith, s.1) in
    rw (low, slices, inputs)
verdict_back (Err r) s = rw (ne_eqb _ _ (refusal_low r s), refusal_back r s)

-- the promise holds of the number, unpacked
pub judge_told : (file : List ℕ) {i : ℕ} → Packed pack_verdict (Judged file) i → Judged file (unpack_verdict i)
judge_told file p = subst⁻¹ (Judged file) (ap unpack_verdict p.same ∙ verdict_back p.answer (judged_small file p.promised)) p.promised

-- 0 in the low 8 bits means accepted
pub zero_accepted : (file : List ℕ) {i : ℕ} → Packed pack_verdict (Judged file) i → i % 256 ≡ 0 → Judged file (Ok (sized (i / 256 % 65536) (i / 16777216)))
zero_accepted file p e = rw e at (judge_told file p)

module _ {file : List ℕ} {own : ℕ → ℕ → Tested} {Kept : Type 0} {Did : ℕ → ℕ → Type 0} (most : (n m : ℕ) → Most 11 (own n m)) where
  pub call_told : {i : ℕ} → Answered (Called file own Kept Did) i → Called file own Kept Did (unpack_answer i)
  call_told p = subst⁻¹ (Called file own Kept Did) (ap unpack_answer p.same ∙ answer_back p.answer (called_small most p.promised)) p.promised

  -- 0 in the low 8 bits means done, and is 0
  pub zero_done : {i : ℕ} → Answered (Called file own Kept Did) i → i % 256 ≡ 0 → (i ≡ 0) × Called file own Kept Did (Ok tt)
  zero_done p e = go p.answer p.promised p.same e
    where
      go : (a : Answer) {i : ℕ} → Called file own Kept Did a → i ≡ pack_answer a → i % 256 ≡ 0 → (i ≡ 0) × Called file own Kept Did (Ok tt)
      go (Ok tt) c f z = (f, c)
      go (Err r) c f z = absurd (refusal_low r (called_small most c) (sym (ap (λ (k : ℕ). k % 256) f) ∙ z))

-- ---- a number other than 0 is a refusal: nothing was written
pub refused_kept : {file : List ℕ} {own : ℕ → ℕ → Tested} {Kept : Type 0} {Did : ℕ → ℕ → Type 0} {i : ℕ} → Answered (Called file own Kept Did) i → (i ≡ 0 → ⊥) → Kept
refused_kept {file} {own} {Kept} {Did} {i} p ne = go p.answer p.promised p.same
  where
    go : (a : Answer) → Called file own Kept Did a → i ≡ pack_answer a → Kept
    go (Ok tt) c f = absurd (ne f)
    go (Err r) c f = call_kept file own c

pub read_refused_kept : (s : List ℕ) (n m : ℕ) (old new : List ℕ) {i : ℕ} → RecordRead s n m old new i → (i ≡ 0 → ⊥) → new ≡ old
unfolding body_read
read_refused_kept s n m old new r ne = r.1 ∙ sym (kept_refused (read_body_refusal s n m old) _ old (λ e. ne (r.0 ∙ ap (λ (t : Tested). pack_answer (answer_of t)) e)))

either_kept : (b : Bool) (t : Tested) (done kept : List ℕ) → ((given WrongBuffer b or_else t) ≡ Ok tt → ⊥) → unless (given WrongBuffer b) (unless t done kept) kept ≡ kept
either_kept true t done kept ne = refl
either_kept false t done kept ne = sym (kept_refused t done kept ne)

pub write_refused_kept : (body : List ℕ) (n m : ℕ) (old new : List ℕ) {i : ℕ} → RecordWritten body n m old new i → (i ≡ 0 → ⊥) → new ≡ old
unfolding body_written write_body_refusal written
write_refused_kept body n m old new r ne =
    r.1 ∙ either_kept (bad_body body) (write_refusal (record_of body) n m (length old)) _ old (λ e. ne (r.0 ∙ ap (λ (t : Tested). pack_answer (answer_of t)) e))

-- ---- the record calls' numbers: 0 is done, any other a refusal of 1 to 11 at place 0
number_most : (t : Tested) → Most 11 t → pack_answer (answer_of t) ≤ 11
number_most (Ok u) h = omega arith
number_most (Err r) h = omega (arith, h.1)

pub read_number : (s : List ℕ) (n m : ℕ) (old new : List ℕ) {i : ℕ} → RecordRead s n m old new i → i ≤ 11
read_number s n m old new r = rw r.0 (number_most (read_body_refusal s n m old) (read_body_most s n m old))

pub write_number : (body : List ℕ) (n m : ℕ) (old new : List ℕ) {i : ℕ} → RecordWritten body n m old new i → i ≤ 11
write_number body n m old new r = rw r.0 (number_most (write_body_refusal body n m old) (write_body_most body n m old))

-- ---- the number and every byte left are determined
once : {A X : Type 0} {packed : A → ℕ} {P Q : A → Type 0} {i j : ℕ} → ((a b : A) → P a → Q b → (a ≡ b) × X) → Packed packed P i → Packed packed Q j → (i ≡ j) × X
once {packed = f} unique p q =
    let u = unique p.answer q.answer p.promised q.promised in
    (p.same ∙ ap f u.0 ∙ sym q.same, u.1)

pub judge_determined : (file : List ℕ) {i j : ℕ} → Packed pack_verdict (Judged file) i → Packed pack_verdict (Judged file) j → i ≡ j
judge_determined file p q = (once {X = Unit {0}} (λ a b c d. (judged_unique file c d, tt)) p q).0

pub power_up_determined : (file : List ℕ) (old new new' : State) {i j : ℕ} → Answered (PoweredUp file old new) i → Answered (PoweredUp file old new') j → (i ≡ j) × (new ≡ new')
power_up_determined file old new new' p q = once (λ a b c d. power_up_unique file old new new' c d) p q

pub settle_determined : (file : List ℕ) (st : State) (inputs old new new' : List ℕ) {i j : ℕ}
    → Answered (SettleCalled file st inputs old new) i → Answered (SettleCalled file st inputs old new') j → (i ≡ j) × (new ≡ new')
settle_determined file st inputs old new new' p q = once (λ a b c d. settle_unique file st inputs old new new' c d) p q

pub clock_determined : (file : List ℕ) (st moved moved' : State) (inputs old new new' : List ℕ) {i j : ℕ}
    → Answered (ClockCalled file st moved inputs old new) i → Answered (ClockCalled file st moved' inputs old new') j → (i ≡ j) × ((moved ≡ moved') × (new ≡ new'))
clock_determined file st moved moved' inputs old new new' p q = once (λ a b c d. clock_unique file st moved moved' inputs old new new' c d) p q

pub edits_determined : (file : List ℕ) (st moved moved' : State) (inputs left left' : List ℕ) (es : List Edit) (old new new' : List ℕ) {i j : ℕ}
    → Answered (EditsMade file (env_of st inputs) (env_of moved left) es old new) i → Answered (EditsMade file (env_of st inputs) (env_of moved' left') es old new') j
    → (i ≡ j) × ((moved ≡ moved') × (left ≡ left') × (new ≡ new'))
edits_determined file st moved moved' inputs left left' es old new new' p q =
    let u = once (λ a b c d. edits_unique file (env_of st inputs) (env_of moved left) (env_of moved' left') es old new new' c d) p q in
    (u.0, (ap state_in u.1.0, ap (λ e. e.inputs) u.1.0, u.1.1))

-- the record calls equal a definition in both
pub read_determined : (s : List ℕ) (n m : ℕ) (old new new' : List ℕ) {i j : ℕ} → RecordRead s n m old new i → RecordRead s n m old new' j → (i ≡ j) × (new ≡ new')
read_determined s n m old new new' p q = (p.0 ∙ sym q.0, p.1 ∙ sym q.1)

pub write_determined : (body : List ℕ) (n m : ℕ) (old new new' : List ℕ) {i j : ℕ} → RecordWritten body n m old new i → RecordWritten body n m old new' j → (i ≡ j) × (new ≡ new')
write_determined body n m old new new' p q = (p.0 ∙ sym q.0, p.1 ∙ sym q.1)
