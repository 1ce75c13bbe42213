-- What the promise of a call comes to: it settles the answer; and power up, every byte it leaves, which no later call refuses. Assumes nothing.
use mathlib.Core.Path.{◌≡◌, ◌∙◌, refl, sym, ap, subst⁻¹}
use Rattle.std.specs.Prelude.{Ok, Err}
use mathlib.Core.List.{List}
use Prim.Native.Nat.{ℕ, ◌*◌, ◌/◌, ◌%◌}
use native.Mathlib.Omega.{arith}
use lib.ListN.{length}
use Rattle.slicefile.specs.Format.{slice_count, contents_word}
use Rattle.slicefile.specs.declared.Reason.{Reason}
use Rattle.slicefile.specs.declared.Reason.TheVariants.{WrongBuffer}
use Rattle.slicefile.specs.declared.Refusal.{Refusal}
use Rattle.slicefile.specs.declared.Size.{Size}
use Rattle.slicefile.specs.Refusals.{refused as refused_at, sized, Tested, Answer}
use Rattle.slicefile.proofs.Tabulate.{tabulate_length, tabulate_at}
use Rattle.rules.specs.Rules.{given}
use Rattle.rules.proofs.Letters.{shift_fits}
use Rattle.column.specs.Clock.{State, power_up}
use Rattle.column.specs.File.{slice_body}
use Rattle.column.specs.Judge.{Judged}
use Rattle.column.proofs.SoundLaws.{body_good}
use Rattle.column.proofs.Tables.{records_sound}
use Rattle.column.proofs.Verdicts.{judged_unique, not_both}
use Rattle.buffers.specs.Buffers.{bad_state, bad_word, GoodState}
use Rattle.buffers.proofs.Good.{state_good, words_good}
use Rattle.calls.specs.Calls.{Called, judged, refused, done, PoweredUp}

module _ (file : List ℕ) where
  -- the judge's refusal and its acceptance exclude each other, and n and m are the file's
  clash : {r : Refusal} {size : Size} → Judged file (Err r) → Judged file (Ok size) → ⊥
  clash {r} a b = not_both (Err r) refl (judged_unique file a b)

  same_size : {size s : Size} → Judged file (Ok size) → Judged file (Ok s) → s ≡ size
  same_size a b = cc (judged_unique file a b)

  pub same_sizes : (P : ℕ → ℕ → Type 0) {size s : Size} → Judged file (Ok size) → Judged file (Ok s) → P s.n s.m → P size.n size.m
  same_sizes P a b d = rw (← same_size a b) d

module _ (file : List ℕ) (own : ℕ → ℕ → Tested) where
  own_same : {size s : Size} → Judged file (Ok size) → Judged file (Ok s) → own size.n size.m ≡ own s.n s.m
  own_same a b = ap (λ (s : Size). own s.n s.m) (sym (same_size file a b))

  -- its own refusal is one, and where it is none, there is none
  own_clash : {size s : Size} {r : Reason} → Judged file (Ok size) → Judged file (Ok s) → own size.n size.m ≡ Err r → own s.n s.m ≡ Ok tt → ⊥
  own_clash a b e h = cc (sym e ∙ own_same a b ∙ h)

  same_reason : {size s : Size} {r q : Reason} → Judged file (Ok size) → Judged file (Ok s) → own size.n size.m ≡ Err r → own s.n s.m ≡ Err q → r ≡ q
  same_reason a b e h = cc (sym e ∙ own_same a b ∙ h)

  -- two calls with the same arguments are both refused, by the same answer, or both done
  pub agree : {P Kept Kept' : Type 0} {Did Did' : ℕ → ℕ → Type 0} {r r' : Answer} → Called file own Kept Did r → Called file own Kept' Did' r' → (Kept → Kept' → P)
      → ((n m : ℕ) → Judged file (Ok (sized n m)) → own n m ≡ Ok tt → Did n m → Did' n m → P) → (r ≡ r') × P
  agree (judged {r} a s) (judged {r = q} b t) f g =
      let same : r ≡ q = cc (judged_unique file a b) in
      (ap (λ (r : Refusal). Err r) same, f s t)
  agree (judged a s) (refused b e t) f g = absurd (clash file a b)
  agree (judged a s) (done b e d) f g = absurd (clash file a b)
  agree (refused a e s) (judged b t) f g = absurd (clash file b a)
  agree (refused a e s) (refused b h t) f g = (ap (λ (r : Reason). Err (refused_at r 0)) (same_reason a b e h), f s t)
  agree (refused a e s) (done b h d) f g = absurd (own_clash a b e h)
  agree (done a e d) (judged b t) f g = absurd (clash file b a)
  agree (done a e d) (refused b h t) f g = absurd (own_clash b a h e)
  agree {Did' = D} (done {size} a e d) (done b h t) f g = (refl, g size.n size.m a e d (same_sizes file D a b t))

  -- a call that is done
  pub called_done : {Kept : Type 0} {Did : ℕ → ℕ → Type 0} → Called file own Kept Did (Ok tt) → (n : ℕ) × (m : ℕ) × Judged file (Ok (sized n m)) × (own n m ≡ Ok tt) × Did n m
  called_done (done {size} a e d) = (size.n, size.m, a, e, d)

  -- with the n and m of the file
  pub done_there : {Kept : Type 0} {Did : ℕ → ℕ → Type 0} {size : Size} → Judged file (Ok size) → Called file own Kept Did (Ok tt) → (own size.n size.m ≡ Ok tt) × Did size.n size.m
  done_there {Did = D} j (done i e d) = (own_same j i ∙ e, same_sizes file D j i d)

  -- "a refusal writes nothing"
  pub refused_kept : {Kept : Type 0} {Did : ℕ → ℕ → Type 0} {r : Refusal} → Called file own Kept Did (Err r) → Kept
  refused_kept (judged a s) = s
  refused_kept (refused a e s) = s

  -- a call on an accepted file that doesn't refuse its own buffers is done
  pub not_refused : {Kept : Type 0} {Did : ℕ → ℕ → Type 0} {r : Answer} {size : Size} → Judged file (Ok size) → own size.n size.m ≡ Ok tt → Called file own Kept Did r → r ≡ Ok tt
  not_refused j z (judged a s) = absurd (clash file a j)
  not_refused j z (refused a e s) = absurd (own_clash a j e z)
  not_refused j z (done a e d) = refl

pub power_up_unique : (file : List ℕ) (old new new' : State) {r r' : Answer} → PoweredUp file old new r → PoweredUp file old new' r' → (r ≡ r') × (new ≡ new')
power_up_unique file old new new' c c' = agree file (λ n m. given WrongBuffer (bad_state n old)) c c' (λ s t. s ∙ sym t) (λ n m j z d d'. d ∙ sym d')

-- ---- calls chain: the state at power-up is good for every call on the file
pub power_up_good : (file : List ℕ) {size : Size} → Judged file (Ok size) → GoodState file size.n (power_up file)
unfolding power_up bad_word
power_up_good file {size} j =
    let n = size.n in
    let f = records_sound file j in
    let words = (power_up file).contents in
    let long : length words ≡ 4 * n = tabulate_length 0 _ _ ∙ ap (λ (k : ℕ). 4 * k) f.count in (
      state_good n (power_up file) long (tabulate_length 0 _ _ ∙ f.count),
      words_good file words
          (λ t h. rw (tabulate_at (4 * slice_count file) (λ t. contents_word (slice_body file (t / 4)) (t % 4)) t (omega (arith, f.count)))
          (shift_fits n size.m (t / 4) (slice_body file (t / 4)) (body_good file f (t / 4) (omega arith)) (t % 4) (omega arith))),
    )

pub power_up_leaves : (file : List ℕ) (old new : State) {size : Size} → Judged file (Ok size) → PoweredUp file old new (Ok tt) → GoodState file size.n new
power_up_leaves file old new {size} j (done _ _ e) = subst⁻¹ (GoodState file size.n) e (power_up_good file j)
