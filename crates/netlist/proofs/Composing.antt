-- Edits one after another come to one edit of all the changes. Assumes nothing.
use mathlib.Core.Path.{◌≡◌, refl, ◌∙◌}
use mathlib.Core.Bool.{Bool, false, ◌||◌, false≢true}
use mathlib.Core.List.{List, [], ◌∷◌}
use mathlib.Core.Logic.{◌⊎◌, inl, inr, ⊎_elim}
use Prim.Native.Nat.{ℕ, ◌≤◌, ◌<◌}
use native.Mathlib.Omega.{arith}
use lib.ListN.{length, get_or}
use lib.Seq.{ext_get_or}
use Rattle.netlist.specs.declared.Gate.{Gate}
use Rattle.netlist.specs.Rule.{Env}
use Rattle.netlist.specs.Graph.{Ordered, Affected}
use Rattle.netlist.specs.Settle.{reads_in, rule_in, Edited}
use Rattle.netlist.specs.Changes.{Change, changed, changed_by, touches, touches_any, Steps, none, next}
use Rattle.netlist.proofs.Marks.{or_left, or_right, or_cases}
use Rattle.netlist.proofs.Locality.{rule_changes}
use Rattle.netlist.proofs.Editing.{affected?, rule_off, some_edited}

-- where nothing changes no signal depends on the change, and every byte is left
not_affected : (reads : ℕ → List ℕ) (x : ℕ) → Affected reads (λ y. false) x → ⊥
not_affected reads x (inl t) = false≢true t
not_affected reads x (inr w) = false≢true w.2

module _ (g : ℕ → Gate) (N : ℕ) (e : Env) where
  edited_none : (t : List ℕ) → Edited g N e (λ x. false) t t
  edited_none t = record { size = refl; recomputed = λ x h a. absurd (not_affected (reads_in g) x a); kept = λ x h n. refl }

  pub none_edited : (old new : List ℕ) → length old ≡ N → Edited g N e (λ x. touches_any [] (g x)) old new → new ≡ old
  none_edited old new long d = ext_get_or 0 new old d.size (λ x h. d.kept x (omega (arith, d.size)) (not_affected (reads_in g) x))

-- what depends on either of two changes
module _ (reads : ℕ → List ℕ) (first second : ℕ → Bool) (x : ℕ) where
  abbrev Either : Type 0
  Either = Affected reads (λ y. first y || second y) x

  on_first : Affected reads first x → Either
  on_first (inl t) = inl (or_left (first x) (second x) t)
  on_first (inr w) = inr (w.0, w.1, or_left (first w.0) (second w.0) w.2)

  on_second : Affected reads second x → Either
  on_second (inl t) = inl (or_right (first x) (second x) t)
  on_second (inr w) = inr (w.0, w.1, or_right (first w.0) (second w.0) w.2)

  on_either : Either → Affected reads first x ⊎ Affected reads second x
  on_either (inl t) = ⊎_elim (λ a. inl (inl a)) (λ b. inr (inl b)) (or_cases (first x) (second x) t)
  on_either (inr w) = ⊎_elim (λ a. inl (inr (w.0, w.1, a))) (λ b. inr (inr (w.0, w.1, b))) (or_cases (first w.0) (second w.0) w.2)

module _ (g : ℕ → Gate) {N : ℕ} {order : List ℕ} (o : Ordered (reads_in g) N order) where
  -- two edits one after the other are one of both changes
  edited_both :
      (first second : ℕ → Bool) (e e' : Env) → ((x : ℕ) → second x ≡ false → (t : List ℕ) → rule_in g e t x ≡ rule_in g e' t x)
      → (old mid new : List ℕ) → Edited g N e first old mid → Edited g N e' second mid new → Edited g N e' (λ x. first x || second x) old new
  edited_both first second e e' same old mid new d d' =
      record {
        size = d'.size ∙ d.size;
        recomputed = λ x h a. at x h a (affected? g o second x h);
        kept = λ x h n. d'.kept x h (λ a. n (on_second (reads_in g) first second x a)) ∙ d.kept x h (λ a. n (on_first (reads_in g) first second x a));
      }
    where
      at : (x : ℕ) → x < N → Affected (reads_in g) (λ y. first y || second y) x → Dec (Affected (reads_in g) second x) → get_or new x 0 ≡ rule_in g e' new x
      at x h a (yes b) = d'.recomputed x h b
      at x h a (no n) =
          d'.kept x h n
          ∙ d.recomputed x h (⊎_elim (λ b. b) (λ b. absurd (n b)) (on_either (reads_in g) first second x a))
          ∙ rule_off g o second e e' same mid new d' x h n

  -- edits one after another are one edit of all the changes
  pub steps_edited :
      {e e' : Env} {old new : List ℕ} {cs : List Change} → Steps g N e old cs e' new
      → (e' ≡ changed_by e cs) × Edited g N (changed_by e cs) (λ x. touches_any cs (g x)) old new
  steps_edited {e} {old = old} none = (refl, edited_none g N e old)
  steps_edited {e} {old = old} {new = new} (next {u = mid} {c = c} {cs = cs} d s) =
      let r = steps_edited s in (
        r.0,
        edited_both (λ x. touches c (g x)) (λ x. touches_any cs (g x)) (changed e c) (changed_by (changed e c) cs)
            (λ x n t. rule_changes (changed e c) cs t (g x) n)
            old mid new d r.1,
      )

  -- and any changes can be made one after another, on any table
  pub some_steps : (e : Env) (cs : List Change) (old : List ℕ) → N ≤ length old → (new : List ℕ) × Steps g N e old cs (changed_by e cs) new
  some_steps e [] old long = (old, none)
  some_steps e (c ∷ cs) old long =
      let w = some_edited g o (changed e c) (λ x. touches c (g x)) old long in
      let r = some_steps (changed e c) cs w.0 (omega (arith, w.1.size)) in
      (r.0, next w.1 r.1)
