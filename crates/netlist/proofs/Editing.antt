-- Editing along a topological order: exactly the signals that depend on the change are recomputed. Assumes nothing.
use mathlib.Core.Path.{◌≡◌, refl, sym, ◌∙◌, ap, subst, subst⁻¹}
use mathlib.Core.Bool.{Bool, true, false, cond, true≢false}
use mathlib.Core.List.{List, []}
use mathlib.Core.Logic.{◌⊎◌, inl, inr, ⊎_elim, ◌↔◌}
use Prim.Native.Nat.{ℕ, ◌+◌, ◌≤◌, ◌<◌}
use native.Mathlib.Nat.{not-suc-le-zero, le_of_eq, le_refl}
use native.Mathlib.Omega.{arith}
use borrow.Author.Count.{below_more}
use lib.Dec.{ltb}
use lib.ListN.{length, get_or, set, length-set, replicate, length-replicate}
use lib.Seq.{get_or-set_same, get_or-set_other, ext_get_or}
use Rattle.netlist.specs.declared.Gate.{Gate}
use Rattle.netlist.specs.Rule.{Env, env, bit}
use Rattle.netlist.specs.Graph.{Reads, Depends, Ordered, Affected}
use Rattle.netlist.specs.Graph.Depends.{direct, through}
use Rattle.netlist.specs.Settle.{reads_in, rule_in, Settled, settle_step, Edit, is_marked, any_marked, reached, edit_step, edit_by, Edited}
use Rattle.netlist.specs.Invariant.{EditedTo}
use Rattle.netlist.proofs.Marks.{or_left, or_right, or_cases, any_from, any_to}
use Rattle.netlist.proofs.Locality.{rule_local}
use Rattle.netlist.proofs.Order.{reads_before, distinct, placed, reads_below, order_induct}
use Rattle.netlist.proofs.Walk.{walk_induct}
use Rattle.netlist.proofs.Settling.{rule_kept}

-- a signal that reads an affected one is affected
pub affected_through : (reads : ℕ → List ℕ) (touches : ℕ → Bool) {x y : ℕ} → Reads reads x y → Affected reads touches y → Affected reads touches x
affected_through reads touches {x} {y} r (inl t) = inr (y, direct r, t)
affected_through reads touches r (inr w) = inr (w.0, through r w.1, w.2)

-- an affected signal touches the change or reads an affected one
from_depends :
    (reads : ℕ → List ℕ) (touches : ℕ → Bool) {x z : ℕ} → Depends reads x z → touches z ≡ true
    → (y : ℕ) × Reads reads x y × Affected reads touches y
from_depends reads touches {z = z} (direct r) t = (z, r, inl t)
from_depends reads touches {z = z} (through {y = y} r d) t = (y, r, inr (z, d, t))

pub affected_cases :
    (reads : ℕ → List ℕ) (touches : ℕ → Bool) {x : ℕ} → Affected reads touches x
    → (touches x ≡ true) ⊎ ((y : ℕ) × Reads reads x y × Affected reads touches y)
affected_cases reads touches (inl t) = inl t
affected_cases reads touches (inr w) = inr (from_depends reads touches w.1 w.2)

length_left : (m : Bool) (t : List ℕ) (x v : ℕ) → length (cond m (set t x v) t) ≡ length t
length_left true t x v = length-set t x v
length_left false t x v = refl

module _ (g : ℕ → Gate) {N : ℕ} {order : List ℕ} (o : Ordered (reads_in g) N order) (e : Env) (touches : ℕ → Bool) (old : List ℕ) where
  pub edit_none : (marks : List ℕ) → EditedTo g e touches order old 0 marks old
  edit_none marks =
      record {
        sound = λ j h. absurd (not-suc-le-zero h);
        complete = λ j h. absurd (not-suc-le-zero h);
        recomputed = λ j h. absurd (not-suc-le-zero h);
        kept = λ x n. refl;
      }

  module _ (i : ℕ) (h : i < N) (marks table : List ℕ) (inv : EditedTo g e touches order old i marks table) where
    -- the test of the next signal says whether it depends on the change
    pub reached_sound : reached g touches marks (get_or order i 0) ≡ true → Affected (reads_in g) touches (get_or order i 0)
    reached_sound r =
        ⊎_elim (λ t. inl t)
        (λ m.
        let w = any_from marks (reads_in g (get_or order i 0)) m in
        let b = reads_before o i h refl w.1 in
        affected_through (reads_in g) touches w.1
        (subst (λ (y : ℕ). Affected (reads_in g) touches y) b.2 (inv.sound b.0 b.1 (rw b.2 w.2))))
        (or_cases (touches (get_or order i 0)) (any_marked marks (reads_in g (get_or order i 0))) r)

    pub reached_complete : Affected (reads_in g) touches (get_or order i 0) → reached g touches marks (get_or order i 0) ≡ true
    reached_complete a =
        ⊎_elim (λ t. or_left (touches (get_or order i 0)) (any_marked marks (reads_in g (get_or order i 0))) t)
        (λ w.
        let b = reads_before o i h refl w.1 in
        or_right (touches (get_or order i 0)) (any_marked marks (reads_in g (get_or order i 0)))
        (any_to marks w.1
        (subst (λ (y : ℕ). is_marked marks y ≡ true) b.2
        (inv.complete b.0 b.1 (subst⁻¹ (λ (y : ℕ). Affected (reads_in g) touches y) b.2 w.2)))))
        (affected_cases (reads_in g) touches a)

    module _ (long-marks : N ≤ length marks) (long : N ≤ length table) where
      mark_here : (m : Bool) → is_marked (set marks (get_or order i 0) (bit m)) (get_or order i 0) ≡ m
      mark_here m = ap (λ (n : ℕ). ltb 0 n) (get_or-set_same marks (get_or order i 0) (bit m) 0 (omega (arith, (o.each i h).below))) ∙ tested m
        where
          tested : (b : Bool) → ltb 0 (bit b) ≡ b
          tested true = refl
          tested false = refl

      mark_other : (j b : ℕ) → j < i → is_marked (set marks (get_or order i 0) b) (get_or order j 0) ≡ is_marked marks (get_or order j 0)
      mark_other j b l = ap (λ (n : ℕ). ltb 0 n) (get_or-set_other marks (get_or order i 0) (get_or order j 0) b 0 (distinct o j i l h))

      -- one signal more, by what its test says
      edit_as :
          (m : Bool) → reached g touches marks (get_or order i 0) ≡ m → (next : List ℕ)
          → ((j : ℕ) → j < i + 1 → Affected (reads_in g) touches (get_or order j 0) → get_or next (get_or order j 0) 0 ≡ rule_in g e next (get_or order j 0))
          → ((x : ℕ) → (Affected (reads_in g) touches x → ⊥) → get_or next x 0 ≡ get_or old x 0)
          → EditedTo g e touches order old (i + 1) (set marks (get_or order i 0) (bit m)) next
      edit_as m r next re ke =
          record {
            sound =
                below_more _ i (λ j l mk. inv.sound j l (sym (mark_other j (bit m) l) ∙ mk))
                (λ mk. reached_sound (r ∙ sym (mark_here m) ∙ mk));
            complete =
                below_more _ i (λ j l a. mark_other j (bit m) l ∙ inv.complete j l a)
                (λ a. mark_here m ∙ sym r ∙ reached_complete a);
            recomputed = re;
            kept = ke;
          }

      -- a reached signal is marked and recomputed
      pub edit_reached :
          reached g touches marks (get_or order i 0) ≡ true
          → EditedTo g e touches order old (i + 1) (set marks (get_or order i 0) 1) (settle_step g e table (get_or order i 0))
      edit_reached r =
          edit_as true r (settle_step g e table (get_or order i 0))
          (below_more _ i
          (λ j l a.
          get_or-set_other table (get_or order i 0) (get_or order j 0) v 0 (distinct o j i l h)
          ∙ inv.recomputed j l a
          ∙ sym (rule_kept g o e i j h (omega arith) table v))
          (λ a.
          get_or-set_same table (get_or order i 0) v 0 (omega (arith, (o.each i h).below)) ∙ sym (rule_kept g o e i i h (omega arith) table v)))
          (λ x n.
          get_or-set_other table (get_or order i 0) x v 0 (λ q. n (subst⁻¹ (λ (y : ℕ). Affected (reads_in g) touches y) q (reached_sound r)))
          ∙ inv.kept x n)
        where
          v : ℕ
          v = rule_in g e table (get_or order i 0)

      -- any other is unmarked and left
      pub edit_passed :
          reached g touches marks (get_or order i 0) ≡ false
          → EditedTo g e touches order old (i + 1) (set marks (get_or order i 0) 0) table
      edit_passed r =
          edit_as false r table
          (below_more _ i (λ j l a. inv.recomputed j l a) (λ a. absurd (true≢false (sym (reached_complete a) ∙ r))))
          inv.kept

      pub edit_next :
          EditedTo g e touches order old (i + 1) (edit_step g e touches (record { marks = marks; table = table }) (get_or order i 0)).marks
          (edit_step g e touches (record { marks = marks; table = table }) (get_or order i 0)).table
      edit_next = go (reached g touches marks (get_or order i 0)) refl
        where
          go :
              (m : Bool) → reached g touches marks (get_or order i 0) ≡ m
              → EditedTo g e touches order old (i + 1) (set marks (get_or order i 0) (bit m))
              (cond m (settle_step g e table (get_or order i 0)) table)
          go true r = edit_reached r
          go false r = edit_passed r

  -- all of them
  pub edit_all :
      (i : ℕ) → N ≤ i → (marks table : List ℕ) → length table ≡ length old → EditedTo g e touches order old i marks table
      → Edited g N e touches old table
  edit_all i end marks table size inv =
      record {
        size = size;
        recomputed =
            λ x h.
            let p = placed o x h in
            subst (λ (w : ℕ). Affected (reads_in g) touches w → get_or table w 0 ≡ rule_in g e table w) p.2 (inv.recomputed p.0 (omega arith));
        kept = λ x h n. inv.kept x n;
      }

  -- the marks are exactly dependence on the change
  pub marks_exact :
      (i : ℕ) → N ≤ i → (marks table : List ℕ) → EditedTo g e touches order old i marks table → (x : ℕ) → x < N
      → (is_marked marks x ≡ true) ↔ Affected (reads_in g) touches x
  marks_exact i end marks table inv x h =
      let p = placed o x h in
      subst (λ (w : ℕ). (is_marked marks w ≡ true) ↔ Affected (reads_in g) touches w) p.2 (inv.sound p.0 (omega arith), inv.complete p.0 (omega arith))

  -- folding along the order edits any table, whatever the marks were
  pub edit_by_order :
      (marks : List ℕ) → N ≤ length marks → N ≤ length old
      → let s = edit_by g e touches (record { marks = marks; table = old }) order in
      EditedTo g e touches order old N s.marks s.table × (length s.table ≡ length old)
  edit_by_order marks long-marks long =
      let w =
      walk_induct (edit_step g e touches)
      (λ i s. EditedTo g e touches order old i s.marks s.table × (length s.marks ≡ length marks) × (length s.table ≡ length old))
      order
      (record { marks = marks; table = old })
      (edit_none marks, refl, refl)
      (λ i h s p. (
        edit_next i (rw (← o.size) h) s.marks s.table p.0 (omega arith) (omega arith),
        length-set s.marks _ _ ∙ p.1,
        length_left (reached g touches s.marks (get_or order i 0)) s.table (get_or order i 0) _ ∙ p.2,
      )) in
      (rw o.size at w.0, w.2)

  -- so any table can be edited
  pub some_edited : N ≤ length old → (new : List ℕ) × Edited g N e touches old new
  some_edited long =
      let zeros : List ℕ = replicate N 0 in
      let s = edit_by g e touches (record { marks = zeros; table = old }) order in
      let w = edit_by_order zeros (le_of_eq (sym (length-replicate N 0))) long in
      (s.table, edit_all N (le_refl N) s.marks s.table w.1 w.0)

module _ (g : ℕ → Gate) {N : ℕ} {order : List ℕ} (o : Ordered (reads_in g) N order) (touches : ℕ → Bool) where
  -- whether a signal depends on the change is decided, by the marks
  pub affected? : (x : ℕ) → x < N → Dec (Affected (reads_in g) touches x)
  affected? x h = go (is_marked s.marks x) refl
    where
      none : Env
      none = env [] [] []

      zeros : List ℕ
      zeros = replicate N 0

      long : N ≤ length zeros
      long = le_of_eq (sym (length-replicate N 0))

      s : Edit
      s = edit_by g none touches (record { marks = zeros; table = zeros }) order

      exact : (is_marked s.marks x ≡ true) ↔ Affected (reads_in g) touches x
      exact = marks_exact g o none touches zeros N (le_refl N) s.marks s.table (edit_by_order g o none touches zeros zeros long long).0 x h

      go : (b : Bool) → is_marked s.marks x ≡ b → Dec (Affected (reads_in g) touches x)
      go true q = yes (exact.0 q)
      go false q = no (λ a. true≢false (sym (exact.1 a) ∙ q))

  -- what an edit leaves is settled by the statement
  pub edited_unique :
      (e : Env) (old new new' : List ℕ) → length old ≡ N → Edited g N e touches old new → Edited g N e touches old new' → new ≡ new'
  edited_unique e old new new' long d d' =
      ext_get_or 0 new new' (d.size ∙ sym d'.size)
      (λ x h. order_induct o (λ y. get_or new y 0 ≡ get_or new' y 0) (λ y l same. at y l same (affected? y l)) x (rw (← d.size ∙ long) h))
    where
      at :
          (x : ℕ) → x < N → ((y : ℕ) → Reads (reads_in g) x y → get_or new y 0 ≡ get_or new' y 0) → Dec (Affected (reads_in g) touches x)
          → get_or new x 0 ≡ get_or new' x 0
      at x h same (yes a) = d.recomputed x h a ∙ rule_local e new new' (g x) same ∙ sym (d'.recomputed x h a)
      at x h same (no n) = d.kept x h n ∙ sym (d'.kept x h n)

  module _
      (e e' : Env)
      (same : (x : ℕ) → touches x ≡ false → (t : List ℕ) → rule_in g e t x ≡ rule_in g e' t x)
      (old new : List ℕ)
      (done : Edited g N e' touches old new)
    where
      -- a signal that does not depend on the change has the same rule's value before and after
      pub rule_off : (x : ℕ) → x < N → (Affected (reads_in g) touches x → ⊥) → rule_in g e old x ≡ rule_in g e' new x
      rule_off x h n =
          same x (untouched (touches x) refl) old
          ∙ rule_local e' old new (g x) (λ y r. sym (done.kept y (reads_below o x h r) (λ a. n (affected_through (reads_in g) touches r a))))
        where
          untouched : (b : Bool) → touches x ≡ b → touches x ≡ false
          untouched true q = absurd (n (inl q))
          untouched false q = q

      -- an edit of a table that was settled before the change leaves it settled after the change
      pub edited_settled : Settled g N e old → Settled g N e' new
      edited_settled s = record { size = done.size ∙ s.size; each = λ x h. at x h (affected? x h) }
        where
          at : (x : ℕ) → x < N → Dec (Affected (reads_in g) touches x) → get_or new x 0 ≡ rule_in g e' new x
          at x h (yes a) = done.recomputed x h a
          at x h (no n) = done.kept x h n ∙ s.each x h ∙ rule_off x h n
