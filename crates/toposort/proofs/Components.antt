-- The state of the search for strongly connected components: what follows from its invariant, and from its top. Assumes nothing.
use Prim.Native.Nat.{ℕ, ◌+◌, ◌-◌, ◌≤◌, ◌<◌}
use mathlib.Core.Path.{◌≡◌, refl, sym, ap, ◌∙◌, subst}
use mathlib.Core.Logic.{inl, inr, ⊎_elim}
use mathlib.Core.List.{List}
use native.Mathlib.Omega.{arith}
use native.Mathlib.Decide.{dec_lt}
use lib.ListN.{length, get_or, set}
use lib.Seq.{get_or-set_same}
use Rattle.netlist.specs.declared.Gate.{Gate}
use Rattle.netlist.specs.Graph.{Reads, Depends, Loop, Before}
use Rattle.netlist.specs.Graph.Depends.{direct, through}
use Rattle.netlist.specs.Settle.{reads_in}
use Rattle.toposort.specs.declared.Scan.{Scan}
use Rattle.toposort.specs.Tally.{last_mark, done_mark}
use Rattle.toposort.specs.Search.{Search, search_of, marked, finished, with_best, cut_to}
use Rattle.toposort.specs.Components.{Open, IsTop, On, Closed, Within, Passed, TopReady, Reaches, Above, Listed, Components, Extends}
use Rattle.netlist.proofs.Order.{depends_more, depends_trans}
use Rattle.netlist.proofs.Loops.{before_set}
use Rattle.toposort.proofs.Reading.{place_of}
use Rattle.toposort.proofs.Tally.{same_or_not, stored, in_list, tally_keep, tally_add, tally_lt}

-- by cases on whether i is below j
pub below_or_not : {C : Type 0} (i j : ℕ) → (i < j → C) → (j ≤ i → C) → C
below_or_not {C} i j f g = go (dec_lt i j)
  where
    go : Dec (i < j) → C
    go (yes l) = f l
    go (no d) = same_or_not i j (λ e. g (omega arith)) (λ e. g (omega arith))

-- ---- what the moves leave

-- y is opened with mark m
abbrev pub opened : Search → Scan → ℕ → ℕ → Search
opened b p y m =
    search_of (set b.marks y m) (set b.pos y p.len) (set b.stack p.len y) (set b.heads p.count p.len)
    (set b.path p.depth y) b.order

abbrev pub one_more : Scan → Scan
one_more p =
    record { next = p.next; depth = p.depth + 1; len = p.len + 1; count = p.count + 1; done = p.done; best = p.best }

-- the last two components are one
abbrev pub merged : Scan → Scan
merged p = record { next = p.next; depth = p.depth; len = p.len; count = p.count - 1; done = p.done; best = p.best }

-- ---- what follows

-- a move that lists nothing
pub same_order : (order : List ℕ) (p : Scan) → Extends order p order p
same_order order p = (omega arith, λ i l. refl)

module _ (g : ℕ → Gate) where
  pub reaches_read : {x y z : ℕ} → Reaches g x y → Reads (reads_in g) y z → Depends (reads_in g) x z
  reaches_read (inl e) r = direct (rw (← e) at r)
  reaches_read (inr d) r = depends_more d r

  pub depends_reaches : {x y z : ℕ} → Depends (reads_in g) x y → Reaches g y z → Depends (reads_in g) x z
  depends_reaches d (inl e) = rw e at d
  depends_reaches d (inr e) = depends_trans d e

module _ {g : ℕ → Gate} {N : ℕ} {b : Search} {p : Scan} (s : Components g N b p) where
  open b use {marks, pos, stack, heads, path, order}
  open p use {next, depth, len, count, done, best}

  -- by cases on whether x is on the stack
  pub on_or_not : {C : Type 0} (x : ℕ) → (On b p x → C) → ((On b p x → ⊥) → C) → C
  on_or_not x f g =
      below_or_not (get_or pos x 0) len
      (λ l. same_or_not (get_or stack (get_or pos x 0) 0) x (λ e. f (record { below = l; holds = e })) (λ d. g (λ o. d o.holds)))
      (λ l. g (λ o. omega (arith, o.below)))

  -- two signals at one place of the stack
  pub same_place : {x y : ℕ} → On b p x → On b p y → get_or pos x 0 ≡ get_or pos y 0 → x ≡ y
  same_place a b e = cc (a.holds, b.holds)

  -- an open signal's mark rises
  pub closed_up : {z : ℕ} (x v : ℕ) → x < length marks → 0 < v → Closed b p z → Closed (marked b x v) p z
  closed_up {z} x v h l c =
      record { seen = stored marks x v z h (λ p q. rw q l) (λ p q. rw q c.seen); off = c.off }

  pub closed_down : {z : ℕ} (x v : ℕ) → x < length marks → 0 < get_or marks x 0 → Closed (marked b x v) p z → Closed b p z
  closed_down {z} x v h l c =
      record { seen = stored marks x v z h (λ p q. rw p l) (λ p q. rw q at c.seen); off = c.off }

  pub inside : (x : ℕ) → x < N → x < length marks
  inside x h = omega (arith, s.sized.marks)

  pub stack_on : (i : ℕ) → i < len → On b p (get_or stack i 0)
  stack_on i l = let e = s.placed.at i l in record { below = rw e l; holds = rw e refl }

  pub on_seen : {x : ℕ} → On b p x → 0 < get_or marks x 0
  on_seen o = rw o.holds at (s.placed.seen _ o.below)

  seen_below : (x : ℕ) → 0 < get_or marks x 0 → x < N
  seen_below x l = omega (arith, s.sized.marks, in_list marks x l)

  pub reach_on : {x y : ℕ} → On b p x → On b p y → Within b p (get_or pos x 0) (get_or pos y 0) → Reaches g x y
  reach_on a b w = rw (a.holds, b.holds) at (s.reach _ _ a.below b.below w)

  -- what a signal depends on is closed where all it reads is
  closed_from : (x y : ℕ) → ((z : ℕ) → Reads (reads_in g) x z → Closed b p z) → Depends (reads_in g) x y → Closed b p y
  closed_from x y f (direct r) = f y r
  closed_from x y f (through {y = z} r d) = closed_from z y (λ w q. s.closed z w (f z r) q) d

  -- the order so far, where a mark is set that isn't the one of a done signal, and where x is done
  pub listed_keep : (x v best' : ℕ) → x < length marks → (get_or marks x 0 ≡ done_mark → ⊥) → (v ≡ done_mark → ⊥) → (best' ≡ N → best ≡ N)
      → Listed g N (marked b x v) (with_best p best')
  listed_keep x v best' h k w f =
      record {
        counted = s.listed.counted ∙ sym (tally_keep done_mark marks x v k w);
        finished = λ i l. stored marks x v (get_or order i 0) h (λ p q. absurd (k (rw p at (s.listed.finished i l)))) (λ p q. q ∙ s.listed.finished i l);
        named = λ z e. stored marks x v z h (λ p q. absurd (w (sym q ∙ e))) (λ p q. s.listed.named z (sym q ∙ e));
        once = s.listed.once;
        after = λ e. s.listed.after (f e);
      }

  pub listed_add : (x : ℕ) → x < length marks → (get_or marks x 0 ≡ done_mark → ⊥) → done < length order
      → (best ≡ N → (y : ℕ) → Reads (reads_in g) x y → get_or marks y 0 ≡ done_mark)
      → (len' count' : ℕ) → Listed g N (finished b p x) (cut_to p len' count')
  listed_add x h k r all _ _ =
      record {
        counted = omega (arith, s.listed.counted, tally_add done_mark marks x h k);
        finished = λ i l. stored order done x i r
            (λ p q. rw q (get_or-set_same marks x done_mark 0 h))
            (λ p q. rw q (was_done i (omega arith)));
        named = λ z e. stored marks x done_mark z h
            (λ p q. (done, omega arith, get_or-set_same order done x 0 r ∙ sym p))
            (λ p q. more z (before_set order done x done (omega arith) z (s.listed.named z (sym q ∙ e))));
        once = λ i j l m e. stored order done x j r
            (λ p q. stored order done x i r (λ p' q'. omega arith) (λ p' q'. k (rw (sym (sym q' ∙ e ∙ q)) (s.listed.finished i (omega arith)))))
            (λ p q. stored order done x i r (λ p' q'. omega arith) (λ p' q'. s.listed.once i j l (omega arith) (sym q' ∙ e ∙ q)));
        after = λ b i y l e. stored order done x i r
            (λ p q. rw p (before_set order done x done (omega arith) y (s.listed.named y (all b y (reads_at i x y q e)))))
            (λ p q. before_set order done x i (omega arith) y (s.listed.after b i y (omega arith) (reads_at i (get_or order i 0) y q e)));
      }
    where
      was_done : (i : ℕ) → i < done → get_or (set marks x done_mark) (get_or order i 0) 0 ≡ done_mark
      was_done i l = stored marks x done_mark (get_or order i 0) h (λ p q. q) (λ p q. q ∙ s.listed.finished i l)

      more : (y : ℕ) → Before (set order done x) done y → Before (set order done x) (done + 1) y
      more y b = (b.0, omega (arith, b.1), b.2)

      reads_at : (i z y : ℕ) → get_or (set order done x) i 0 ≡ z → Reads (reads_in g) (get_or (set order done x) i 0) y → Reads (reads_in g) z y
      reads_at i z y q e = subst (λ (w : ℕ). Reads (reads_in g) w y) q e

  -- the order has room for one more signal
  pub order_room : (x : ℕ) → x < N → (get_or marks x 0 ≡ done_mark → ⊥) → done < length order
  order_room x h k = omega (arith, s.listed.counted, s.sized.order, s.sized.marks, tally_lt done_mark marks x (inside x h) k)

  -- a seen signal that is off the stack is done
  pub closed_done : (x : ℕ) → Closed b p x → get_or marks x 0 ≡ done_mark
  closed_done x c =
      same_or_not (get_or marks x 0) done_mark (λ e. e)
      (λ d.
      let b = s.pathed.named x (record { seen = c.seen; left = omega (arith, s.low x) }) in
      absurd (c.off (rw b.2 at (s.pathed.on b.0 b.1))))

  -- each read of a signal on the stack whose reads are all done has been looked at
  pub passed_read : (x y : ℕ) → On b p x → last_mark ≤ get_or marks x 0 → Reads (reads_in g) x y → Passed b p x y
  passed_read x y o l r = let p = place_of g x y r in s.looked x p.0 y o (omega (arith, p.1)) p.1 p.2

  -- such a signal is judged
  pub judged_on : (x : ℕ) → On b p x → last_mark ≤ get_or marks x 0 → Loop (reads_in g) x → best ≤ x
  judged_on x o l d =
      below_or_not x best
      (λ k. absurd ((closed_from x x (λ z r. ⊎_elim (λ c. c) (λ m. absurd (omega (arith, m.least))) (passed_read x z o l r)) d).off o))
      (λ k. k)

  -- where the stack is not empty, the path is not
  pub empty : depth ≡ 0 → len ≡ 0
  empty e =
      below_or_not 0 len
      (λ l. absurd (let b = s.headed.begun 0 (s.headed.some l) in omega (arith, b.1)))
      (λ l. omega arith)

  pub depth_le : depth ≤ len
  depth_le =
      below_or_not 0 depth
      (λ l. omega (arith, s.pathed.low (depth - 1) (omega arith), (s.pathed.on (depth - 1) (omega arith)).below))
      (λ l. omega arith)

  pub count_le : count ≤ len
  count_le =
      below_or_not 0 count
      (λ l. omega (arith, s.headed.low (count - 1) (omega arith), s.headed.inside (count - 1) (omega arith)))
      (λ l. omega arith)

  module _ {top : ℕ} (t : IsTop path p top) where
    pub top_on : On b p top
    top_on = rw t.1 at (s.pathed.on (depth - 1) (omega arith))

    pub top_open : Open marks top
    top_open = rw t.1 at (s.pathed.opened (depth - 1) (omega arith))

    pub top_below : top < N
    top_below = seen_below top top_open.seen

    pub path_le : (x : ℕ) → Before path depth x → get_or pos x 0 ≤ get_or pos top 0
    path_le x b =
        same_or_not b.0 (depth - 1)
        (λ e. let h : x ≡ top = sym b.2 ∙ ap (λ i. get_or path i 0) e ∙ t.1 in rw h (omega arith))
        (λ d.
        let h = s.pathed.sorted b.0 (depth - 1) (omega (arith, b.1)) (omega arith) in
        let g : get_or pos x 0 < get_or pos top 0 = rw (b.2, t.1) at h in
        omega arith)

    pub heads_le : (k : ℕ) → k < count → get_or heads k 0 ≤ get_or pos top 0
    heads_le k l = rw (s.placed.at _ (s.headed.inside k l)) at (path_le _ (s.headed.begun k l))

    pub count_some : 0 < count
    count_some = s.headed.some (omega (arith, top_on.below))

    -- every signal on the stack reaches the top
    pub reach_top : {x : ℕ} → On b p x → Reaches g x top
    reach_top o = reach_on o top_on (λ k l _. heads_le k l)

    -- the top reads a signal on the stack
    pub top_loop : (y : ℕ) → Reads (reads_in g) top y → On b p y → Loop (reads_in g) top
    top_loop y r o = depends_reaches g (direct r) (reach_top o)

    pub ready : TopReady N b p top
    ready =
        record {
          marks_sized = s.sized.marks;
          pos_sized = s.sized.pos;
          stack_sized = s.sized.stack;
          heads_sized = s.sized.heads;
          len_le = omega (arith, s.placed.fits);
          count_le = omega (arith, s.placed.fits, count_le);
          some = count_some;
          top_below = top_below;
          top_open = top_open;
        }

    -- every signal on the stack depends on what the top reads
    pub above_read : {y : ℕ} → Reads (reads_in g) top y → Above g stack p y
    above_read r i l = reaches_read g (reach_top (stack_on i l)) r
