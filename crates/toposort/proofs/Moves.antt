-- The moves of the open signal on top keep the invariant of the search. Assumes nothing.
use Prim.Native.Nat.{ℕ, suc, ◌+◌, ◌-◌, ◌≤◌, ◌<◌}
use mathlib.Core.Path.{◌≡◌, sym, ap, ◌∙◌}
use mathlib.Core.Logic.{◌⊎◌, inl, inr, ⊎_elim}
use native.Mathlib.Omega.{arith}
use lib.ListN.{length, get_or, length-set}
use lib.Seq.{get_or-set_other}
use Rattle.netlist.specs.declared.Gate.{Gate}
use Rattle.std.specs.Prelude.{Some}
use Rattle.netlist.specs.Graph.{Reads, Loop, Before}
use Rattle.netlist.specs.Settle.{reads_in}
use Rattle.toposort.specs.Tally.{last_mark, done_mark}
use Rattle.toposort.specs.Reading.{read_at}
use Rattle.toposort.specs.declared.Scan.{Scan}
use Rattle.toposort.specs.Search.{Search, with_best, cut_to, marked, finished}
use Rattle.toposort.specs.Components.{Open, IsTop, On, Closed, Within, Passed, Reaches, Components, Moved}
use Rattle.toposort.proofs.Tally.{same_or_not, stored, tally_keep, room_less}
use Rattle.toposort.proofs.Components.{below_or_not, merged, same_order, reaches_read, depends_reaches}
use Rattle.toposort.proofs.Components.{on_or_not, same_place, closed_up, closed_down, inside, stack_on, on_seen, reach_on, listed_keep, listed_add}
use Rattle.toposort.proofs.Components.{order_room, closed_done, passed_read, judged_on, top_on, top_open, top_below, path_le}
use Rattle.toposort.proofs.Components.{heads_le, count_some, reach_top, top_loop}

module _ {g : ℕ → Gate} {N : ℕ} {b : Search} {p : Scan} (s : Components g N b p) where
  open b use {marks, pos, stack, heads, path, order}
  open p use {next, depth, len, count, done, best}

  module _ {top : ℕ} (t : IsTop path p top) where
    -- the top's read at place m - 1 is done
    pub raise : (m best' : ℕ) → next < N → get_or marks top 0 ≡ m → (m ≡ last_mark → ⊥) → best' ≤ best → (best' < N → Loop (reads_in g) best')
        → ((i y : ℕ) → suc i ≡ m → read_at g top i ≡ Some y → Passed b (with_best p best') top y)
        → Moved g N marks order p (marked b top (m + 1)) (with_best p best')
    raise m best' l e d less-or-same bl new = (
      record {
        bounded = s.bounded;
        sized = record {
          marks = length-set marks top (m + 1) ∙ s.sized.marks;
          pos = s.sized.pos;
          stack = s.sized.stack;
          heads = s.sized.heads;
          path = s.sized.path;
          order = s.sized.order;
        };
        next_le = s.next_le;
        ended = λ w. absurd (omega arith);
        low = λ z. stored marks top (m + 1) z h (λ _ q. omega (arith, o.left)) (λ _ q. rw q (s.low z));
        started = λ z k. stored marks top (m + 1) z h (λ _ q. omega arith) (λ _ q. rw q (s.started z k));
        at_places = λ z w. stored marks top (m + 1) z h
            (λ p q. omega (arith, s.at_places z (rw p o), ap (λ x. get_or marks x 0) p))
            (λ p q. rw q (s.at_places z (record { seen = rw q at w.seen; left = rw q at w.left })));
        placed = record {
          at = s.placed.at;
          seen = λ i k. stored marks top (m + 1) (get_or stack i 0) h (λ _ q. omega arith) (λ _ q. rw q (s.placed.seen i k));
          fits = rw (tally_keep 0 marks top (m + 1) (λ z. omega (arith, o.seen)) (λ z. omega arith)) s.placed.fits;
        };
        headed = s.headed;
        pathed = record {
          low = s.pathed.low;
          on = s.pathed.on;
          opened = λ i k. stored marks top (m + 1) (get_or path i 0) h
              (λ _ q. record { seen = omega arith; left = omega (arith, o.left) })
              (λ _ q. record { seen = rw q (s.pathed.opened i k).seen; left = rw q (s.pathed.opened i k).left });
          sorted = s.pathed.sorted;
          named = λ x w. stored marks top (m + 1) x h
              (λ p q. s.pathed.named x (rw p o))
              (λ p q. s.pathed.named x (record { seen = rw q at w.seen; left = rw q at w.left }));
        };
        reach = s.reach;
        looked = λ x i y w k b' r. stored marks top (m + 1) x h
            (λ p q. same_or_not (suc i) m
            (λ g. up (rw (sym p) at (new i y g (rw p at r))))
            (λ g. up (less (s.looked x i y w (rw p (omega arith)) b' r))))
            (λ p q. up (less (s.looked x i y w (rw q at k) b' r)));
        closed = λ x y c r. closed_up s top (m + 1) h (omega arith) (s.closed x y (down c) r);
        judged = λ x c p. omega (arith, s.judged x (down c) p);
        best_le = omega (arith, s.best_le);
        best_loop = bl;
        listed = listed_keep s top (m + 1) best' h (λ w. omega (arith, o.left)) (λ w. omega (arith, o.left)) (λ w. omega (arith, s.best_le));
      },
      omega (arith, room_less marks top (m + 1) h (omega arith) (omega (arith, o.left))),
      same_order order p,
    )
      where
        h : top < length marks
        h = inside s top (top_below s t)

        o : Open marks top
        o = top_open s t

        down : {z : ℕ} → Closed (marked b top (m + 1)) p z → Closed b p z
        down c = closed_down s top (m + 1) h o.seen c

        up : {x y : ℕ} → Passed b (with_best p best') x y → Passed (marked b top (m + 1)) (with_best p best') x y
        up (inl c) = inl (closed_up s top (m + 1) h (omega arith) c)
        up (inr w) = inr w

        less : {x y : ℕ} → Passed b p x y → Passed b (with_best p best') x y
        less (inl c) = inl c
        less (inr w) = inr (record { on = w.on; least = omega (arith, w.least); within = w.within })

    -- the top reads a signal of its component
    pub meet : (m y best' : ℕ) → next < N → get_or marks top 0 ≡ m → (m ≡ last_mark → ⊥) → best' ≤ best → best' ≤ top → (best' ≡ best) ⊎ (best' ≡ top)
        → Reads (reads_in g) top y → ((i z : ℕ) → suc i ≡ m → read_at g top i ≡ Some z → z ≡ y)
        → On b p y → get_or heads (count - 1) 0 ≤ get_or pos y 0
        → Moved g N marks order p (marked b top (m + 1)) (with_best p best')
    meet m y best' l e d low low' which r only o w =
        raise m best' l e d low
        (λ k. ⊎_elim (λ p. rw p (s.best_loop (omega arith))) (λ p. rw p (top_loop s t y r o)) which)
        (λ i z g q. let p = only i z g q in rw p (inr (record { on = o; least = low'; within = λ k h _. in_last k h })))
      where
        in_last : (k : ℕ) → k < count → get_or heads k 0 ≤ get_or pos y 0
        in_last k h =
            same_or_not k (count - 1)
            (λ p. rw p w)
            (λ p. omega (arith, s.headed.sorted k (count - 1) (omega arith) (omega arith)))

    -- the top reads a signal of an earlier component: the last two components are one
    pub merge : (y : ℕ) → Reads (reads_in g) top y → On b p y → get_or pos y 0 < get_or heads (count - 1) 0
        → Moved g N marks order p b (merged p)
    merge y r o below = (
      record {
        bounded = s.bounded;
        sized = s.sized;
        next_le = s.next_le;
        ended = s.ended;
        low = s.low;
        started = s.started;
        at_places = s.at_places;
        placed = s.placed;
        headed = record {
          low = λ k l. s.headed.low k (omega arith);
          inside = λ k l. s.headed.inside k (omega arith);
          sorted = λ i j l m. s.headed.sorted i j l (omega arith);
          some = λ l. two;
          bottom = λ l. s.headed.bottom (omega arith);
          begun = λ k l. s.headed.begun k (omega arith);
        };
        pathed = s.pathed;
        reach = λ i j l m w. below_or_not i (get_or heads (count - 1) 0)
            (λ k. s.reach i j l m (λ a b c. same_or_not a (count - 1) (λ p. absurd (omega (arith, rw p at c))) (λ p. w a (omega arith) c)))
            (λ k. inr (depends_reaches g (reaches_read g (reach_top s t (stack_on s i l)) r) (back i j m k w)));
        looked = λ x i z p l b q. fewer (s.looked x i z p l b q);
        closed = s.closed;
        judged = s.judged;
        best_le = s.best_le;
        best_loop = s.best_loop;
        listed = s.listed;
      },
      omega (arith, count_some s t),
      same_order order p,
    )
      where
        two : 0 < count - 1
        two = same_or_not count 1
            (λ p. let z : get_or heads (count - 1) 0 ≡ 0 = rw p (s.headed.bottom (count_some s t)) in absurd (omega arith))
            (λ p. omega (arith, count_some s t))

        fewer : {x z : ℕ} → Passed b p x z → Passed b (merged p) x z
        fewer (inl c) = inl c
        fewer (inr w) = inr (record { on = w.on; least = w.least; within = λ k l. w.within k (omega arith) })

        back : (i j : ℕ) → j < len → get_or heads (count - 1) 0 ≤ i → Within b (merged p) i j → Reaches g y (get_or stack j 0)
        back i j m k w =
            reach_on s o (stack_on s j m) (λ a b c. rw (s.placed.at j m)
            (same_or_not a (count - 1) (λ p. absurd (omega (arith, rw p at c))) (λ p. w a (omega arith) (omega arith))))

    -- the top is done, and the stack is cut to length len' with count' components
    retire : (len' count' : ℕ) → next < N → get_or marks top 0 ≡ last_mark
        → len' ≤ len → get_or pos top 0 ≤ len' → count' ≤ count
        → ((k : ℕ) → k < count' → (get_or heads k 0 < len') × (get_or heads k 0 ≡ get_or pos top 0 → ⊥))
        → (0 < len' → 0 < count')
        → ((i k : ℕ) → i < len' → k < count → get_or heads k 0 ≤ i → k < count')
        → ((i j : ℕ) → i < len → len' ≤ i → Within b p i j → len' ≤ j)
        → Moved g N marks order p (finished b p top) (cut_to p len' count')
    retire len' count' l e len_le top-le fewer keeps some' only cut = (
      record {
        bounded = s.bounded;
        sized = record {
          marks = length-set marks top done_mark ∙ s.sized.marks;
          pos = s.sized.pos;
          stack = s.sized.stack;
          heads = s.sized.heads;
          path = s.sized.path;
          order = length-set order done top ∙ s.sized.order;
        };
        next_le = s.next_le;
        ended = λ w. absurd (omega arith);
        low = λ z. stored marks top done_mark z h (λ _ q. omega arith) (λ _ q. rw q (s.low z));
        started = λ z k. stored marks top done_mark z h (λ _ q. omega arith) (λ _ q. rw q (s.started z k));
        at_places = λ z w. stored marks top done_mark z h
            (λ p q. absurd (omega (arith, w.left)))
            (λ p q. rw q (s.at_places z (record { seen = rw q at w.seen; left = rw q at w.left })));
        placed = record {
          at = λ i k. s.placed.at i (omega arith);
          seen = λ i k. stored marks top done_mark (get_or stack i 0) h (λ _ q. omega arith) (λ _ q. rw q (s.placed.seen i (omega arith)));
          fits = rw (tally_keep 0 marks top done_mark (λ z. omega arith) (λ z. omega arith)) (omega (arith, s.placed.fits));
        };
        headed = record {
          low = λ k m. s.headed.low k (omega arith);
          inside = λ k m. (keeps k m).0;
          sorted = λ i j k m. s.headed.sorted i j k (omega arith);
          some = some';
          bottom = λ k. s.headed.bottom (omega arith);
          begun = λ k m. shorter _ (s.headed.begun k (omega arith))
              (λ p. (keeps k m).1 (sym (s.placed.at _ (s.headed.inside k (omega arith))) ∙ ap (λ x. get_or pos x 0) p));
        };
        pathed = record {
          low = λ i k. s.pathed.low i (omega arith);
          on = λ i k. let b = under i k in record { below = omega arith; holds = (s.pathed.on i (omega arith)).holds };
          opened = λ i k. stored marks top done_mark (get_or path i 0) h
              (λ p q. let b = under i k in absurd (omega (arith, ap (λ x. get_or pos x 0) p)))
              (λ p q. record { seen = rw q (s.pathed.opened i (omega arith)).seen; left = rw q (s.pathed.opened i (omega arith)).left });
          sorted = λ i j k m. s.pathed.sorted i j k (omega arith);
          named = λ x w. stored marks top done_mark x h
              (λ p q. absurd (omega (arith, w.left)))
              (λ p q. shorter x (s.pathed.named x (record { seen = rw q at w.seen; left = rw q at w.left })) p);
        };
        reach = λ i j a b w. s.reach i j (omega arith) (omega arith) (λ k m c. w k (only i k a m c) c);
        looked = λ x i y o k b r. stored marks top done_mark x h
            (λ p q. kept o (s.looked x i y (more o) (rw p (omega arith)) b r))
            (λ p q. kept o (s.looked x i y (more o) (rw q at k) b r));
        closed = λ x y c r. was c
            (λ c'. still (s.closed x y c' r))
            (λ o k. ⊎_elim still (λ w. gone w.on (cut _ _ o.below k w.within))
            (passed_read s x y o (past o k) r));
        judged = λ x c d. was c (λ c'. s.judged x c' d) (λ o k. judged_on s x o (past o k) d);
        best_le = s.best_le;
        best_loop = s.best_loop;
        listed = listed_add s top h (λ w. omega arith) (order_room s top (top_below s t) (λ w. omega arith)) top_after len' count';
      },
      omega (arith, room_less marks top done_mark h (omega arith) (omega arith)),
      (omega arith, λ i k. get_or-set_other order done i top 0 (λ w. omega arith)),
    )
      where
        h : top < length marks
        h = inside s top (top_below s t)

        -- as long as no loop is known, what the top reads is done
        top_after : best ≡ N → (y : ℕ) → Reads (reads_in g) top y → get_or marks y 0 ≡ done_mark
        top_after g y r =
            ⊎_elim (closed_done s y) (λ w. absurd (omega (arith, w.least, top_below s t)))
            (passed_read s top y (top_on s t) (omega arith) r)

        -- the path below the top
        shorter : (x : ℕ) → Before path depth x → (x ≡ top → ⊥) → Before path (depth - 1) x
        shorter x b d = (
          b.0,
          same_or_not b.0 (depth - 1) (λ p. absurd (d (sym b.2 ∙ ap (λ i. get_or path i 0) p ∙ t.1))) (λ p. omega (arith, b.1)),
          b.2,
        )

        under : (i : ℕ) → i < depth - 1 → get_or pos (get_or path i 0) 0 < get_or pos top 0
        under i k = rw t.1 at (s.pathed.sorted i (depth - 1) k (omega arith))

        more : {x : ℕ} → On b (cut_to p len' count') x → On b p x
        more o = record { below = omega (arith, o.below); holds = o.holds }

        -- what is closed stays so, and what the cut takes off is closed
        still : {x : ℕ} → Closed b p x → Closed (finished b p top) (cut_to p len' count') x
        still c = record { seen = (closed_up s top done_mark h (omega arith) c).seen; off = λ o. c.off (more o) }

        gone : {x : ℕ} → On b p x → len' ≤ get_or pos x 0 → Closed (finished b p top) (cut_to p len' count') x
        gone {x} o k =
            record {
              seen = stored marks top done_mark x h (λ _ q. omega arith) (λ _ q. rw q (on_seen s o));
              off = λ o'. omega (arith, o'.below);
            }

        was : {C : Type 0} {x : ℕ} → Closed (finished b p top) (cut_to p len' count') x
            → (Closed b p x → C) → (On b p x → len' ≤ get_or pos x 0 → C) → C
        was {x = x} c f g =
            on_or_not s x
            (λ o. below_or_not (get_or pos x 0) len' (λ k. absurd (c.off (record { below = k; holds = o.holds }))) (λ k. g o k))
            (λ d. f (record { seen = stored marks top done_mark x h (λ p q. rw p (omega arith)) (λ p q. rw q at c.seen); off = d }))

        -- the reads of what the cut takes off are all done
        past : {x : ℕ} → On b p x → len' ≤ get_or pos x 0 → last_mark ≤ get_or marks x 0
        past {x} o k =
            below_or_not (get_or marks x 0) last_mark
            (λ m.
            let b = path_le s t x (s.pathed.named x (record { seen = on_seen s o; left = omega arith })) in
            let p : x ≡ top = same_place s o (top_on s t) (omega arith) in
            rw p (omega arith))
            (λ m. m)

        kept : {x y : ℕ} → On b (cut_to p len' count') x → Passed b p x y
            → Passed (finished b p top) (cut_to p len' count') x y
        kept o (inl c) = inl (still c)
        kept {y = y} o (inr w) =
            below_or_not (get_or pos y 0) len'
            (λ k. inr (record { on = record { below = k; holds = w.on.holds }; least = w.least; within = λ a b. w.within a (omega arith) }))
            (λ k. inl (gone w.on k))

    -- the top is done, and its component goes on
    pub leave : next < N → get_or marks top 0 ≡ last_mark → (get_or pos top 0 ≡ get_or heads (count - 1) 0 → ⊥)
        → Moved g N marks order p (finished b p top) (cut_to p len count)
    leave l e d =
        retire len count l e (omega arith) (omega (arith, (top_on s t).below)) (omega arith)
        (λ k m. (
          s.headed.inside k m,
          λ p. same_or_not k (count - 1)
              (λ q. d (sym p ∙ ap (λ i. get_or heads i 0) q))
              (λ q. omega (arith, s.headed.sorted k (count - 1) (omega arith) (omega arith), heads_le s t (count - 1) (omega arith))),
        ))
        s.headed.some
        (λ i k _ m _. m)
        (λ i j m k _. absurd (omega arith))

    -- the top is done, and so is its component, which begins at the top
    pub close : (at : ℕ) → next < N → get_or marks top 0 ≡ last_mark → at ≡ get_or pos top 0 → get_or pos top 0 ≡ get_or heads (count - 1) 0
        → Moved g N marks order p (finished b p top) (cut_to p at (count - 1))
    close at l e a d =
        retire at (count - 1) l e (omega (arith, (top_on s t).below)) (omega arith) (omega arith)
        (λ k m. let q = s.headed.sorted k (count - 1) m (omega arith) in (omega arith, λ p. omega arith))
        (λ k. same_or_not count 1
        (λ p. let z : get_or heads (count - 1) 0 ≡ 0 = rw p (s.headed.bottom (count_some s t)) in absurd (omega arith))
        (λ p. omega (arith, count_some s t)))
        (λ i k h b c. same_or_not k (count - 1) (λ p. absurd (omega (arith, rw p at c))) (λ p. omega arith))
        (λ i j h b w. omega (arith, w (count - 1) (omega (arith, count_some s t)) (omega arith)))
