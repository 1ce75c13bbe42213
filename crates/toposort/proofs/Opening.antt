-- The start of the search, the opening of a signal, and what the search says at its end. Assumes nothing.
use Prim.Native.Nat.{ℕ, suc, ◌+◌, ◌*◌, ◌≤◌, ◌<◌, zero-le}
use mathlib.Core.Path.{◌≡◌, refl, sym, ◌∙◌}
use mathlib.Core.Logic.{inl, inr, ⊎_elim}
use native.Mathlib.Omega.{arith}
use lib.ListN.{length, get_or, set, length-set}
use lib.Seq.{get_or-set_same, get_or-set_other}
use Rattle.netlist.specs.declared.Gate.{Gate}
use Rattle.netlist.specs.Graph.{Reads, Loop, WellFormed, Before}
use Rattle.netlist.specs.Graph.Depends.{direct, through}
use Rattle.netlist.specs.Rule.{sources_of}
use Rattle.netlist.specs.Settle.{reads_in}
use Rattle.netlist.specs.Table.{signal_count, flop_signal}
use Rattle.std.specs.Prelude.{Some}
use Rattle.toposort.specs.Tally.{last_mark, done_mark}
use Rattle.toposort.specs.Reading.{read_at}
use Rattle.toposort.specs.declared.Scan.{Scan}
use Rattle.toposort.specs.Search.{Search, first_scan}
use Rattle.toposort.specs.Components.{Open, Sized, FlopsListed, On, Closed, Passed, Above, Components, Moved, Least}
use Rattle.toposort.proofs.Tally.{stored, in_list, tally_less, tally_le, tally_all, room_less}
use Rattle.toposort.proofs.Components.{below_or_not, opened, one_more, same_order, inside, stack_on, on_seen, listed_keep}
use Rattle.toposort.proofs.Components.{closed_done, empty, depth_le, count_le}

module _ {g : ℕ → Gate} {N : ℕ} {b : Search} {p : Scan} (s : Components g N b p) where
  open b use {marks, pos, stack, heads, path, order}
  open p use {next, depth, len, count, done, best}

  module _ (y : ℕ) (h : y < N) (new : get_or marks y 0 ≡ 0) where
    pub len_lt : len < N
    len_lt = omega (arith, s.placed.fits, tally_less 0 marks y 1 (inside s y h) new (λ p. omega arith))

    pub push : (m : ℕ) → 0 < m → m < done_mark → last_mark ≤ m + length (sources_of (g y))
        → ((i z : ℕ) → suc i < m → read_at g y i ≡ Some z → ⊥) → next < N → Above g stack p y
        → Moved g N marks order p (opened b p y m) (one_more p)
    push m some few enough none l into = (
      record {
        bounded = s.bounded;
        sized = record {
          marks = length-set marks y m ∙ s.sized.marks;
          pos = length-set pos y len ∙ s.sized.pos;
          stack = length-set stack len y ∙ s.sized.stack;
          heads = length-set heads count len ∙ s.sized.heads;
          path = length-set path depth y ∙ s.sized.path;
          order = s.sized.order;
        };
        next_le = s.next_le;
        ended = λ w. absurd (omega arith);
        low = λ z. stored marks y m z hm (λ _ q. omega arith) (λ _ q. rw q (s.low z));
        started = λ z k. stored marks y m z hm (λ _ q. omega arith) (λ _ q. rw q (s.started z k));
        at_places = λ z w. stored marks y m z hm
            (λ p q. rw (q, p) enough)
            (λ p q. rw q (s.at_places z (record { seen = rw q at w.seen; left = rw q at w.left })));
        placed = record {
          at = λ i k. stored stack len y i hs
              (λ p q. rw (q, p) pos_y)
              (λ p q. rw (q, pos_old (stack_on s i (omega arith))) (s.placed.at i (omega arith)));
          seen = λ i k. stored stack len y i hs
              (λ p q. rw (q, get_or-set_same marks y m 0 hm) (omega arith))
              (λ p q. rw q (seen_old _ (s.placed.seen i (omega arith))));
          fits = omega (arith, s.placed.fits, tally_less 0 marks y m hm new (λ p. omega arith));
        };
        headed = record {
          low = λ k m. stored heads count len k hh (λ p q. omega (arith, count_le s)) (λ p q. rw q (s.headed.low k (omega arith)));
          inside = λ k m. stored heads count len k hh (λ p q. omega arith) (λ p q. omega (arith, s.headed.inside k (omega arith)));
          sorted = λ i j k m. stored heads count len i hh
              (λ p q. absurd (omega arith))
              (λ p q. stored heads count len j hh
              (λ p' q'. omega (arith, s.headed.inside i (omega arith)))
              (λ p' q'. omega (arith, s.headed.sorted i j k (omega arith))));
          some = λ k. omega arith;
          bottom = λ k. stored heads count len 0 hh
              (λ p q. below_or_not 0 len (λ m. absurd (omega (arith, s.headed.some m))) (λ m. omega arith))
              (λ p q. q ∙ s.headed.bottom (omega arith));
          begun = λ k m. stored heads count len k hh
              (λ p q. rw (q, get_or-set_same stack len y 0 hs) last_y)
              (λ p q. let g = s.headed.inside k (omega arith) in
              rw (q, get_or-set_other stack len (get_or heads k 0) y 0 (λ z. omega arith)) (longer _ (s.headed.begun k (omega arith))));
        };
        pathed = record {
          low = λ i k. stored path depth y i hp
              (λ p q. rw (q, pos_y) (omega (arith, depth_le s)))
              (λ p q. rw (q, pos_old (s.pathed.on i (omega arith))) (s.pathed.low i (omega arith)));
          on = λ i k. stored path depth y i hp (λ p q. rw q on_y) (λ p q. rw q (on_old (s.pathed.on i (omega arith))));
          opened = λ i k. stored path depth y i hp
              (λ p q. rw q (record { seen = omega (arith, mark_y); left = omega (arith, mark_y) }))
              (λ p q. rw q (open_old (s.pathed.opened i (omega arith))));
          sorted = λ i j k m. stored path depth y i hp
              (λ p q. absurd (omega arith))
              (λ p q. let o = s.pathed.on i (omega arith) in
              stored path depth y j hp
              (λ p' q'. rw (q, q', pos_y, pos_old o) o.below)
              (λ p' q'. rw (q, q', pos_old o, pos_old (s.pathed.on j (omega arith))) (s.pathed.sorted i j k (omega arith))));
          named = λ x w. stored marks y m x hm
              (λ p q. rw p last_y)
              (λ p q. longer x (s.pathed.named x (record { seen = rw q at w.seen; left = rw q at w.left })));
        };
        reach = λ i j a b w. stored stack len y i hs
            (λ p q. stored stack len y j hs
            (λ p' q'. inl (q ∙ sym q'))
            (λ p' q'. absurd (let z = rw last_head at (w count (omega arith)) in omega (arith, z (omega arith)))))
            (λ p q. stored stack len y j hs
            (λ p' q'. rw (q, q') (inr (into i (omega arith))))
            (λ p' q'. rw (q, q') (s.reach i j (omega arith) (omega arith)
            (λ k m c. rw (head_old k m) at (w k (omega arith) (rw (head_old k m) c))))));
        looked = λ x i z o k b r. stored marks y m x hm
            (λ p q. absurd (none i z (omega arith) (rw p at r)))
            (λ p q. let o' = on_back o p in kept o' (s.looked x i z o' (rw q at k) b r));
        closed = λ x z c r. closed_new (s.closed x z (closed_back c) r);
        judged = λ x c d. s.judged x (closed_back c) d;
        best_le = s.best_le;
        best_loop = s.best_loop;
        listed = listed_keep s y m best hm (λ w. omega arith) (λ w. omega arith) (λ w. w);
      },
      omega (arith, room_less marks y m hm (omega arith) (omega arith)),
      same_order order p,
    )
      where
        hm : y < length marks
        hm = inside s y h

        hs : len < length stack
        hs = omega (arith, len_lt, s.sized.stack)

        hh : count < length heads
        hh = omega (arith, len_lt, count_le s, s.sized.heads)

        hp : depth < length path
        hp = omega (arith, len_lt, depth_le s, s.sized.path)

        mark_y : get_or (set marks y m) y 0 ≡ m
        mark_y = get_or-set_same marks y m 0 hm

        pos_y : get_or (set pos y len) y 0 ≡ len
        pos_y = get_or-set_same pos y len 0 (omega (arith, s.sized.pos))

        last_head : get_or (set heads count len) count 0 ≡ len
        last_head = get_or-set_same heads count len 0 hh

        head_old : (k : ℕ) → k < count → get_or (set heads count len) k 0 ≡ get_or heads k 0
        head_old k m = get_or-set_other heads count k len 0 (λ e. omega arith)

        seen_old : (z : ℕ) → 0 < get_or marks z 0 → 0 < get_or (set marks y m) z 0
        seen_old z k = stored marks y m z hm (λ _ q. omega arith) (λ _ q. rw q k)

        open_old : {z : ℕ} → Open marks z → Open (set marks y m) z
        open_old {z} o =
            stored marks y m z hm
            (λ p q. record { seen = omega arith; left = omega arith })
            (λ p q. record { seen = rw q o.seen; left = rw q o.left })

        not_y : (z : ℕ) → 0 < get_or marks z 0 → z ≡ y → ⊥
        not_y z k e = omega (arith, rw e at k)

        pos_old : {z : ℕ} → On b p z → get_or (set pos y len) z 0 ≡ get_or pos z 0
        pos_old {z} o = get_or-set_other pos y z len 0 (not_y z (on_seen s o))

        on_old : {z : ℕ} → On b p z → On (opened b p y m) (one_more p) z
        on_old {z} o =
            record {
              below = rw (pos_old o) (omega (arith, o.below));
              holds = rw (pos_old o, get_or-set_other stack len (get_or pos z 0) y 0 (λ e. omega (arith, o.below))) o.holds;
            }

        on_y : On (opened b p y m) (one_more p) y
        on_y = record { below = rw pos_y (omega arith); holds = rw pos_y (get_or-set_same stack len y 0 hs) }

        on_back : {z : ℕ} → On (opened b p y m) (one_more p) z → (z ≡ y → ⊥) → On b p z
        on_back {z} o d =
            stored stack len y (get_or pos z 0) hs
            (λ p q. absurd (d (sym o.holds ∙ rw (get_or-set_other pos y z len 0 d) q)))
            (λ p q. record {
              below = let g = rw (get_or-set_other pos y z len 0 d) at o.below in omega arith;
              holds = sym q ∙ (rw (get_or-set_other pos y z len 0 d) at o.holds);
            })

        closed_new : {z : ℕ} → Closed b p z → Closed (opened b p y m) (one_more p) z
        closed_new c = record { seen = seen_old _ c.seen; off = λ o. c.off (on_back o (not_y _ c.seen)) }

        closed_back : {z : ℕ} → Closed (opened b p y m) (one_more p) z → Closed b p z
        closed_back {z} c =
            stored marks y m z hm
            (λ p q. absurd (c.off (rw p on_y)))
            (λ p q. record { seen = rw q at c.seen; off = λ o. c.off (on_old o) })

        longer : (z : ℕ) → Before path depth z → Before (set path depth y) (depth + 1) z
        longer z b = (b.0, omega (arith, b.1), get_or-set_other path depth b.0 y 0 (λ e. omega (arith, b.1)) ∙ b.2)

        last_y : Before (set path depth y) (depth + 1) y
        last_y = (depth, omega arith, get_or-set_same path depth y 0 hp)

        kept : {x z : ℕ} → On b p x → Passed b p x z
            → Passed (opened b p y m) (one_more p) x z
        kept o (inl c) = inl (closed_new c)
        kept {x} {z} o (inr w) =
            inr (record {
              on = on_old w.on;
              least = w.least;
              within = λ k m. rw (pos_old o, pos_old w.on) (stored heads count len k hh
                  (λ p q. λ g. absurd (omega (arith, o.below)))
                  (λ p q. rw q (w.within k (omega arith))));
            })

  -- nothing is open
  pub above_root : (y : ℕ) → depth ≡ 0 → Above g stack p y
  above_root y e i l = absurd (omega (arith, empty s e))

  -- every root is passed
  pub all_judged : next ≡ N → Least g N order best
  all_judged e =
      record {
        best_le = s.best_le;
        loops = s.best_loop;
        least = λ y l d. omega (arith, s.judged y (shut y (omega (arith, s.best_le))) d);
        ordered = λ b. record {
          size = s.sized.order;
          each = λ i l. record {
            below = omega (arith, s.sized.marks, in_list marks (get_or order i 0) (omega (arith, s.listed.finished i (omega (arith, full)))));
            first = λ w. s.listed.once w.0 i w.1 (omega (arith, full)) w.2;
            after = λ y r. s.listed.after b i y (omega (arith, full)) r;
          };
        };
      }
    where
      shut : (x : ℕ) → x < N → Closed b p x
      shut x l = record { seen = s.started x (omega arith); off = λ o. omega (arith, o.below, empty s (s.ended e)) }

      full : done ≡ N
      full = s.listed.counted ∙ tally_all done_mark marks (λ x l. closed_done s x (shut x (omega (arith, s.sized.marks)))) ∙ s.sized.marks

-- the state at the start: the flip-flops are done, and read nothing
pub start : (g : ℕ → Gate) (n : ℕ) (b : Search) → WellFormed (reads_in g) (signal_count n) → Sized (signal_count n) b
    → FlopsListed (8 * n) b.marks b.order
    → ((q y : ℕ) → q < 8 * n → Reads (reads_in g) (flop_signal q) y → ⊥)
    → Components g (signal_count n) b (first_scan n)
start g n b bounded sized flops quiet =
    record {
      bounded = bounded;
      sized = sized;
      next_le = zero-le;
      ended = λ _. refl;
      low = λ x. by x (λ z. omega arith) (λ i l e. omega (arith, is_done x i l e));
      started = λ x l. absurd (omega arith);
      at_places = λ x o. absurd (unopened x o);
      placed = record {
        at = λ i l. absurd (omega arith);
        seen = λ i l. absurd (omega arith);
        fits = omega (arith, sized.marks, tally_le 0 b.marks);
      };
      headed = record {
        low = λ k l. absurd (omega arith);
        inside = λ k l. absurd (omega arith);
        sorted = λ i j l m. absurd (omega arith);
        some = λ l. l;
        bottom = λ l. absurd (omega arith);
        begun = λ k l. absurd (omega arith);
      };
      pathed = record {
        low = λ i l. absurd (omega arith);
        on = λ i l. absurd (omega arith);
        opened = λ i l. absurd (omega arith);
        sorted = λ i j l m. absurd (omega arith);
        named = λ x o. absurd (unopened x o);
      };
      reach = λ i j l m w. absurd (omega arith);
      looked = λ x i y o l b r. absurd (omega (arith, o.below));
      closed = λ x y c r. absurd (nothing x y c.seen r);
      judged = λ x c d. absurd (alone x c.seen d);
      best_le = omega arith;
      best_loop = λ l. absurd (omega arith);
      listed = record {
        counted = flops.counted;
        finished = λ i l. rw (flops.first i l) (flops.done i l);
        named = λ x e. by x (λ z. absurd (omega arith)) (λ i l f. (i, l, flops.first i l ∙ sym f));
        once = λ i j l m e. omega (arith, flops.first i (omega arith), flops.first j m);
        after = λ _ i y l r. absurd (quiet i y l (rw (flops.first i l) at r));
      };
    }
  where
    by : {C : Type 0} (x : ℕ) → (get_or b.marks x 0 ≡ 0 → C) → ((i : ℕ) → i < 8 * n → x ≡ flop_signal i → C) → C
    by x f h = ⊎_elim f (λ w. h w.0 w.1 w.2) (flops.others x)

    is_done : (x i : ℕ) → i < 8 * n → x ≡ flop_signal i → get_or b.marks x 0 ≡ done_mark
    is_done x i l e = rw e (flops.done i l)

    unopened : (x : ℕ) → Open b.marks x → ⊥
    unopened x o = by x (λ z. omega (arith, o.seen)) (λ i l e. omega (arith, o.left, is_done x i l e))

    -- a seen signal reads nothing, so it is on no loop
    nothing : (x y : ℕ) → 0 < get_or b.marks x 0 → Reads (reads_in g) x y → ⊥
    nothing x y l r = by x (λ z. omega arith) (λ i m e. quiet i y m (rw e at r))

    alone : (x : ℕ) → 0 < get_or b.marks x 0 → Loop (reads_in g) x → ⊥
    alone x l (direct r) = nothing x _ l r
    alone x l (through r d) = nothing x _ l r
