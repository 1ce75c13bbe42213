-- The worked cases 1 to 10: one test that antt computes over the whole table, and one law that turns it into what the rows say.
-- Assumes nothing.
use mathlib.Core.Path.{◌≡◌, ◌∙◌, ap, ap₂, sym, subst}
use mathlib.Core.Bool.{Bool, true, false, not, ◌&&◌}
use Rattle.std.specs.Prelude.{Ok, Err}
use mathlib.Core.List.{List, [], ◌∷◌, ◌++◌}
use Prim.Native.Nat.{ℕ, zero, suc}
use native.Mathlib.Omega.{arith}
use lib.Dec.{T, ltb, eqb, eqb→eq, ltb→lt, T_not}
use lib.ListN.{length, get_or, set, replicate}
use Rattle.netlist.specs.Graph.{LoopFree}
use Rattle.netlist.specs.Rule.{apply_gate, rule_of, sources_of, signals_in, reads_of, value_of}
use Rattle.netlist.specs.Table.{signal_count}
use Rattle.slicefile.specs.declared.Reason.{Reason}
use Rattle.slicefile.specs.declared.Reason.TheVariants.{OnLoop}
use Rattle.slicefile.specs.Refusals.{number, refused, sized, Verdict}
use Rattle.slicefile.specs.Format.{slice_count}
use Rattle.slicefile.specs.Lists.{any_below, tabulate}
use Rattle.slicefile.specs.Driver.{driver_of}
use Rattle.rules.specs.Rules.{letter_choice, bad_choice, letter_combination, bad_combination, bad_driver, body_refusal}
use Rattle.framing.specs.Framing.{header_refusal, bad_size, slice_refusal, size_refusal}
use Rattle.slicefile.proofs.Reasons.{named, same_reason}
use Rattle.slicefile.proofs.Tests.{and_left, and_right}
use Rattle.sources.specs.Sources.{pin_source}
use Rattle.series7.specs.Signals.{pins_of, start_source, carry_in, carry_source, wide_gate, family_gate, slice_gate}
use Rattle.series7.specs.Edge.{main_source, second_source, next_bit, next_flops, write_address, next_word}
use Rattle.column.specs.File.{size_length, slice_tag_of, record_start, slice_body, gate_at}
use Rattle.column.specs.Check.{check_end, check_slices, check_file}
use Rattle.column.specs.Judge.{reads_at, Judged, bad, accepted, loop}
use Rattle.column.specs.Clock.{State, env_of, power_up, clocked, SettledFor, Run}
use Rattle.column.specs.Cases.{file_of, Outcome, Judgement, Ones, After, Row, ones_at, names, no_inputs, LeavesWord, Gives, Holds, Every, cases, up_from}
use Rattle.column.proofs.Certificates.{and_both, all_below, all_at, ordered, chained, no_loop, chain_depends}
use Rattle.column.proofs.Netlist.{settles_once}
use Rattle.column.proofs.Runs.{still, clock_first, run_unique}

-- what the test needs besides the row: nothing for a bad record; an order, latest first, of all signals; or n and m, a chain from the
-- smallest signal on a loop to itself, and an order of the smaller signals over a base
data Hint : Type 0 where
  records : Hint
  order : List ℕ → Hint
  looped : ℕ → ℕ → List ℕ → List ℕ → List ℕ → Hint

is_sound : Verdict → ℕ → ℕ → Bool
is_sound (Ok size) n m = eqb size.n n && eqb size.m m
is_sound (Err r) n m = false

is_reason : Reason → Reason → Bool
is_reason q r = (named q && named r) && eqb (number q) (number r)

is_bad : Verdict → Reason → ℕ → Bool
is_bad (Err q) r p = is_reason q.reason r && eqb q.place p
is_bad (Ok size) r p = false

-- a signal below the smallest on a loop: ordered, and not of the base
aside : List ℕ → List ℕ → ℕ → Bool
aside xs base x = names xs x && not (names base x)

loop_ok : List ℕ → ℕ → ℕ → ℕ → List ℕ → List ℕ → List ℕ → Bool
loop_ok file p n m ys base xs =
    is_sound (check_file file) n m
    && (ltb p (signal_count n) && (chained (reads_at file) p ys p && (ordered (reads_at file) xs base && all_below p (aside xs base))))

-- no signal of the file is on a loop
free_ok : List ℕ → ℕ → List ℕ → Bool
free_ok file n xs = ordered (reads_at file) xs [] && all_below (signal_count n) (names xs)

judged_ok : List ℕ → Verdict → Hint → Bool
judged_ok file (Ok size) records = false
judged_ok file (Ok size) (order xs) = is_sound (check_file file) size.n size.m && free_ok file size.n xs
judged_ok file (Ok size) (looped _ _ _ _ _) = false
judged_ok file (Err r) records = is_bad (check_file file) r.reason r.place
judged_ok file (Err r) (order xs) = false
judged_ok file (Err r) (looped n m ys base xs) = is_reason r.reason OnLoop && loop_ok file r.place n m ys base xs

settled_ok : List ℕ → State → List ℕ → Bool
settled_ok file st values =
    eqb (length values) (signal_count (slice_count file))
    && all_below (signal_count (slice_count file)) (λ x. eqb (get_or values x 0) (rule_of (env_of st []) values (gate_at file x)))

-- the values, each by its rule from those that the order has before it
filled : List ℕ → State → List ℕ → List ℕ
filled file st [] = replicate (signal_count (slice_count file)) 0
filled file st (x ∷ xs) =
    let vs = filled file st xs in
    set vs x (rule_of (env_of st []) vs (gate_at file x))

run_ok : List ℕ → List ℕ → ℕ → State → ℕ → ℕ → Bool
run_ok file xs zero st t w = eqb (get_or st.contents t 0) w
run_ok file xs (suc k) st t w =
    let vs = filled file st xs in
    settled_ok file st vs && run_ok file xs k (clocked file st [] vs) t w

order_of : Hint → List ℕ
order_of records = []
order_of (order xs) = xs
order_of (looped _ _ _ _ xs) = xs

gives_ok : List ℕ → Outcome → Hint → Bool
gives_ok file Judgement h = true
gives_ok file (Ones xs) h = settled_ok file (power_up file) (ones_at xs)
gives_ok file (After k t w) h = free_ok file (slice_count file) (order_of h) && run_ok file (order_of h) k (power_up file) t w

row_ok : Row → Hint → Bool
row_ok r h = let file = file_of r.edits in judged_ok file r.verdict h && gives_ok file r.outcome h

-- every row passes with its hint
all_ok : List Row → List Hint → Bool
all_ok [] hs = true
all_ok (r ∷ rs) [] = false
all_ok (r ∷ rs) (h ∷ hs) = row_ok r h && all_ok rs hs

-- ---- the law

sound_by : (v : Verdict) (n m : ℕ) → T (is_sound v n m) → v ≡ Ok (sized n m)
unfolding is_sound
sound_by (Ok size) n m t =
    ap₂ (λ (a b : ℕ). Ok (sized a b)) (eqb→eq size.n n (and_left (eqb size.n n) (eqb size.m m) t)) (eqb→eq size.m m (and_right (eqb size.n n) (eqb size.m m) t))
sound_by (Err r) n m t = absurd t

reason_by : (q r : Reason) → T (is_reason q r) → q ≡ r
unfolding is_reason
reason_by q r t =
    let n = and_left (named q && named r) (eqb (number q) (number r)) t in
    same_reason q r (and_left (named q) (named r) n) (and_right (named q) (named r) n) (eqb→eq (number q) (number r) (and_right (named q && named r) (eqb (number q) (number r)) t))

bad_by : (v : Verdict) (r : Reason) (p : ℕ) → T (is_bad v r p) → v ≡ Err (refused r p)
unfolding is_bad
bad_by (Err q) r p t =
    ap₂ (λ (a : Reason) (b : ℕ). Err (refused a b)) (reason_by q.reason r (and_left (is_reason q.reason r) (eqb q.place p) t)) (eqb→eq q.place p (and_right (is_reason q.reason r) (eqb q.place p) t))
bad_by (Ok size) r p t = absurd t

loop_by : (file : List ℕ) (p n m : ℕ) (ys base xs : List ℕ) → T (loop_ok file p n m ys base xs) → Judged file (Err (refused OnLoop p))
unfolding loop_ok aside
loop_by file p n m ys base xs t =
    let reads = reads_at file in
    let d = all_below p (aside xs base) in
    let c = ordered reads xs base in
    let b = chained reads p ys p in
    let a = ltb p (signal_count n) in
    let s₁ = and_both (is_sound (check_file file) n m) (a && (b && (c && d))) t in
    let s₂ = and_both a (b && (c && d)) s₁.1 in
    let s₃ = and_both b (c && d) s₂.1 in
    let s₄ = and_both c d s₃.1 in
    loop (sound_by (check_file file) n m s₁.0) (ltb→lt p (signal_count n) s₂.0) (chain_depends reads p ys p s₃.0)
    (λ x l e.
    let u = and_both (names xs x) (not (names base x)) (all_at p (aside xs base) s₄.1 x l) in
    no_loop reads xs base s₄.0 x u.0 (T_not (names base x) u.1) e)

free_by : (file : List ℕ) (n : ℕ) (xs : List ℕ) → T (free_ok file n xs) → LoopFree (reads_at file) (signal_count n)
unfolding free_ok
free_by file n xs t x l d =
    let s = and_both (ordered (reads_at file) xs []) (all_below (signal_count n) (names xs)) t in
    no_loop (reads_at file) xs [] s.0 x (all_at (signal_count n) (names xs) s.1 x l) (λ z. z) d

judged_by : (file : List ℕ) (v : Verdict) (h : Hint) → T (judged_ok file v h) → Judged file v
unfolding judged_ok
judged_by file (Ok size) records t = absurd t
judged_by file (Ok size) (order xs) t =
    let s = and_both (is_sound (check_file file) size.n size.m) (free_ok file size.n xs) t in
    accepted (sound_by (check_file file) size.n size.m s.0) (free_by file size.n xs s.1)
judged_by file (Ok size) (looped _ _ _ _ _) t = absurd t
judged_by file (Err r) records t = bad (bad_by (check_file file) r.reason r.place t)
judged_by file (Err r) (order xs) t = absurd t
judged_by file (Err r) (looped n m ys base xs) t =
    let s = and_both (is_reason r.reason OnLoop) (loop_ok file r.place n m ys base xs) t in
    subst (λ (q : Reason). Judged file (Err (refused q r.place))) (sym (reason_by r.reason OnLoop s.0)) (loop_by file r.place n m ys base xs s.1)

settled_by : (file : List ℕ) (st : State) (values : List ℕ) → T (settled_ok file st values) → SettledFor file st [] values
unfolding settled_ok
settled_by file st values t =
    let n = signal_count (slice_count file) in
    let f : ℕ → Bool = λ x. eqb (get_or values x 0) (rule_of (env_of st []) values (gate_at file x)) in
    record {
      size = eqb→eq (length values) n (and_left (eqb (length values) n) (all_below n f) t);
      each = λ x l. eqb→eq (get_or values x 0) (rule_of (env_of st []) values (gate_at file x)) (all_at n f (and_right (eqb (length values) n) (all_below n f) t) x l);
    }

runs_by : (file xs : List ℕ) (k : ℕ) (st : State) (t w : ℕ) → T (run_ok file xs k st t w) → (r : Run file st no_inputs k) × (get_or (r.states k).contents t 0 ≡ w)
unfolding run_ok still clock_first
runs_by file xs zero st t w p = (still file st no_inputs, eqb→eq (get_or st.contents t 0) w p)
runs_by file xs (suc k) st t w p =
    let vs = filled file st xs in
    let a = settled_ok file st vs in
    let b = run_ok file xs k (clocked file st [] vs) t w in
    let rest = runs_by file xs k (clocked file st [] vs) t w (and_right a b p) in
    (clock_first file no_inputs vs (settled_by file st vs (and_left a b p)) rest.0, rest.1)

leaves_by : (file xs : List ℕ) (k t w : ℕ) → T (free_ok file (slice_count file) xs) → T (run_ok file xs k (power_up file) t w) → LeavesWord file k t w
leaves_by file xs k t w free p =
    let r = runs_by file xs k (power_up file) t w p in
    let once = settles_once file (free_by file (slice_count file) xs free) in
    record {
      runs = r.0;
      always = λ q. ap (λ (st : State). get_or st.contents t 0) (run_unique file once q r.0 k (omega arith)) ∙ r.1;
    }

gives_by : (file : List ℕ) (o : Outcome) (h : Hint) → T (gives_ok file o h) → Gives file o
unfolding gives_ok Gives
gives_by file Judgement h t = tt
gives_by file (Ones xs) h t = settled_by file (power_up file) (ones_at xs) t
gives_by file (After k a w) h t =
    let s = and_both (free_ok file (slice_count file) (order_of h)) (run_ok file (order_of h) k (power_up file) a w) t in
    leaves_by file (order_of h) k a w s.0 s.1

holds_by : (r : Row) (h : Hint) → T (row_ok r h) → Holds r
unfolding row_ok
holds_by r h t =
    let file = file_of r.edits in
    let a = judged_ok file r.verdict h in
    let b = gives_ok file r.outcome h in
    record { judged = judged_by file r.verdict h (and_left a b t); gives = gives_by file r.outcome h (and_right a b t) }

every_by : (rs : List Row) (hs : List Hint) → T (all_ok rs hs) → Every rs
unfolding all_ok
every_by [] hs t = tt
every_by (r ∷ rs) [] t = absurd t
every_by (r ∷ rs) (h ∷ hs) t = (holds_by r h (and_left (row_ok r h) (all_ok rs hs) t), every_by rs hs (and_right (row_ok r h) (all_ok rs hs) t))

-- ---- the table

-- in these files each MUX output takes O5: the flip-flops and MC31, O5, the MUX outputs, O6, the carries, the sums, F7A, F7B, F8, latest first
levels : List ℕ
levels = 18 ∷ 17 ∷ 16 ∷ 15 ∷ 14 ∷ 13 ∷ 12 ∷ 11 ∷ 10 ∷ 9 ∷ 8 ∷ (up_from 0 4 ++ up_from 20 4 ++ up_from 4 4 ++ (19 ∷ up_from 24 8))

-- a hint for each row of `cases`
hints : List Hint
hints =
    order levels
    ∷ order levels
    ∷ order levels
    ∷ order levels
    ∷ looped 1 0 [] [] []
    ∷ looped 1 0 (20 ∷ []) (4 ∷ 20 ∷ []) (0 ∷ 1 ∷ 2 ∷ 3 ∷ [])
    ∷ order levels
    ∷ order levels
    ∷ records
    ∷ records
    ∷ records
    ∷ records
    ∷ order levels
    ∷ order levels
    ∷ order levels
    ∷ []

-- cases 1 to 10
pub cases_hold : Every cases
unfolding any_below all_below tabulate cases hints levels all_ok row_ok gives_ok run_ok filled settled_ok judged_ok loop_ok free_ok aside is_bad is_reason is_sound order_of clocked next_word write_address next_flops next_bit main_source second_source power_up value_of apply_gate rule_of signals_in reads_of sources_of gate_at slice_gate family_gate wide_gate pins_of start_source carry_in carry_source pin_source slice_body record_start slice_tag_of size_length file_of check_file check_slices check_end size_refusal bad_size slice_refusal body_refusal bad_driver bad_combination letter_combination bad_choice letter_choice header_refusal driver_of
cases_hold = every_by cases hints tt
