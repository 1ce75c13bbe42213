-- What buffers that pass tell: each has the length that is named. Assumes nothing.
use mathlib.Core.Path.{◌≡◌}
use mathlib.Core.Bool.{Bool, false, not, ◌||◌}
use mathlib.Core.List.{List}
use Prim.Native.Nat.{ℕ, ◌*◌}
use borrow.Author.Tests.{eqb-true, not-false}
use lib.Dec.{eqb}
use lib.ListN.{length}
use Rattle.netlist.specs.Table.{signal_count}
use Rattle.std.specs.Prelude.{Ok}
use Rattle.slicefile.specs.declared.Reason.TheVariants.{WrongBuffer, OutOfRange}
use Rattle.rules.specs.Rules.{given}
use Rattle.rules.proofs.Refusals.{given_none, or_else_left, or_else_right}
use Rattle.slicefile.proofs.Tests.{or_left, or_right}
use Rattle.column.specs.Clock.{State}
use Rattle.buffers.specs.Buffers.{bad_state, bad_lengths, bad_bytes, bad_words, settle_refusal, edit_refusal}

same : (a b : ℕ) → not (eqb a b) ≡ false → a ≡ b
same a b e = eqb-true a b (not-false (eqb a b) e)

pub state_lengths : (n : ℕ) (st : State) → bad_state n st ≡ false → (length st.contents ≡ 4 * n) × (length st.flops ≡ n)
unfolding bad_state
state_lengths n st e =
    let a = not (eqb (length st.contents) (4 * n)) in
    let b = not (eqb (length st.flops) n) in
    (same (length st.contents) (4 * n) (or_left a b e), same (length st.flops) n (or_right a b e))

pub record Lengths (n m : ℕ) (st : State) (ins table : List ℕ) : Type 0 where
  pub contents : length st.contents ≡ 4 * n
  pub flops : length st.flops ≡ n
  pub inputs : length ins ≡ m
  pub values : length table ≡ signal_count n

pub lengths : (n m : ℕ) (st : State) (inputs values : List ℕ) → bad_lengths n m st inputs values ≡ false → Lengths n m st inputs values
unfolding bad_lengths
lengths n m st inputs values e =
    let a = bad_state n st in
    let b = not (eqb (length inputs) m) in
    let c = not (eqb (length values) (signal_count n)) in
    let r = or_left (a || b) c e in
    let s = state_lengths n st (or_left a b r) in
    record {
      contents = s.0;
      flops = s.1;
      inputs = same (length inputs) m (or_right a b r);
      values = same (length values) (signal_count n) (or_right (a || b) c e);
    }

-- where a call is not refused its buffers have their lengths
pub settle_lengths : (file : List ℕ) (st : State) (inputs values : List ℕ) (n m : ℕ) → settle_refusal file st inputs values n m ≡ Ok tt → Lengths n m st inputs values
unfolding settle_refusal
settle_lengths file st inputs values n m e = lengths n m st inputs values (given_none WrongBuffer _ (or_else_left (given WrongBuffer (bad_lengths n m st inputs values)) _ e))

pub edit_lengths : (bad : Bool) (file : List ℕ) (st : State) (inputs values : List ℕ) (n m : ℕ) → edit_refusal bad file st inputs values n m ≡ Ok tt → Lengths n m st inputs values
unfolding edit_refusal
edit_lengths bad file st inputs values n m e = lengths n m st inputs values (given_none WrongBuffer _ (or_else_left (given WrongBuffer (bad_lengths n m st inputs values)) _ e))

-- and the list of edits is good
pub edit_argument : (bad : Bool) (file : List ℕ) (st : State) (inputs values : List ℕ) (n m : ℕ) → edit_refusal bad file st inputs values n m ≡ Ok tt → bad ≡ false
unfolding edit_refusal
edit_argument bad file st inputs values n m e =
    or_right (bad_bytes inputs || bad_bytes values || bad_words file st.contents) bad
    (given_none OutOfRange _ (or_else_right (given WrongBuffer (bad_lengths n m st inputs values)) _ e))
