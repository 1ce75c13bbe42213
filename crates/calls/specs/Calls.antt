-- What the calls on a file answer and leave. "Every call but the record ones takes the file and judges it first: a refused file makes the
-- call give the same number and place"; its own refusals, 10 and 11, have place 0; "a refusal writes nothing".
use Rattle.std.specs.Prelude.{ℕ, ◌≡◌, Ok, Err, List}
use Rattle.lent.specs.Lent.{Lent, Shown, shown}
use Rattle.slicefile.specs.declared.Reason.{Reason}
use Rattle.slicefile.specs.declared.Reason.TheVariants.{WrongBuffer}
use Rattle.slicefile.specs.declared.Refusal.{Refusal}
use Rattle.slicefile.specs.declared.Size.{Size}
use Rattle.slicefile.specs.Refusals.{refused as refused_at, Tested, Answer, Verdict}
use Rattle.rules.specs.Rules.{given}
use Rattle.column.specs.Clock.{State, state_was, state_left, power_up}
use Rattle.column.specs.Judge.{Judged}
use Rattle.buffers.specs.Buffers.{bad_state}

-- a call on a file, with its own refusal for n and m, what is so where nothing was written, and what is so where it was done
pub data Called (file : List ℕ) (own : ℕ → ℕ → Tested) (Kept : Type 0) (Did : ℕ → ℕ → Type 0) : Answer → Type 0 where
  judged : {r : Refusal} → Judged file (Err r) → Kept → Called file own Kept Did (Err r)
  refused : {size : Size} {r : Reason} → Judged file (Ok size) → own size.n size.m ≡ Err r → Kept → Called file own Kept Did (Err (refused_at r 0))
  done : {size : Size} → Judged file (Ok size) → own size.n size.m ≡ Ok tt → Did size.n size.m → Called file own Kept Did (Ok tt)

-- a call on the plan of a judged file: its own refusal, or what was done
pub data Planned (own : Tested) (Kept Did : Type 0) : Answer → Type 0 where
  turned_down : {r : Reason} → own ≡ Err r → Kept → Planned own Kept Did (Err (refused_at r 0))
  carried_out : own ≡ Ok tt → Did → Planned own Kept Did (Ok tt)

-- the judge's refusal as the answer of a call
abbrev pub refusal_of : Verdict → Answer
refusal_of (Ok size) = Ok tt
refusal_of (Err r) = Err r

-- "power up (fills contents and flip-flops)"
abbrev pub PoweredUp : List ℕ → State → State → Answer → Type 0
PoweredUp file old new = Called file (λ n m. given WrongBuffer (bad_state n old)) (new ≡ old) (λ n m. new ≡ power_up file)

-- the same on lent buffers, as they were and as they are left
abbrev pub PowersUp : Shown → Lent → Lent → Answer → Type 0
PowersUp file contents flops = PoweredUp (shown file) (state_was contents flops) (state_left contents flops)
