-- The worked cases 1 to 10, as edits of the base file Z, each with what it must give.
use Rattle.std.specs.Prelude.{◌≡◌, Ok, Err, Bool, false, ◌||◌, ℕ, ◌/◌, ◌%◌, List, [], ◌∷◌, ◌++◌, eqb, get_or, replicate}
use Rattle.std.proofs.lemmas.List.Edits.{sets}
use Rattle.netlist.specs.Rule.{bit}
use Rattle.column.specs.Judge.{Judged}
use Rattle.slicefile.specs.declared.Reason.TheVariants.{NoDriver, OnLoop}
use Rattle.slicefile.specs.Lists.{tabulate}
use Rattle.slicefile.specs.Refusals.{refused, sized, Verdict}
use Rattle.column.specs.Clock.{power_up, SettledFor, Run}

-- bytes to put into the slice's body, and from which offset
pub record Edit : Type 0 where
  pub at : ℕ
  pub bytes : List ℕ

-- base file Z: 01 02 00 01 00, 02 7C 00, 124 zero bytes, 03 00 00, with the body edited
abbrev pub edited : List Edit → List ℕ
edited [] = replicate 124 0
edited (e ∷ es) = sets (edited es) e.at e.bytes

unfoldable pub file_of : List Edit → List ℕ
file_of es = 1 ∷ 2 ∷ 0 ∷ 1 ∷ 0 ∷ 2 ∷ 0x7C ∷ 0 ∷ (edited es ++ (3 ∷ 0 ∷ 0 ∷ []))

-- the edits that the cases name, by the layout's own offsets and not by the definitions of the format, so that they test those
abbrev pub at : ℕ → List ℕ → Edit
at i bs = record { at = i; bytes = bs }

abbrev pub slicem : Edit
slicem = at 1 (1 ∷ [])

-- byte 5 is the mode of D, byte 10 the lowest of contents A, bytes 10-41 all contents, byte 46 the carry start
abbrev pub carry_one : Edit
carry_one = at 46 (1 ∷ [])

abbrev pub all_ones : Edit
all_ones = at 10 (replicate 32 255)

-- pins by the offset of their two bytes: A1 is at 62, A6 at 72, D1-D6 at 98-108, DX at 116, WE at 122
abbrev pub drive : ℕ → ℕ → Edit
drive i code = at i (code % 256 ∷ code / 256 ∷ [])

-- case 9: SLICEM, D shift, DX and WE at 1
abbrev pub shift_d : List Edit
shift_d = slicem ∷ at 5 (2 ∷ []) ∷ drive 116 1 ∷ drive 122 1 ∷ []

-- case 10: SLICEM, D memory, D1-D6, DX and WE at 1
abbrev pub memory_d : List Edit
memory_d =
    slicem ∷ at 5 (1 ∷ []) ∷ drive 98 1 ∷ drive 100 1 ∷ drive 102 1 ∷ drive 104 1 ∷ drive 106 1 ∷ drive 108 1 ∷ drive 116 1 ∷ drive 122 1 ∷ []

abbrev pub up_from : ℕ → ℕ → List ℕ
up_from i k = tabulate i k (λ x. x)

-- besides the verdict: nothing; the signals that settle to 1, the others being 0; or the word of a table after some clocks from power-up
pub data Outcome : Type 0 where
  Judgement : Outcome
  Ones : List ℕ → Outcome
  After : ℕ → ℕ → ℕ → Outcome

pub record Row : Type 0 where
  pub edits : List Edit
  pub verdict : Verdict
  pub outcome : Outcome

-- the list names x
abbrev pub names : List ℕ → ℕ → Bool
names [] x = false
names (y ∷ ys) x = eqb x y || names ys x

-- the value table in which just the named signals are 1
abbrev pub ones_at : List ℕ → List ℕ
ones_at xs = tabulate 0 32 (λ x. bit (names xs x))

-- no case has outside inputs
abbrev pub no_inputs : ℕ → List ℕ
no_inputs k = []

-- there is a run of k clocks from power-up, and every such run leaves the word w in table t
pub record LeavesWord (file : List ℕ) (k t w : ℕ) : Type 0 where
  pub runs : Run file (power_up file) no_inputs k
  pub always : (r : Run file (power_up file) no_inputs k) → get_or (r.states k).contents t 0 ≡ w

unfoldable pub Gives : List ℕ → Outcome → Type 0
Gives file Judgement = Unit {0}
Gives file (Ones xs) = SettledFor file (power_up file) [] (ones_at xs)
Gives file (After k t w) = LeavesWord file k t w

-- what a row says
pub record Holds (r : Row) : Type 0 where
  pub judged : Judged (file_of r.edits) r.verdict
  pub gives : Gives (file_of r.edits) r.outcome

-- every row of a list holds: the cases' one statement is `Every cases`
abbrev pub Every : List Row → Type 0
Every [] = Unit {0}
Every (r ∷ rs) = Holds r × Every rs

abbrev pub row : List Edit → Verdict → Outcome → Row
row es v o = record { edits = es; verdict = v; outcome = o }

-- cases 1 to 10; a case with several files or times has a row for each
unfoldable pub cases : List Row
cases =
    -- 1
    row [] (Ok (sized 1 0)) (Ones [])
    -- 2
    ∷ row (at 10 (1 ∷ []) ∷ []) (Ok (sized 1 0)) (Ones (0 ∷ 4 ∷ 12 ∷ 20 ∷ []))
    -- 3
    ∷ row (carry_one ∷ []) (Ok (sized 1 0)) (Ones (12 ∷ []))
    -- 4
    ∷ row (carry_one ∷ all_ones ∷ []) (Ok (sized 1 0)) (Ones (up_from 0 12 ++ up_from 16 3 ++ up_from 20 4))
    -- 5
    ∷ row (drive 62 4096 ∷ []) (Err (refused OnLoop 0)) Judgement
    -- 6
    ∷ row (drive 62 4100 ∷ []) (Err (refused OnLoop 4)) Judgement
    ∷ row (drive 72 4100 ∷ []) (Ok (sized 1 0)) Judgement
    -- 7
    ∷ row (drive 62 4104 ∷ []) (Ok (sized 1 0)) Judgement
    -- 8
    ∷ row (drive 62 3 ∷ []) (Err (refused NoDriver 5)) Judgement
    ∷ row (drive 62 256 ∷ []) (Err (refused NoDriver 5)) Judgement
    ∷ row (drive 62 4108 ∷ []) (Err (refused NoDriver 5)) Judgement
    ∷ row (drive 62 4112 ∷ []) (Err (refused NoDriver 5)) Judgement
    -- 9
    ∷ row shift_d (Ok (sized 1 0)) (After 1 3 1)
    ∷ row shift_d (Ok (sized 1 0)) (After 32 3 4_294_967_295)
    -- 10
    ∷ row memory_d (Ok (sized 1 0)) (After 1 3 9_223_372_036_854_775_808)
    ∷ []
