-- A sound file read and written again, record by record.
use Rattle.std.specs.Prelude.{ℕ, Ok, Err, Bool, true, false, List, eqb, length}
use Rattle.column.specs.Check.{check_file}
use Rattle.slicefile.specs.Refusals.{refused, Answer, Verdict}
use Rattle.slicefile.specs.declared.Reason.TheVariants.{WrongBuffer}

-- a bad file's number and place; a buffer of another length than the file's, 10; else done
abbrev pub rewrite_answer : Verdict → Bool → Answer
rewrite_answer (Err r) fits = Err r
rewrite_answer (Ok size) true = Ok tt
rewrite_answer (Ok size) false = Err (refused WrongBuffer 0)

-- the buffer after an answer: the file where it was done, else as it was
abbrev pub left_by : Answer → List ℕ → List ℕ → List ℕ
left_by (Ok u) file out = file
left_by (Err r) file out = out

-- what rewriting a file into a buffer answers
unfoldable pub rewritten : List ℕ → List ℕ → Answer
rewritten file out = rewrite_answer (check_file file) (eqb (length out) (length file))
