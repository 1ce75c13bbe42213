-- `walks::gate_reached` meets its contract, test by test of the head. Assumes nothing.
use mathlib.Core.Path.{◌∙◌}
use native.Mathlib.Omega.{arith}
use Rattle.walks.proofs.Rows.{reached_lut, reached_zero, reached_stored, reached_select, reached_xor, reached_same}
use Rattle.walks.proofs.gate_reached.Goals as goal

pub returns-then-head-n : goal.returns-then-head-n
returns-then-head-n c =
    rw (c.any_reached.ensures, c.is_marked-contents.ensures, c.from-head.ensures) (reached_lut _ _ _ _ _ _ (omega arith))

pub returns-then-head-n-2 : goal.returns-then-head-n-2
returns-then-head-n-2 c = rw (c.is_marked.ensures, c.from-head.ensures) (reached_zero _ _ _ _ _ _ (omega arith) (omega arith))

pub returns-then-head-n-3 : goal.returns-then-head-n-3
returns-then-head-n-3 c = c.any_reached-then-head-n-3.ensures ∙ reached_select _ _ _ _ _ _ (omega arith) (omega arith) (omega arith)

pub returns-then-head-n-4 : goal.returns-then-head-n-4
returns-then-head-n-4 c = c.any_reached-then-head-n-4.ensures ∙ reached_xor _ _ _ _ _ _ (omega arith) (omega arith) (omega arith) (omega arith)

pub returns-then-head-n-5 : goal.returns-then-head-n-5
returns-then-head-n-5 c =
    c.number_reached.ensures ∙ reached_same _ _ _ _ _ _ (omega arith) (omega arith) (omega arith) (omega arith) (omega arith)

pub returns : goal.returns
returns c = reached_stored _ _ _ _ _ _ (omega arith) (omega arith) (omega arith) (omega arith) (omega arith)
