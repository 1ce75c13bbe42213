-- `framing::is_end` meets its contract. Assumes nothing.
use mathlib.Core.Path.{sym}
use mathlib.Core.Bool.{true≢false}
use Rattle.framing.proofs.EndLaws.{no_end, end_test}
use Rattle.framing.proofs.is_end.Goals as goal

pub returns-then-s-lt-HEAD : goal.returns-then-s-lt-HEAD
returns-then-s-lt-HEAD c = (λ e. absurd (true≢false (sym e)), λ e. absurd (no_end c.args.s.now c.if-s-lt-HEAD.true e))

pub returns : goal.returns
returns c = end_test c.args.s.now c.if-s-lt-HEAD.false
