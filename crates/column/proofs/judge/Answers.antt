-- `column::judge` meets its contract. Assumes nothing.
use Rattle.column.proofs.Verdicts.{loaded_judged}
use Rattle.column.proofs.judge.Goals as goal

pub returns : goal.returns
returns c = loaded_judged _ _ _ _ c.load.ensures
