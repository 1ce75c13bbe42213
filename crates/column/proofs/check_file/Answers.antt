-- `column::check_file` meets its contract: a check taken up at the first slice. Assumes nothing.
use mathlib.Core.Path.{◌∙◌}
use Rattle.column.proofs.CheckLaws.{from_start}
use Rattle.column.proofs.check_file.Goals as goal

pub returns : goal.returns
returns c = c.check_from.ensures.0 ∙ from_start _
