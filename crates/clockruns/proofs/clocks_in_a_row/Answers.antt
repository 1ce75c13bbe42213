-- `clockruns::clocks_in_a_row` meets its contract: the answer is small, so it packs. Assumes nothing.
use Rattle.quagmuffin.proofs.Small.{called_fits, settle_most}
use Rattle.clockruns.proofs.clocks_in_a_row.Goals as goal

pub pack_answer-requires : goal.pack_answer-requires
pack_answer-requires c = called_fits (λ n m. settle_most _ _ _ _ n _) c.row.ensures
