-- `quagmuffin::qm_feed` meets its contract: what it says and hands on fits. Assumes nothing.
use mathlib.Core.Path.{◌∙◌, sym}
use borrow.Author.Rules.{rules}
use Rattle.quagmuffin.proofs.Words.{loaded_length, said_packs}
use Rattle.quagmuffin.proofs.qm_feed.Goals as goal

pub store_reader-requires : goal.store_reader-requires
store_reader-requires c =
    let state = c.args.state.now in
    let loads = sym c.load_reader.ensures ∙ c.in-Some.is in
    (loaded_length state loads, said_packs state loads (search rules) c.feed-reply.ensures)
