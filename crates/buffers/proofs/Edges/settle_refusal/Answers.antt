-- `buffers::Edges::settle_refusal` meets its contract. Assumes nothing.
use mathlib.Core.Path.{◌∙◌, sym}
use Rattle.buffers.proofs.Lengths.{lengths}
use Rattle.buffers.proofs.Edges.settle_refusal.Goals as goal

pub bad_words-words-requires : goal.bad_words-words-requires
bad_words-words-requires c =
    let a = c.args in
    (lengths a.self.now.n a.m _ a.inputs.now a.values.now (sym c.bad_lengths.ensures ∙ c.if-bad_lengths.false)).contents
