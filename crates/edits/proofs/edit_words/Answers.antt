-- `edits::edit_words` meets its contract: it is `edit` with the list handed on. Assumes nothing.
use Rattle.std.proofs.Common.{rules}
use Rattle.edits.proofs.Words.{words_made}
use Rattle.edits.proofs.edit_words.Goals as goal

pub returns : goal.returns
returns c =
    words_made c.args.file.now _ _ c.args.words c.args.count c.min-most.result c.list_words-edits.result c.args.values.now _ c.min-most.ensures
    (search rules) c.list_words-edits.ensures c.edit.ensures
