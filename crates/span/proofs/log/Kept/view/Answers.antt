use Rattle.std.proofs.Common.{rules}
use Rattle.span.proofs.KeptWords.{length-changes_in, slice_get-changes_in, stored_at}
use Rattle.span.proofs.log.Kept.view.Goals as goal

pub index-stored-requires : goal.index-stored-requires
index-stored-requires c = search (rules, length-changes_in)

pub words_of-words-requires : goal.words_of-words-requires
words_of-words-requires c = search (rules, stored_at)

pub returns : goal.returns
returns c = search (rules, slice_get-changes_in, stored_at)
