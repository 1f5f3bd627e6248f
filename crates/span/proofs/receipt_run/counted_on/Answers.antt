use Rattle.std.proofs.Common.{◌∙◌, subst, sym}
use Rattle.span.specs.StoredReceipts.{CountsUp}
use Rattle.span.proofs.KeptReceipts.{counted_if}
use Rattle.span.proofs.receipt_run.counted_on.Goals as goal

pub returns : goal.returns
returns c =
    let up = subst (CountsUp c.args.words.now c.args.run.now.first c.args.k) c.words_of.ensures (c.counts_up.ensures c.if-not-counts_up.false) in
    counted_if c.args.words.now c.args.run.now c.args.k c.args.call c.in-Some.counted c.args.receipt.now (sym c.counted_form.ensures ∙ c.in-Some.is)
    (c.may_count.ensures c.if-not-may_count.false) (c.requires.call c.args.k) up c.requires.follows
