use Rattle.std.proofs.Common.{◌∙◌, sym}
use Rattle.certificate.proofs.ReadAgain.{IsBelow-is_on_page}
use Rattle.certificate.proofs.text.words.parse_set.Goals as goal

pub returns-then-is_on_page-clause-below : goal.returns-then-is_on_page-clause-below
returns-then-is_on_page-clause-below c = IsBelow-is_on_page c.args.class c.args.word.now c.in-Some.slots c.in-Some.ensures.set (sym c.is_on_page.ensures ∙ c.if-is_on_page.true)
