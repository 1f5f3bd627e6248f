use Rattle.std.proofs.Common.{ap, ◌∙◌, arith}
use Rattle.page.specs.Words.{PageState, copied}
use Rattle.page.proofs.Zeros.{IsMerged-copied}
use Rattle.page.proofs.page.Page.take_over.Goals as goal

pub returns-clause-words : goal.returns-clause-words
returns-clause-words c =
    IsMerged-copied c.args.class c.args.slots.now c.other.inside.words.items c.self.inside.words.items c.put_outside.new.words.items c.put_outside.ensures.merged c.put_outside.ensures.long
    (omega (arith, c.requires, ap (λ (page : PageState). page.room) c.self.view_is, ap (λ (page : PageState). page.room) c.other.view_is))
    ∙ (λ i. copied (c.self.view_is i).words c.args.class c.args.slots.now (c.other.view_is i).words)
