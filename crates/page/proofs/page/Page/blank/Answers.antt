use Rattle.std.proofs.Common.{ap, ◌∙◌}
use Rattle.page.specs.Words.{page_with}
use Rattle.page.proofs.Padded.{padded-none}
use Rattle.page.proofs.page.Page.blank.Goals as goal

pub returns : goal.returns
returns c = ap page_with c.new.ensures.items ∙ (λ i. record { words = padded-none i; room = 0 })
