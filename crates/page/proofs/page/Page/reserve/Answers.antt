use Rattle.std.proofs.Common.{ap, ◌∙◌, refl}
use Rattle.page.specs.Words.{PageState, padded}
use Rattle.page.proofs.Padded.{padded-longer}
use Rattle.page.proofs.page.Page.reserve.Goals as goal

pub returns-clause-words : goal.returns-clause-words
returns-clause-words c =
    ap padded (c.in_ok-self-inside.ensures {u = tt}) ∙ padded-longer c.self.inside.words.items _ _ refl ∙ ap (λ (page : PageState). page.words) c.self.view_is
