use Rattle.std.proofs.Common.{◌≡◌, ◌*◌, ◌+◌, ◌∙◌, ap, subst, sym, arith}
use Rattle.std.specs.List.{between}
use Rattle.span.specs.Classes.{width_of}
use Rattle.page.specs.Words.{IsInObjects, PageState, object_in}
use Rattle.page.proofs.Padded.{object_in-run, object_in-word}
use Rattle.page.proofs.page.Page.value_at.Goals as goal

pub returns-then-width-eq1-clause-object : goal.returns-then-width-eq1-clause-object
returns-then-width-eq1-clause-object c =
    object_in-word c.self.inside.words.items c.args.class c.args.slot c.from.result c.run_of.result.now (sym c.words-width.ensures ∙ c.if-width-eq1.true) c.from.ensures c.requires.on_page
    (subst (λ (page : PageState). IsInObjects c.args.class page.room) (sym c.self.view_is) c.requires.whole) c.run_of.ensures.width c.run_of.ensures.there c.run_of.ensures.beyond
    ∙ ap (λ (page : PageState). object_in page.words c.args.class c.args.slot) c.self.view_is

pub returns-clause-object : goal.returns-clause-object
returns-clause-object c =
    let width : c.words-width.result ≡ width_of c.args.class = c.words-width.ensures in
    let first = c.words-width.result * c.from-2.result in
    let is : first ≡ width_of c.args.class * c.args.slot = λ i. width i * c.from-2.ensures i in
    object_in-run c.self.inside.words.items c.args.class c.args.slot first c.run_of-2.result.now is c.requires.on_page
    (subst (λ (page : PageState). IsInObjects c.args.class page.room) (sym c.self.view_is) c.requires.whole) (c.run_of-2.ensures.width ∙ width)
    (λ reaches. c.run_of-2.ensures.there (omega (arith, reaches, width)) ∙ ap (λ n. between first (first + n) c.self.inside.words.items) width)
    (λ short. c.run_of-2.ensures.beyond (omega (arith, short, width)))
    ∙ ap (λ (page : PageState). object_in page.words c.args.class c.args.slot) c.self.view_is
