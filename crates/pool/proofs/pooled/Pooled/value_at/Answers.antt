use Rattle.std.proofs.Common.{ap, subst, sym, ◌∙◌}
use Rattle.page.specs.Words.{IsInObjects, Words, object_in}
use Rattle.page.proofs.Zeros.{words_of-page_of}
use Rattle.groups.specs.Pages.{object_at}
use Rattle.span.specs.declared.class.Class.{Class}
use Rattle.pool.specs.State.{PooledState}
use Rattle.pool.proofs.pooled.Pooled.value_at.Goals as goal

pub value_at-requires-clause-whole : goal.value_at-requires-clause-whole
value_at-requires-clause-whole g c =
    subst (λ (class : Class). IsInObjects class c.self.inside.words.room) (ap (λ (group : PooledState). group.head.class) c.self.view_is ∙ sym c.requires.class) c.self.invariant.whole

pub returns-clause-object : goal.returns-clause-object
returns-clause-object g c =
    c.value_at.ensures.object
    ∙ ap (λ (words : Words). object_in words c.args.class c.args.slot) (sym (words_of-page_of c.self.inside.is_paged c.self.inside.words.words c.self.invariant.none))
    ∙ ap (λ (group : PooledState). object_at group.page c.args.class c.args.slot) c.self.view_is
