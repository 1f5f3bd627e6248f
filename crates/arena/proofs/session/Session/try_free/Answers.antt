use Rattle.std.proofs.Common.{rules, subst}
use Rattle.groups.specs.Group.{IsElsewhere}
use Rattle.arena.proofs.session.Session.try_free.Goals as goal

pub returns-in_err-freed-clause-elsewhere : goal.returns-in_err-freed-clause-elsewhere
returns-in_err-freed-clause-elsewhere g c =
    let elsewhere : IsElsewhere c.args.self.now.shard.value.value.groups c.args.key.now.span =
    subst (λ shard. IsElsewhere shard.groups c.args.key.now.span) c.deref_mut.ensures.value c.in_err-freed.ensures.elsewhere in
    search (rules, elsewhere)
