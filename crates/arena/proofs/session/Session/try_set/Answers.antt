use Rattle.std.proofs.Common.{rules, IfOk, OnErr, subst}
use Rattle.groups.specs.Group.{IsElsewhere}
use Rattle.arena.specs.Sessions.{MaySetHere, SetsFirstIn}
use Rattle.arena.proofs.session.Session.try_set.Goals as goal

pub returns-in_err-set-clause-elsewhere : goal.returns-in_err-set-clause-elsewhere
returns-in_err-set-clause-elsewhere g c =
    let elsewhere : IsElsewhere c.args.self.now.shard.value.value.groups c.args.key.now.span =
    subst (λ shard. IsElsewhere shard.groups c.args.key.now.span) c.deref_mut.ensures.value c.in_err-set.ensures.elsewhere in
    search (rules, elsewhere)

pub returns-clause-told : goal.returns-clause-told
returns-clause-told g c = subst (λ shard. IfOk c.in_ok-set.set (λ told. SetsFirstIn shard c.args.key.now c.args.words.now told c.set.new.shard))
    c.deref_mut.ensures.value c.in_ok-set.ensures.told

pub returns-clause-refused : goal.returns-clause-refused
returns-clause-refused g c = subst (λ shard. OnErr c.in_ok-set.set (MaySetHere shard c.args.key.now c.args.words.now))
    c.deref_mut.ensures.value c.in_ok-set.ensures.refused
