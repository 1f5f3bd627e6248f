use Rattle.std.proofs.Common.{◌≡◌, ◌↔◌, Err, IfOk, subst}
use Rattle.shard.specs.Calls.{Puts}
use Rattle.shard.specs.declared.error.PutError.TheVariants as put_error
use Rattle.arena.specs.Sessions.{IsSpentRunning}
use Rattle.arena.proofs.session.Session.put.Goals as goal

pub returns-clause-ok : goal.returns-clause-ok
returns-clause-ok g c = subst (λ shard. IfOk c.put_in.result (λ made. Puts shard c.args.class c.args.words.now made.0 made.1 c.put_in.new.shard))
    c.deref_mut.ensures.value c.put_in.ensures.ok

pub returns-clause-spent : goal.returns-clause-spent
returns-clause-spent g c = subst (λ shard. (c.put_in.result ≡ Err put_error.PagesSpent) ↔ IsSpentRunning c.args.class shard)
    c.deref_mut.ensures.value c.put_in.ensures.spent
