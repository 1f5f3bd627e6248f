use Rattle.std.proofs.Common.{ℕ, subst, sym}
use Rattle.shard.specs.Calls.{Puts}
use Rattle.span.specs.declared.key.Key.{Key}
use Rattle.arena.proofs.arena.Arena.put_in.Goals as goal

pub returns-after-at-eq0-clause-ok : goal.returns-after-at-eq0-clause-ok
returns-after-at-eq0-clause-ok g c = subst (λ (put : Key × ℕ). Puts c.args.shard.now c.args.class c.args.words.now put.0 put.1 c.put_words.new.self)
    (sym c.new.ensures) c.in-Ok.ensures.ok
