use Rattle.std.proofs.Common.{sym, ◌∙◌}
use Rattle.std.specs.Result.{result_transpose}
use Rattle.arena.proofs.KeyCalls.{SetsInPool-elsewhere, SetsInPool-set}
use Rattle.arena.proofs.key_calls.SetKeyCallU128.in_pool.Goals as goal

pub returns-clause-elsewhere : goal.returns-clause-elsewhere
returns-clause-elsewhere g c = λ none.
    SetsInPool-elsewhere c.args.pool.now c.set_pool.new.pool c.args.self.now.key.now c.args.self.now.words.now (result_transpose c.set_pool.result)
    (SetsInPool-set c.args.pool.now c.set_pool.new.pool c.args.self.now.key.now c.args.self.now.words.now c.set_pool.result
    c.set_pool.ensures.set c.set_pool.ensures.refused c.set_pool.ensures.err) (sym c.transpose.ensures ∙ none)
