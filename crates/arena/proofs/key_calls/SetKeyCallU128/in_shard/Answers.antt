use Rattle.std.proofs.Common.{sym, ◌∙◌}
use Rattle.std.specs.Result.{result_transpose}
use Rattle.arena.proofs.KeyCalls.{SetsIn-elsewhere, SetsIn-set}
use Rattle.arena.proofs.key_calls.SetKeyCallU128.in_shard.Goals as goal

pub returns-clause-elsewhere : goal.returns-clause-elsewhere
returns-clause-elsewhere g c = λ none.
    SetsIn-elsewhere c.args.shard.now c.set_in.new.shard c.args.self.now.key.now c.args.self.now.words.now (result_transpose c.set_in.result)
    (SetsIn-set c.args.shard.now c.set_in.new.shard c.args.self.now.key.now c.args.self.now.words.now c.set_in.result
    c.set_in.ensures.set c.set_in.ensures.refused c.set_in.ensures.err) (sym c.transpose.ensures ∙ none)
