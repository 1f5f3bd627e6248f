use Rattle.shard.specs.Calls.{Frees}
use Rattle.arena.proofs.Elsewhere.{Frees-elsewhere}
use Rattle.arena.proofs.key_calls.FreeKeyCallU128.in_shard.Goals as goal

pub returns-clause-elsewhere : goal.returns-clause-elsewhere
returns-clause-elsewhere g c = let key = c.args.self.now.key.now in
    Frees-elsewhere _ key (λ what. Frees c.args.shard.now key what c.free_in.new.shard) c.free_in.result (λ frees. frees.0) c.free_in.ensures.freed
