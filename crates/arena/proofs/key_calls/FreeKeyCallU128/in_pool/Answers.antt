use Rattle.pool.specs.Calls.{Frees}
use Rattle.arena.proofs.Elsewhere.{Frees-elsewhere}
use Rattle.arena.proofs.key_calls.FreeKeyCallU128.in_pool.Goals as goal

pub returns-clause-elsewhere : goal.returns-clause-elsewhere
returns-clause-elsewhere g c = let key = c.args.self.now.key.now in
    Frees-elsewhere _ key (λ what. Frees c.args.pool.now key what c.free_pool.new.pool) c.free_pool.result (λ frees. frees.0) c.free_pool.ensures.freed
