use Rattle.std.proofs.Common.{ap, option_map}
use Rattle.pool.specs.Calls.{Gets}
use Rattle.arena.proofs.Elsewhere.{Gets-elsewhere}
use Rattle.arena.proofs.key_calls.GetKeyCall.in_pool.Goals as goal

pub returns-clause-elsewhere : goal.returns-clause-elsewhere
returns-clause-elsewhere g c = λ none. Gets-elsewhere _ (Gets c.args.pool.now c.args.self.now.key.now) _ (λ gets. gets) c.get_pool.ensures.got (ap (option_map (λ got. got.2)) none)
