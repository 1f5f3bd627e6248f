use Rattle.arena.proofs.KeptSpans.{pooled_spans-Frees}
use Rattle.arena.proofs.unlocked.free_pooled.Goals as goal

pub returns-clause-spans : goal.returns-clause-spans
returns-clause-spans c =
    let told = c.free_pool.ensures.freed in
    pooled_spans-Frees c.args.pool.now c.free_pool.new.pool c.args.key.now told.0 c.get.ensures.sound told.1
