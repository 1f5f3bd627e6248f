use Rattle.std.proofs.Common.{◌<◌, length, rules, arith}
use Rattle.arena.proofs.KeptSpans.{spans_of_all-Frees}
use Rattle.arena.proofs.unlocked.free_among.Goals as goal

pub returns-in-Some-clause-spans : goal.returns-in-Some-clause-spans
returns-in-Some-clause-spans c =
    let told = c.free_in.ensures.freed in
    let below : c.loop-number.number < length c.loop-number.shards = search rules in
    omega (arith, c.loop-number.invariant.spans, spans_of_all-Frees c.loop-number.shards c.loop-number.number c.index-shards-number.result c.free_in.new.shard c.args.key.now told.0 below told.1)
