use Rattle.std.proofs.Common.{◌<◌, length, rules, arith}
use Rattle.std.proofs.lemmas.List.Sums.{sum_by-le, sum_by_more_le}
use Rattle.remote_queue.specs.declared.ends.TheConstants.{MOST_KNOWN_KEYS}
use Rattle.arena.proofs.settling.total.Goals as goal

pub overflow_add-all : goal.overflow_add-all
overflow_add-all c =
    let below : c.loop-count.count-index < length c.args.counts.now = search rules in
    omega (arith, c.loop-count.invariant, sum_by_more_le (λ x. x) c.args.counts.now c.loop-count.count-index 0 below, sum_by-le (λ x. x) MOST_KNOWN_KEYS c.args.counts.now c.requires.few)
