use Rattle.std.proofs.Common.{◌≡◌, ◌≢◌, false, length, subst, sym}
use Rattle.std.proofs.lemmas.Bool.{false_from_ne_true}
use Rattle.pool.specs.Calls.{IsDoubled, IsHeadOfLowest}
use Rattle.pool.specs.State.{PoolState}
use Rattle.pool.proofs.pool.Pool.adopt.Goals as goal

pub move_to-requires-clause-lowest : goal.move_to-requires-clause-lowest
move_to-requires-clause-lowest g c = subst (λ (p : PoolState). IsHeadOfLowest p c.in-Ok.head) (sym c.adoptable.ensures.same) c.in-Ok.ensures.lowest

pub move_to-requires-clause-apart : goal.move_to-requires-clause-apart
move_to-requires-clause-apart g c doubled =
    let not_full : c.args.shard.now.page_limit ≢ length c.args.shard.now.groups = λ full. let never = c.in-Ok.ensures.spent.1 full in cc in
    let running : c.args.shard.now.ended ≡ false = false_from_ne_true c.args.shard.now.ended (λ ended. let never = c.in-Ok.ensures.ended.1 (not_full, ended) in cc) in
    let never = c.in-Ok.ensures.doubled.1 (not_full, running, subst (λ (p : PoolState). IsDoubled p c.args.shard.now) c.adoptable.ensures.same doubled) in
    cc
