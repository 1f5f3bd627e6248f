use Rattle.std.proofs.Common.{◌≡◌, ◌<◌, ◌++◌, ◌∷◌, [], arith, ap, length, ◌+◌, ◌∙◌}
use Rattle.arena_core.specs.Made.{all_shards, new_shard_of}
use Rattle.arena_core.proofs.Made.{completed-push}
use Rattle.arena_core.proofs.machine.making.add_shards.Goals as goal

pub loop-number-preserved : goal.loop-number-preserved
loop-number-preserved g c =
    let items = c.loop-number.shards.items in
    let at : 0 + length items ≡ c.loop-number.number = omega (arith, c.loop-number.invariant.len, c.loop-number.shards.ok.0) in
    let some : length items < c.args.limits.shards = omega (arith, at, c.requires.few) in
    record {
      same = ap (all_shards c.args.limits) (c.push_reserved.ensures.items ∙ ap (λ shard. items ++ shard ∷ []) (c.new_shard.ensures ∙ ap (new_shard_of c.args.limits) (omega (arith, at))))
          ∙ completed-push 0 c.args.limits.shards (new_shard_of c.args.limits) items some ∙ c.loop-number.invariant.same;
      len = omega arith;
      room = omega arith;
    }
