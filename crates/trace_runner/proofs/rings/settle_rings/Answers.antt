use Rattle.trace_runner.proofs.Names.{◌≡◌, ◌∷◌, [], ℕ, List, arith, map, subst, sym, zero-add, range_with_len, map-range_with_len_more, Asked, Tends, Carries}
use Rattle.trace_runner.proofs.Draining.{Carries-tended}
use Rattle.trace_runner.proofs.Making.{Carries-append}
use Rattle.trace_runner.proofs.Shards.{KeepsPlan-trans}
use Rattle.trace_runner.proofs.rings.settle_rings.Goals as goal

pub loop-shard-preserved : goal.loop-shard-preserved
loop-shard-preserved c =
    let tends : ℕ → Asked = λ shard. Tends c.args.shards shard in
    let more = map-range_with_len_more tends 0 c.loop-shard.shard c.loop-shard.shard (zero-add c.loop-shard.shard) in
    record {
      made = λ news. subst (λ (asked : List Asked). Carries asked c.args.core.now news c.settle_shard.new.core news) (sym more)
          (Carries-append (map tends (range_with_len 0 c.loop-shard.shard))
          (tends c.loop-shard.shard ∷ []) c.args.core.now c.loop-shard.core c.settle_shard.new.core news news news (c.loop-shard.invariant.made news)
          (Carries-tended c.args.shards c.loop-shard.shard c.loop-shard.core c.settle_shard.new.core _ news c.in_ok-settle_shard.ensures.tended));
      shards = KeepsPlan-trans _ _ _ c.loop-shard.invariant.shards c.settle_shard.ensures.shards;
    }

pub returns-clause-made : goal.returns-clause-made
returns-clause-made c news =
    let all : c.loop-shard.shard ≡ c.args.shards = omega (arith, c.loop-shard-test.false, c.loop-shard.auto.shard-end) in
    subst (λ (count : ℕ). Carries (map (λ shard. Tends c.args.shards shard) (range_with_len 0 count)) c.args.core.now news c.loop-shard.core news) all (c.loop-shard.invariant.made news)
