use Rattle.trace_runner.proofs.Names.{ℕ, subst, sym}
use Rattle.trace_runner.proofs.Draining.{Drains-last, IsDraining, IsDraining-next}
use Rattle.trace_runner.proofs.Shards.{KeepsPlan-trans}
use Rattle.trace_runner.proofs.rings.drain.Goals as goal

pub loop-count-preserved : goal.loop-count-preserved
loop-count-preserved c = record {
  drains = subst (λ (count : ℕ). IsDraining c.args.worker c.args.shard c.args.core.now c.settle_next.new.core count) (sym c.in_ok-count.ensures)
      (IsDraining-next c.args.worker c.args.shard c.args.core.now c.loop-count.core c.settle_next.new.core c.loop-count.count c.loop-count.invariant.drains c.loop-count-test.ensures.settled);
  shards = KeepsPlan-trans _ _ _ c.loop-count.invariant.shards c.settle_next.ensures.shards;
}

pub returns-clause-drained : goal.returns-clause-drained
returns-clause-drained c = Drains-last c.args.worker c.args.shard c.args.core.now c.loop-count.core c.settle_next.new.core c.loop-count.count
    c.loop-count.invariant.drains c.loop-count-test.ensures.settled
