use Rattle.trace_runner.proofs.Names.{◌++◌, ◌∷◌, [], ℕ, List, map, subst, sym, zero-add, range_with_len, map-range_with_len_more, Settle, Request, UntilNone, Drains}
use Rattle.trace_runner.proofs.Draining.{Drains-append}
use Rattle.trace_runner.proofs.Shards.{KeepsPlan-trans}
use Rattle.trace_runner.proofs.rings.settle_shard.Goals as goal

pub loop-worker-preserved : goal.loop-worker-preserved
loop-worker-preserved c =
    let ring : ℕ → Request = λ worker. UntilNone (Settle worker c.args.shard) in
    let more = map-range_with_len_more ring 0 c.loop-worker.worker c.loop-worker.worker (zero-add c.loop-worker.worker) in
    record {
      drains = subst (λ (requests : List Request). Drains requests c.args.core.now c.drain.new.core c.in_ok-count.count) (sym more)
          (subst (λ (count : ℕ). Drains (map ring (range_with_len 0 c.loop-worker.worker) ++ ring c.loop-worker.worker ∷ []) c.args.core.now c.drain.new.core count) (sym c.in_ok-count.ensures)
          (Drains-append (map ring (range_with_len 0 c.loop-worker.worker))
          (ring c.loop-worker.worker ∷ []) c.args.core.now c.loop-worker.core c.drain.new.core c.loop-worker.count c.in_ok-drained.drained
          c.loop-worker.invariant.drains c.in_ok-drained.ensures.drained));
      shards = KeepsPlan-trans _ _ _ c.loop-worker.invariant.shards c.drain.ensures.shards;
    }
