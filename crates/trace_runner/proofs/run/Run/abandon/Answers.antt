use Rattle.trace_runner.proofs.Names.{◌≡◌, ◌∙◌, true, false, sym, arith, has}
use Rattle.trace_runner.proofs.Shards.{Carries-more, Carries-skip, EndsBelow-end, EndsBelow-skip}
use Rattle.trace_runner.proofs.run.Run.abandon.Goals as goal
use Rattle.trace_runner.proofs.run.Run.abandon.Goals.{then-contains+in_ok-end, else-contains}

pub loop-shard-preserved : goal.loop-shard-preserved
loop-shard-preserved c = elim c.if-contains.branch [
  | then-contains+in_ok-end w ↦
      let passes : has c.args.self.now.leaving c.loop-shard.shard-counter ≡ true = rw (← c.loop-shard.invariant.leaving) (sym c.contains.ensures ∙ w.if-contains.true) in
      record {
        made = λ news. rw w.self-is (Carries-more _ _ c.loop-shard.shard-counter (has c.args.self.now.leaving) news (c.loop-shard.invariant.made news) _ passes (w.in_ok-end.ensures.made news));
        plan = rw w.self-is (w.in_ok-end.ensures.plan ∙ c.loop-shard.invariant.plan);
        plans = rw w.self-is (w.end.ensures.plans ∙ c.loop-shard.invariant.plans);
        shards = rw w.self-is (EndsBelow-end _ _ c.loop-shard.shard-counter (has c.args.self.now.leaving) c.loop-shard.invariant.shards _ passes w.in_ok-end.ensures.shards);
        replies = rw w.self-is (w.end.ensures.replies ∙ c.loop-shard.invariant.replies);
        leaving = rw w.self-is (w.end.ensures.leaving ∙ c.loop-shard.invariant.leaving);
        trace = rw w.self-is (w.end.ensures.trace ∙ c.loop-shard.invariant.trace);
      }
  | else-contains w ↦
      let fails : has c.args.self.now.leaving c.loop-shard.shard-counter ≡ false = rw (← c.loop-shard.invariant.leaving) (sym c.contains.ensures ∙ w.if-contains.false) in
      record {
        made = λ news. rw w.self-is (Carries-skip _ _ c.loop-shard.shard-counter (has c.args.self.now.leaving) news (c.loop-shard.invariant.made news) fails);
        plan = rw w.self-is c.loop-shard.invariant.plan;
        plans = rw w.self-is c.loop-shard.invariant.plans;
        shards = rw w.self-is (EndsBelow-skip _ _ c.loop-shard.shard-counter (has c.args.self.now.leaving) c.loop-shard.invariant.shards fails);
        replies = rw w.self-is c.loop-shard.invariant.replies;
        leaving = rw w.self-is c.loop-shard.invariant.leaving;
        trace = rw w.self-is c.loop-shard.invariant.trace;
      }
]

pub returns-clause-made : goal.returns-clause-made
returns-clause-made c news =
    let all : c.loop-shard.shard-counter ≡ c.args.self.now.trace.now.header.shards = omega arith in
    rw (← all) (c.loop-shard.invariant.made news)
