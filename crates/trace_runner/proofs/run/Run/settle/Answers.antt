use Rattle.trace_runner.proofs.Names.{on_ok_weaker, true, kept_in, no_news, news_at}
use Rattle.trace_runner.proofs.Making.{Carries-append}
use Rattle.trace_runner.proofs.Shards.{CanLeave-kept, EndsBelow-after, EndsBelow-before}
use Rattle.trace_runner.proofs.run.Run.settle.Goals as goal

pub abandon-requires-clause-leave : goal.abandon-requires-clause-leave
abandon-requires-clause-leave c = CanLeave-kept _ _ _ _ c.end_open.ensures.shards c.requires.leave

pub returns-clause-made : goal.returns-clause-made
returns-clause-made c =
    rw (c.abandon.ensures.plans, c.abandon.ensures.replies) (on_ok_weaker c.settle_rings.result
    (λ rings. Carries-append _ _ _ _ _ _ _ _ c.in_ok-end_open.ensures.made (Carries-append _ _ _ _ _ _ _ _ (c.in_ok-abandon.ensures.made _) rings))
    (rw c.abandon.ensures.trace at (c.settle_rings.ensures.made (news_at (kept_in c.end_open.new.replies) c.end_open.new.self))))

pub returns-clause-shards : goal.returns-clause-shards
returns-clause-shards c = on_ok_weaker c.settle_rings.result
    (λ rings. EndsBelow-before _ _ _ _ _
    (EndsBelow-after _ _ _ _ _ c.end_open.ensures.shards c.in_ok-abandon.ensures.shards) c.settle_rings.ensures.shards.shards)
    (c.settle_rings.ensures.made (no_news true))
