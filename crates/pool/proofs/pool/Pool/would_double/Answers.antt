use Rattle.std.proofs.Common.{subst, ◌↔◌, IsTrue}
use Rattle.std.proofs.lemmas.Bool.{false≢true}
use Rattle.groups.specs.Spans.{SpansState, all_spans}
use Rattle.pool.specs.Calls.{HasDoubled}
use Rattle.pool.proofs.Adopted.{WouldDouble-here, WouldDouble-none}
use Rattle.pool.proofs.pool.Pool.would_double.Goals as goal

pub returns-in_default-clause-doubles : goal.returns-in_default-clause-doubles
returns-in_default-clause-doubles g c = (
  (λ t. absurd (false≢true t)),
  (λ would. absurd (WouldDouble-none c.args.self.now c.args.shard.now c.args.head c.in_default.ensures.group would)),
)

pub returns-clause-doubles : goal.returns-clause-doubles
returns-clause-doubles g c =
    let found = c.in-Some.ensures.group in
    let both = subst (λ (s : SpansState). IsTrue c.is_doubled.result ↔ HasDoubled c.args.shard.now (all_spans s)) c.spans.ensures c.is_doubled.ensures in (
      (λ t. (found.0, c.in-Some.group.now, found.1, both.0 t)),
      (λ would. both.1 (WouldDouble-here c.args.self.now c.group.ensures.sound c.args.shard.now c.args.head found.0 c.in-Some.group.now found.1 would)),
    )
