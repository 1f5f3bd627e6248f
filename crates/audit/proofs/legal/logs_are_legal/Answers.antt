use Rattle.std.proofs.Common.{refl, length}
use Rattle.std.proofs.lemmas.Option.{slice_get_read}
use Rattle.audit.specs.Agreement.{IsLegalLog}
use Rattle.audit.proofs.Lists.{each_more, each_all}
use Rattle.audit.proofs.legal.logs_are_legal.Goals as goal

pub loop-log-preserved : goal.loop-log-preserved
loop-log-preserved c =
    let log = c.log-item.result in
    let legal = c.is_legal.ensures.0 c.if-not-is_legal.false in
    each_more IsLegalLog c.args.logs.now c.loop-log.log-index log c.loop-log.invariant
    (slice_get_read c.args.logs.now (length c.args.logs.now) c.loop-log.log-index log refl c.loop-log-test.true c.log-item.is)
    (record { legal = legal.0; of_class = legal.1 })

pub returns : goal.returns
returns c = (
  λ so. each_all IsLegalLog c.args.logs.now c.loop-log.log-index c.loop-log.invariant c.loop-log-test.false,
  λ legal. refl,
)
