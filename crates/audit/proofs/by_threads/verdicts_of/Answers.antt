use Rattle.std.proofs.Common.{map, arith}
use Rattle.span.specs.ReceiptLists.{kept_receipts}
use Rattle.audit.specs.declared.verdict.Verdict.TheVariants as verdict
use Rattle.audit.specs.Tables.{full_row}
use Rattle.audit.proofs.Judging.{AreVerdicts-each}
use Rattle.audit.proofs.by_threads.verdicts_of.Goals as goal

pub returns : goal.returns
returns g c = AreVerdicts-each kept_receipts c.args.lists.now c.args.records.now.logs.now (map full_row c.args.records.now.sections.now) c.in_ok-verdicts.verdicts.items
    (let len = (c.in_ok-verdicts.ensures {u = tt}).len in omega (arith, c.in_ok-verdicts.verdicts.ok.0))
    (λ w less. ((c.in_ok-verdicts.ensures {u = tt}).each w verdict.OutOfMemory less).1.met)
