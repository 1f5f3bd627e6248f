use Rattle.std.proofs.Common.{refl, arith, rules}
use Rattle.span.specs.ReceiptLists.{kept_receipts}
use Rattle.audit.specs.Agreement.{IsRightReply}
use Rattle.audit.proofs.Lists.{each_more, each_all}
use Rattle.audit.proofs.reply.list_is_right.Goals as goal

pub loop-i-preserved : goal.loop-i-preserved
loop-i-preserved c = search (rules, each_more)

pub returns : goal.returns
returns c = (
  λ so. each_all (IsRightReply c.args.logs.now) (kept_receipts c.args.list.now) c.loop-i.i c.loop-i.invariant (omega (arith, c.loop-i-test.false)),
  λ right. refl,
)
