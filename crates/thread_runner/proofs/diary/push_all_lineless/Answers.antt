use Rattle.thread_runner.proofs.Names.{arith, kept_receipts}
use Rattle.thread_runner.proofs.Lists.{lineless-more}
use Rattle.thread_runner.proofs.diary.push_all_lineless.Goals as goal

pub loop-i-preserved : goal.loop-i-preserved
loop-i-preserved c =
    lineless-more (kept_receipts c.args.receipts.now) c.args.first c.loop-i.i c.receipt.result c.args.replies.now.items c.loop-i.replies.items
    c.push_lineless.new.replies.items c.receipt.ensures c.loop-i.invariant c.in_ok-push_lineless.ensures

pub overflow_add-first : goal.overflow_add-first
overflow_add-first c = omega (arith, c.len.type_inv, c.len.ensures, c.requires, c.loop-i-test.true)
