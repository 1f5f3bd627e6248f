use Rattle.std.proofs.Common.{List, vec_items, sym, subst, arith, rules}
use Rattle.span.specs.KeptLogs.{kept_changes}
use Rattle.span.specs.declared.change.Change.{Change}
use Rattle.audit.specs.Slots.{IsBySlot}
use Rattle.audit.proofs.BySlot.{value_after-none}
use Rattle.audit.proofs.Lists.{row_at}
use Rattle.audit.proofs.LogTable.{log_items}
use Rattle.audit.proofs.reply.is_right_reply.Goals as goal

pub returns-then-receipt-eq0 : goal.returns-then-receipt-eq0
returns-then-receipt-eq0 c = search (rules, value_after-none)

pub returns-then-len-receipt : goal.returns-then-len-receipt
returns-then-len-receipt c = search (rules, log_items)

pub is_answered_after-requires-clause-order : goal.is_answered_after-requires-clause-order
is_answered_after-requires-clause-order c =
    let there = (c.in-Some.ensures {u = tt}).found in
    let within = (c.in-Some.ensures {u = tt}).within in
    let order = c.index-orders-j.result in
    let items = log_items c.args.logs.now c.in-Some.j c.index-logs-j.result there.0 there.1 in
    let by : IsBySlot (kept_changes there.0.log) order.items = c.requires.orders c.in-Some.j there.0 order.items there.1
    (row_at vec_items c.args.orders.now c.in-Some.j order (omega (arith, within, c.requires.len)) c.index-orders-j.is) in
    rw c.as_slice.ensures.value (subst (λ (l : List Change). IsBySlot l order.items) (sym items) by)

pub returns : goal.returns
returns c = search (rules, log_items)
