use Rattle.std.proofs.Common.{List, vec_items, length, refl, arith}
use Rattle.std.proofs.lemmas.Option.{slice_get_read}
use Rattle.span.specs.KeptLogs.{kept_changes}
use Rattle.span.specs.declared.span_log.SpanLog.{SpanLog}
use Rattle.audit.specs.declared.slot.SlotChange.{SlotChange}
use Rattle.audit.specs.Slots.{IsBySlot}
use Rattle.audit.proofs.Lists.{rows_more}
use Rattle.audit.proofs.slot.all_by_slot.Goals as goal

pub loop-log-preserved : goal.loop-log-preserved
loop-log-preserved c =
    let logs = c.args.logs.now in
    let log = c.log-item.result in
    let row = c.in_ok-by_slot.field-0 in
    record {
      len = omega (arith, c.in_ok-push.ensures.len, c.loop-log.invariant.len);
      each = rows_more vec_items (λ (x : SpanLog) (l : List SlotChange). IsBySlot (kept_changes x.log) l) logs c.loop-log.orders.items log row c.loop-log.log-index
          (slice_get_read logs (length logs) c.loop-log.log-index log refl c.loop-log-test.true c.log-item.is) (omega (arith, c.loop-log.orders.ok.0, c.loop-log.invariant.len))
          c.loop-log.invariant.each (c.in_ok-by_slot.ensures {u = tt}) c.push.new.self.items c.in_ok-push.ensures.items;
    }
