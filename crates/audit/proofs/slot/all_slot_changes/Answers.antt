use Rattle.std.proofs.Common.{List, vec_items, length, refl, arith}
use Rattle.std.proofs.lemmas.Option.{slice_get_read}
use Rattle.span.specs.KeptLogs.{kept_changes}
use Rattle.span.specs.declared.span_log.SpanLog.{SpanLog}
use Rattle.audit.specs.declared.slot.SlotChange.{SlotChange}
use Rattle.audit.specs.Slots.{HasChanges}
use Rattle.audit.proofs.Lists.{rows_more}
use Rattle.audit.proofs.slot.all_slot_changes.Goals as goal

pub loop-log-preserved : goal.loop-log-preserved
loop-log-preserved c =
    let logs = c.args.logs.now in
    let log = c.log-item.result in
    let row = c.in_ok-slot_changes.field-0 in
    record {
      len = omega (arith, c.in_ok-push.ensures.len, c.loop-log.invariant.len);
      each = rows_more vec_items (λ (x : SpanLog) (l : List SlotChange). HasChanges (kept_changes x.log) l) logs c.loop-log.found.items log row c.loop-log.log-index
          (slice_get_read logs (length logs) c.loop-log.log-index log refl c.loop-log-test.true c.log-item.is) (omega (arith, c.loop-log.found.ok.0, c.loop-log.invariant.len))
          c.loop-log.invariant.each (c.in_ok-slot_changes.ensures {u = tt}) c.push.new.self.items c.in_ok-push.ensures.items;
    }
