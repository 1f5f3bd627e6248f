use Rattle.std.proofs.Common.{◌∙◌, ap, arith}
use Rattle.std.specs.FinSet as set
use Rattle.span.specs.Log.{live_slots, worn_slots}
use Rattle.span.specs.State.{SpanState}
use Rattle.groups.proofs.Logs.{contains-live_slots-empty, contains-worn_slots-empty}
use Rattle.store_tests.proofs.shards.span_with.Goals as goal

pub put_at-requires-clause-not_live : goal.put_at-requires-clause-not_live
put_at-requires-clause-not_live c = ap (λ (s : SpanState). set.contains (live_slots s.log) c.args.slot) c.new-span.ensures ∙ contains-live_slots-empty c.args.slot

pub put_at-requires-clause-not_worn : goal.put_at-requires-clause-not_worn
put_at-requires-clause-not_worn c = ap (λ (s : SpanState). set.contains (worn_slots s.gens s.log) c.args.slot) c.new-span.ensures ∙ contains-worn_slots-empty 2 c.args.slot (omega arith)
