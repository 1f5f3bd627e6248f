use Rattle.std.proofs.Common.{◌≡◌, ◌≤◌, ◌+◌, ◌*◌, take, sum_by}
use Rattle.bitmap.specs.declared.bits.TheConstants.{SLOTS}
use Rattle.span.specs.declared.limits.TheConstants.{MOST_PAGES}
use Rattle.arena_core.specs.Estimate.{live_by, pages_by}
use Rattle.arena_core.proofs.machine.Core.sample.Given as goal

abbrev pub invariant-loop-shard : goal.invariant-loop-shard
invariant-loop-shard g l = record {
  pages : l.totals.pages ≡ sum_by (pages_by l.gap) (take l.shard-index l.shard-items) + l.initial.totals.pages;
  live : l.totals.live ≡ sum_by (live_by l.gap) (take l.shard-index l.shard-items) + l.initial.totals.live;
  few_pages : l.totals.pages ≤ l.initial.totals.pages + MOST_PAGES * l.shard-index;
  few_keys : l.totals.live ≤ l.initial.totals.live + SLOTS * MOST_PAGES * l.shard-index;
}
