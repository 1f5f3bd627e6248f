use Rattle.std.proofs.Common.{◌∙◌, ap, arith, length}
use Rattle.groups.proofs.SpanCounts.{at_most_ids}
use Rattle.pool.specs.State.{PoolState}
use Rattle.groups.specs.Group.{spans_in}
use Rattle.pool.proofs.stock.Stock.span_count.Goals as goal

pub span_count-requires : goal.span_count-requires
span_count-requires g c = at_most_ids (spans_in c.self.inside.groups.groups) c.self.invariant.sound.once

pub returns-clause-count : goal.returns-clause-count
returns-clause-count g c = c.span_count.ensures ∙ ap (λ (p : PoolState). length (spans_in p.groups)) c.self.view_is

pub returns-clause-at_most : goal.returns-clause-at_most
returns-clause-at_most g c = let most = at_most_ids (spans_in c.self.inside.groups.groups) c.self.invariant.sound.once in omega (arith, c.span_count.ensures)
