use Rattle.std.proofs.Common.{◌∙◌, ap, refl}
use Rattle.groups.specs.Group.{spans_of}
use Rattle.groups.specs.Spans.{union_of}
use Rattle.groups.proofs.EmptySets.{not_empty}
use Rattle.pool.specs.State.{PooledState}
use Rattle.pool.proofs.pooled.Pooled.give_up_page.Goals as goal

pub returns-else-is_none : goal.returns-else-is_none
returns-else-is_none g c = record {
  emptied = λ none.
      absurd (not_empty c.occupied.result c.lowest.result c.lowest.ensures.lowest (c.if-is_none.ensures {u = tt})
      (c.occupied.ensures ∙ ap (λ (g : PooledState). union_of (spans_of g)) c.self.view_is ∙ none));
  live = λ live. refl;
}
