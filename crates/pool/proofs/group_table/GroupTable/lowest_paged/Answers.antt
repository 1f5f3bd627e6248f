use Rattle.std.proofs.Common.{◌∙◌, List, ap, arith, subst, MatchOption}
use Rattle.pool.specs.Calls.{HasNoPage}
use Rattle.pool.specs.Groups.{GroupsState}
use Rattle.pool.specs.Noted.{AreNoted, IsHeadOfFirstPaged}
use Rattle.pool.specs.Ranked.{in_order}
use Rattle.pool.specs.State.{PooledState}
use Rattle.pool.proofs.group_table.GroupTable.lowest_paged.Goals as goal

pub invariant_of-self : goal.invariant_of-self
invariant_of-self g c =
    let kept = c.self.invariant.kept in
    record {
      kept = record {
        found = kept.found;
        noted = subst (λ (gs : List PooledState). AreNoted gs c.lowest_paged.new.paged.ranks) c.as_slice.ensures.value c.lowest_paged.ensures.noted;
        in_row = kept.in_row;
        in_table = kept.in_table;
        in_heap = omega (arith, kept.in_heap, c.lowest_paged.ensures.fewer, c.lowest_paged.ensures.capacity);
        all_in_heap = omega (arith, kept.all_in_heap, c.lowest_paged.ensures.capacity);
      };
      few = omega (arith, c.self.invariant.few, c.lowest_paged.ensures.fewer);
      known = c.self.invariant.known;
      bytes = c.self.invariant.bytes;
      in_bytes = c.self.invariant.in_bytes;
    }

pub returns-clause-lowest : goal.returns-clause-lowest
returns-clause-lowest g c = subst (λ (gs : List PooledState). MatchOption c.lowest_paged.result (HasNoPage gs) (IsHeadOfFirstPaged gs))
    (ap in_order c.as_slice.ensures.value ∙ ap (λ (s : GroupsState). s.groups) c.self.view_is) c.lowest_paged.ensures.lowest
