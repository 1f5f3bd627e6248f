use Rattle.std.proofs.Common.{List, subst}
use Rattle.span.specs.Ids.{rank}
use Rattle.groups.specs.FirstLive.{IsFirstAmong}
use Rattle.groups.specs.Group.{spans_in}
use Rattle.groups.proofs.FirstLive.{IsFirstAmong-permutation}
use Rattle.pool.specs.Groups.{GroupsState}
use Rattle.pool.specs.Ranked.{in_order}
use Rattle.pool.specs.State.{PooledState}
use Rattle.pool.proofs.Walked.{IsPermutation-spans}
use Rattle.pool.proofs.group_table.GroupTable.first_live.Goals as goal

pub returns : goal.returns
returns g c =
    let row = c.self.inside.row.items in
    subst (λ (s : GroupsState). IsFirstAmong (spans_in s.groups) (rank c.args.from) c.first_live.result) c.self.view_is
    (IsFirstAmong-permutation (spans_in row) (spans_in (in_order row)) (rank c.args.from) c.first_live.result (IsPermutation-spans row)
    (subst (λ (gs : List PooledState). IsFirstAmong (spans_in gs) (rank c.args.from) c.first_live.result) c.as_slice.ensures.value c.first_live.ensures))
