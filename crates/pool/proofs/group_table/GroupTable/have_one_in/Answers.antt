use Rattle.std.proofs.Common.{List, subst, ◌↔◌, IsTrue}
use Rattle.pool.specs.Groups.{GroupsState}
use Rattle.pool.specs.Handover.{HaveOneIn}
use Rattle.pool.specs.State.{PooledState}
use Rattle.pool.proofs.InBoth.{HaveOneIn-in_order}
use Rattle.pool.proofs.group_table.GroupTable.have_one_in.Goals as goal

pub returns : goal.returns
returns g c =
    let row = c.self.inside.row.items in
    let others = c.args.shard.now.groups in
    subst (λ (s : GroupsState). IsTrue c.have_one_in.result ↔ HaveOneIn others s.groups) c.self.view_is
    (HaveOneIn-in_order others row c.have_one_in.result
    (subst (λ (gs : List PooledState). IsTrue c.have_one_in.result ↔ HaveOneIn others gs) c.as_slice.ensures.value c.have_one_in.ensures))
