use Rattle.std.proofs.Common.{◌≡◌, List, arith, map, refl, subst, take}
use Rattle.std.specs.List.{filter}
use Rattle.shard.specs.Sparse.{AreSparsestFirst, told_of}
use Rattle.shard.specs.State.{ShardState}
use Rattle.shard.specs.Telling.{AreSelected, is_live}
use Rattle.shard.specs.declared.shard.retiring.LiveGroup.{LiveGroup}
use Rattle.shard.proofs.KeptGroups.{IsKept-bytes}
use Rattle.shard.proofs.Selected.{AreSparsestFirst-selected}
use Rattle.shard.proofs.shard.Shard.sparsest.Goals as goal

pub first_of_groups-requires-clause-ascend : goal.first_of_groups-requires-clause-ascend
first_of_groups-requires-clause-ascend g c = c.self.invariant.sound.ascending

pub first_of_groups-requires-clause-bytes : goal.first_of_groups-requires-clause-bytes
first_of_groups-requires-clause-bytes g c = omega (arith, c.self.invariant.room_for_bytes)

-- the bytes may be others
pub invariant_of-self : goal.invariant_of-self
invariant_of-self g c =
    IsKept-bytes c.self.inside c.self.invariant c.first_of_groups.new.least (omega (arith, c.first_of_groups.ensures.len)) c.first_of_groups.ensures.known

pub returns-clause-told : goal.returns-clause-told
returns-clause-told g c =
    let groups = c.self.inside.groups.items in
    let live = filter is_live (map told_of groups) in
    let first = c.in_ok-first.first.items in
    let selected : AreSelected c.args.most live first = c.in_ok-first.ensures.first in
    subst (λ (s : ShardState). (all : List LiveGroup) × AreSparsestFirst s.groups all × (c.sort.new.told.items ≡ take c.args.most all)) c.self.view_is
    (AreSparsestFirst-selected groups live first selected.rest c.sort.new.told.items c.args.most c.self.invariant.sound.ascending
    refl selected.permutation selected.before selected.cut c.sort.ensures.permutation c.sort.ensures.order)
