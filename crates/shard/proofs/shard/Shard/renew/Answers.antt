use Rattle.std.proofs.Common.{arith, ◌≡◌, Some, ap, length, refl, set, subst, sym}
use Rattle.std.specs.Prelude.{map as map_list, slice_get}
use Rattle.std.proofs.lemmas.Option.{slice_get_read}
use Rattle.groups.specs.Group.{spans_of}
use Rattle.groups.specs.Sound.{AreSoundGroups}
use Rattle.groups.proofs.GuestDirectory.{HaveSameIds-same}
use Rattle.groups.proofs.Lists.{set-same}
use Rattle.shard.specs.Kept.{state_of}
use Rattle.shard.specs.Rooms.{rooms_of}
use Rattle.shard.specs.State.{ShardState}
use Rattle.shard.proofs.AlikeGroups.{IsSound-alike, bare}
use Rattle.shard.proofs.KeptGroups.{IsKept-replaced}
use Rattle.groups.proofs.KnownLeast.{KnowsLeast-set}
use Rattle.shard.specs.Least.{IsLeast}
use Rattle.shard.proofs.RoomBits.{HasRooms-full}
use Rattle.shard.proofs.shard.Shard.renew.Goals as goal

-- the group was read there
here : (g : _) (c : goal.After-self-1 g) → slice_get c.self.inside.groups.items c.args.index ≡ Some c.index_mut.result.now
here g c =
    let many = ap (λ (s : ShardState). length s.groups) c.self.view_is in
    slice_get_read c.self.inside.groups.items (length c.self.inside.groups.items) c.args.index c.index_mut.result.now refl (omega (arith, c.requires, many)) c.index_mut.ensures.value

-- and it stands there still
same : (g : _) (c : goal.After-self-1 g) → set c.self.inside.groups.items c.args.index c.index_mut.result.now ≡ c.self.inside.groups.items
same g c = set-same c.self.inside.groups.items c.args.index c.index_mut.result.now (here g c)

pub invariant_of-self : goal.invariant_of-self
invariant_of-self g c =
    let group = c.index_mut.result.now in
    IsKept-replaced c.self.inside c.self.invariant _ c.self.inside.rooms c.self.inside.least (omega arith) c.args.index group group (here g c) (HaveSameIds-same (spans_of group)) refl
    (ap (set c.self.inside.groups.items c.args.index) c.renew.ensures) refl
    (IsSound-alike (state_of c.self.inside) (set c.self.inside.groups.items c.args.index group) (ap (map_list bare) (same g c)) (subst AreSoundGroups (sym (same g c)) c.self.invariant.sound.groups) c.self.invariant.sound)
    (λ class. HasRooms-full class c.self.inside.groups.items (rooms_of c.self.inside.rooms class) (c.self.invariant.rooms class) c.args.index group group (here g c) refl (λ word none. none))
    (λ class. omega arith) (KnowsLeast-set IsLeast c.self.inside.groups.items c.self.inside.least.items c.self.invariant.least_known c.args.index group group (here g c) (λ least is. is))
