-- What a shard keeps if some of its groups with no live slot give their pages back.
use Rattle.std.proofs.Common.{◌≡◌, ℕ, ap, arith, ◌∙◌}
use Rattle.std.specs.Prelude.{map as map_list}
use Rattle.groups.specs.Sound.{AreSoundGroups}
use Rattle.shard.specs.Kept.{IsKept, state_of}
use Rattle.shard.specs.Rooms.{rooms_of}
use Rattle.shard.specs.Row.{RowState}
use Rattle.shard.specs.Shown.{shown}
use Rattle.shard.specs.Trims.{changed_from, trimmed}
use Rattle.shard.specs.declared.shard.Shard.TheInside.{Inside}
use Rattle.shard.proofs.AlikeGroups.{bare, shown-alike}
use Rattle.shard.proofs.KeptGroups.{IsKept-alike}
use Rattle.shard.proofs.Trimmed.{AreSoundGroups-trimmed, HasRooms-trimmed, KnowsLeast-trimmed, map_bare-trimmed}

module _ {L : Type 0} (s : Inside L) (kept : IsKept s) (from count : ℕ) (groups : RowState) (items : groups.items ≡ changed_from trimmed from count s.groups.items) where
  -- only pages go
  pages : map_list bare groups.items ≡ map_list bare s.groups.items
  pages = ap (map_list bare) items ∙ map_bare-trimmed from count s.groups.items

  sound_now : AreSoundGroups groups.items
  sound_now = rw items (AreSoundGroups-trimmed from count s.groups.items kept.sound.groups)

  pub IsKept-trimmed : groups.room ≡ s.groups.room → IsKept (record s { groups = groups })
  IsKept-trimmed room =
      IsKept-alike s kept groups s.rooms s.least (omega arith) pages (omega (arith, room)) sound_now
      (λ class. rw items (HasRooms-trimmed class from count s.groups.items (rooms_of s.rooms class) (kept.rooms class)))
      (λ class. omega arith)
      (rw items (KnowsLeast-trimmed from count s.groups.items s.least.items kept.least_known))

  pub shown-trimmed : shown (record (state_of s) { groups = groups.items }) ≡ shown (state_of s)
  shown-trimmed = shown-alike (state_of s) groups.items pages sound_now kept.sound
