-- What stays where groups with no live slot give their pages back.
use Rattle.std.proofs.Common.{◌%◌, ◌/◌, ◌≡◌, ◌⊎◌, ℕ, true, ◌&&◌, List, None, not, nat_eq, is_some, eqb-true, ◌∙◌, ap, sym, subst, rules, inl, inr}
use Rattle.std.specs.Prelude.{map as map_list}
use Rattle.std.specs.FinSet.{empty, empty_of_len}
use Rattle.std.proofs.lemmas.Bool.{and_parts}
use Rattle.bitmap.specs.Slots.{SlotSet}
use Rattle.span.specs.declared.class.Class.{Class}
use Rattle.groups.specs.Group.{spans_of}
use Rattle.groups.specs.Sound.{AreSoundGroups, IsSoundGroup}
use Rattle.groups.specs.Spans.{live_count, union_of}
use Rattle.groups.proofs.FreedGroups.{IsSoundGroup-unpaged}
use Rattle.groups.proofs.LiveCounts.{len-union_of}
use Rattle.shard.specs.Group.{GroupState, HasNoRoomIn}
use Rattle.shard.specs.Rooms.{HasRooms}
use Rattle.shard.specs.Least.{IsLeast, KnowsLeast}
use Rattle.shard.specs.Trims.{changed_from, is_idle, trimmed}
use Rattle.shard.proofs.AlikeGroups.{bare}
use Rattle.shard.proofs.ChangedFrom.{length-changed_from, map-changed_from, stood}
use Rattle.shard.proofs.LeastLive.{IsLeast-trimmed}

-- the group without its page
abbrev unpaged : GroupState → GroupState
unpaged group = record group { page = None }

bare-trimmed : (group : GroupState) → bare (trimmed group) ≡ bare group
bare-trimmed group = search (rules, bare)

pub class-trimmed : (group : GroupState) → (trimmed group).head.class ≡ group.head.class
class-trimmed group = ap (λ (g : GroupState). g.head.class) (bare-trimmed group)

-- a sound group that gives its page back has no live slot
none_live : (group : GroupState) → IsSoundGroup group → is_idle group ≡ true → union_of (spans_of group) ≡ empty
none_live group sound idle =
    let open_and_none = (and_parts (is_some group.page) (not group.closed && nat_eq (live_count (spans_of group)) 0) idle).1 in
    let none = (and_parts (not group.closed) (nat_eq (live_count (spans_of group)) 0) open_and_none).1 in
    empty_of_len (union_of (spans_of group)) (len-union_of (spans_of group) sound.apart ∙ eqb-true (live_count (spans_of group)) 0 none)

IsSoundGroup-trimmed : (group : GroupState) → IsSoundGroup group → IsSoundGroup (trimmed group)
IsSoundGroup-trimmed group sound = search (rules, IsSoundGroup-unpaged, none_live)

pub map_bare-trimmed : (from most : ℕ) (groups : List GroupState) → map_list bare (changed_from trimmed from most groups) ≡ map_list bare groups
map_bare-trimmed from most groups = map-changed_from trimmed bare bare-trimmed from most groups

-- what holds of a group, and of it trimmed, holds of what stands there now
of_either : (P : GroupState → Type 0) (group now : GroupState) → (now ≡ group) ⊎ (now ≡ trimmed group) → P group → P (trimmed group) → P now
of_either P group now (inl same) was trims = subst P (sym same) was
of_either P group now (inr changed) was trims = subst P (sym changed) trims

pub AreSoundGroups-trimmed : (from most : ℕ) (groups : List GroupState) → AreSoundGroups groups → AreSoundGroups (changed_from trimmed from most groups)
AreSoundGroups-trimmed from most groups sound index group there =
    let before = stood trimmed from most groups index group there in
    let was = sound index before.0 before.1 in
    of_either IsSoundGroup before.0 group before.2 was (IsSoundGroup-trimmed before.0 was)

-- a word that takes no put takes none afterwards
HasNoRoomIn-trimmed : (slot_limit : ℕ) (class : Class) (group : GroupState) (word : ℕ) → HasNoRoomIn slot_limit class group word → HasNoRoomIn slot_limit class (trimmed group) word
HasNoRoomIn-trimmed slot_limit class group word none = search rules

pub HasRooms-trimmed : {slot_limit : ℕ} (class : Class) (from most : ℕ) (groups : List GroupState) (rooms : SlotSet) → HasRooms slot_limit class groups rooms
    → HasRooms slot_limit class (changed_from trimmed from most groups) rooms
HasRooms-trimmed {slot_limit} class from most groups rooms has = record {
  within = λ q member. rw (length-changed_from trimmed from most groups) (has.within q member);
  others = λ q other there out.
      let before = stood trimmed from most groups (q / 4) other there in
      let none = has.others q before.0 before.1 out in
      of_either (λ g. HasNoRoomIn slot_limit class g (q % 4)) before.0 other before.2 none (HasNoRoomIn-trimmed slot_limit class before.0 (q % 4) none);
  of_class = λ q other there member.
      let before = stood trimmed from most groups (q / 4) other there in
      let was = has.of_class q before.0 before.1 member in
      of_either (λ (g : GroupState). g.head.class ≡ class) before.0 other before.2 was (class-trimmed before.0 ∙ was);
}

pub KnowsLeast-trimmed : (from most : ℕ) (groups : List GroupState) (bytes : List ℕ) → KnowsLeast groups bytes → KnowsLeast (changed_from trimmed from most groups) bytes
KnowsLeast-trimmed from most groups bytes known at byte other its there =
    let before = stood trimmed from most groups at other there in
    let was = known at byte before.0 its before.1 in
    of_either (IsLeast byte) before.0 other before.2 was (IsLeast-trimmed before.0 byte was)
