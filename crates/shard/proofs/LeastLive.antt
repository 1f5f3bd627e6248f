-- For which groups a byte stays right that tells how many slots are live at the least.
use Rattle.std.proofs.Common.{zero, suc, ◌≡◌, ℕ, ◌+◌, ◌<◌, ◌≤◌, ◌∙◌, List, Some, ap, arith, cond, false, insert, length, refl, rules, set, slice_get, sym}
use Rattle.std.specs.FinSet.{contains, len, len-insert, union}
use Rattle.std.specs.FinSet as fin
use Rattle.std.specs.Cmp.{nat_cmp_total}
use Rattle.bitmap.specs.Slots.{SlotSet}
use Rattle.span.specs.Log.{Holds, Value, live_slots, puts_of}
use Rattle.span.specs.State.{SpanState}
use Rattle.span.specs.declared.class.Class.{Class}
use Rattle.span.proofs.Slots.{live_slots-put}
use Rattle.groups.specs.Dead.{without_dead}
use Rattle.groups.specs.Group.{occupied, spans_of}
use Rattle.groups.specs.Pages.{put_group, set_group}
use Rattle.groups.specs.Sound.{IsSoundGroup}
use Rattle.groups.specs.Spans.{union_of, with_set_at}
use Rattle.groups.proofs.DeadGuests.{union_of-live}
use Rattle.groups.proofs.Standing.{spans_of-with_span}
use Rattle.groups.proofs.Unions.{keep_held, union-insert}
use Rattle.shard.specs.Closes.{opened_group}
use Rattle.shard.specs.Group.{GroupState}
use Rattle.groups.specs.Least.{HaveLeast, least_of}
use Rattle.groups.proofs.Lists.{there_at}
use Rattle.shard.specs.Least.{IsLeast, KnowsLeast}
use Rattle.shard.specs.Trims.{trimmed}

-- the byte 0 is right for each group
pub IsLeast-zero : (group : GroupState) → IsLeast 0 group
IsLeast-zero group some = absurd (omega (arith, some))

-- a byte stays right if the group is as open, and no fewer of its slots are live
pub IsLeast-more : (least : ℕ) (group now : GroupState) → now.closed ≡ group.closed → len (occupied group) ≤ len (occupied now) → IsLeast least group → IsLeast least now
IsLeast-more least group now same more is some = let had = is some in (same ∙ had.0, omega (arith, had.1, more))

-- a put makes one slot more live
len-insert_more : (s : SlotSet) (slot : ℕ) → len s ≤ len (fin.insert s slot)
len-insert_more s slot = by_test (contains s slot) (len s) (len (fin.insert s slot)) (len-insert nat_cmp_total s slot)
  where
    by_test : (b : _) (before after : ℕ) → after ≡ cond b before (before + 1) → before ≤ after
    by_test b before after is = search rules

pub IsLeast-put : (group : GroupState) (class : Class) (slot : ℕ) (value : Value) (least : ℕ) → IsLeast least group → IsLeast least (put_group group class slot value)
IsLeast-put group class slot value least is =
    let now : occupied (put_group group class slot value) ≡ fin.insert (occupied group) slot =
    ap (λ s. union s (union_of group.guests)) (live_slots-put group.head.log slot (puts_of slot group.head.log + 1) value)
    ∙ union-insert (live_slots group.head.log) (union_of group.guests) slot in
    IsLeast-more least group (put_group group class slot value) refl (omega (arith, len-insert_more (occupied group) slot, ap len now)) is

-- a set makes none live, and none free
pub IsLeast-set : (group : GroupState) → IsSoundGroup group → (place : ℕ) (span : SpanState) → slice_get (spans_of group) place ≡ Some span
    → (slot generation : ℕ) (value : Value) → Holds span.log slot generation → (least : ℕ) → IsLeast least group
    → IsLeast least (set_group group place span slot generation value)
IsLeast-set group sound place span there slot generation value holds least is =
    let changed = with_set_at span slot generation value in
    let now = ap union_of (spans_of-with_span group place changed) ∙ (keep_held (spans_of group) place span slot generation value there holds sound.apart).0 in
    IsLeast-more least group (set_group group place span slot generation value) (closed_same place) (omega (arith, ap len now)) is
  where
    closed_same : (at : ℕ) → (set_group group at span slot generation value).closed ≡ group.closed
    closed_same zero = refl
    closed_same (suc at) = refl

-- a page that goes leaves all slots as they are
pub IsLeast-trimmed : (group : GroupState) (least : ℕ) → IsLeast least group → IsLeast least (trimmed group)
IsLeast-trimmed group least is = search (rules)

-- a guest with no live slot adds none
pub IsLeast-without_dead : (group : GroupState) (least : ℕ) → IsLeast least group → IsLeast least (without_dead group)
IsLeast-without_dead group least is =
    IsLeast-more least group (without_dead group) refl (omega (arith, ap (λ s. len (union (live_slots group.head.log) s)) (union_of-live group.guests))) is

-- a group that is open is as it is when it is opened
pub opened_same : (group : GroupState) → group.closed ≡ false → opened_group group ≡ group
opened_same group is_open i = record group { closed = sym is_open i }

-- where the bytes say of some live slots, the groups are open
pub open_between : (groups : List GroupState) (bytes : List ℕ) → KnowsLeast groups bytes → (first end : ℕ) → HaveLeast bytes 1 first end → end ≤ length bytes
    → (at : ℕ) (group : GroupState) → first ≤ at → at < end → slice_get groups at ≡ Some group → group.closed ≡ false
open_between groups bytes known first end passed long at group from low here =
    let (byte, there) = there_at bytes at (omega (arith, low, long)) in
    (known at byte group there here (some byte (passed at byte from low there))).0
  where
    some : (byte : ℕ) → 1 ≤ least_of byte → 0 < byte
    some zero least = absurd (omega (arith, least))
    some (suc byte) least = omega arith
