-- What an event that is no fold does to the groups that an open plan names: each stays, and none grows.
use Rattle.std.proofs.Common.{◌≡◌, ◌≢◌, ℕ, zero, suc, Bool, true, false, ◌||◌, List, [], ◌∷◌, ◌⊎◌, inl, inr, refl, sym, ap, ◌∙◌, Option, Some, None, is_some, set, slice_get, IsSome}
use Rattle.std.specs.FinSet.{contains, contains-union}
use Rattle.std.specs.Cmp.{nat_cmp_total}
use Rattle.std.proofs.Math.Bool.{or-true}
use Rattle.std.proofs.lemmas.Bool.{cases_eq, or_cases, or_left, or_right}
use Rattle.bitmap.specs.Slots.{SlotSet, AreDisjoint}
use Rattle.bitmap.specs.Operations.{AreDisjoint-at, AreDisjoint-by_slot}
use Rattle.span.specs.declared.id.SpanId.{SpanId}
use Rattle.span.specs.declared.key.Key.{Key}
use Rattle.span.specs.Ids.{same_span}
use Rattle.span.specs.Classes.{class_of}
use Rattle.span.specs.Log.{Value, live_slots}
use Rattle.span.specs.State.{SpanState}
use Rattle.shard.specs.Calls.{Puts}
use Rattle.shard.specs.Group.{GroupState}
use Rattle.groups.specs.Group.{occupied, spans_of, with_span}
use Rattle.groups.specs.Spans.{IsSpanAt, union_of}
use Rattle.groups.specs.Whole.{WholeState}
use Rattle.shard.specs.State.{ShardState}
use Rattle.groups.proofs.Lists.{after-insert, after-set, same_some}
use Rattle.groups.proofs.Standing.{page-with_span, spans_of-with_span}
use Rattle.page.specs.Words.{Words}
use Rattle.groups.specs.Pages.{put_group}
use Rattle.pool.specs.Calls.{Receives, TakesAll, TakesIn, with_rooms}
use Rattle.pool.specs.State.{PoolState, PooledState}
use Rattle.arena_core.specs.Plan.{IsCarriedOut, IsOwned, IsAbandoned, IsUnderWay, IsWaiting}
use Rattle.marks.specs.Plans.{plans_onto, OpenPlan}
use Rattle.arena_core.specs.State.{CoreState}
use Rattle.marks.proofs.Lists.{slice_get-set_other}
use Rattle.arena_core.proofs.OneSpan.{ChangesPooled, ChangesSpan, IsSame, IsWithin}
use Rattle.arena_core.proofs.Spans.{same_span-self}

-- sets of slots

pub AreDisjoint-within : (a a_now b b_now : SlotSet) → IsWithin a_now a → IsWithin b_now b → AreDisjoint a b → AreDisjoint a_now b_now
AreDisjoint-within a a_now b b_now less_a less_b apart = AreDisjoint-by_slot a_now b_now (λ q in_a in_b. AreDisjoint-at a b apart q (less_a q in_a) (less_b q in_b))

either_still : (a b c d : Bool) → (a ≡ true → b ≡ true) → (c ≡ true → d ≡ true) → (a || c) ≡ true → (b || d) ≡ true
either_still a b c d first second some = elim (or_cases a c some) [ inl left ↦ or_left b d (first left) | inr right ↦ or_right b d (second right) ]

-- a span that loses slots makes the union lose slots
union_of-fewer : (spans : List SpanState) (place : ℕ) (span now : SpanState) → slice_get spans place ≡ Some span
    → IsWithin (live_slots now.log) (live_slots span.log) → IsWithin (union_of (set spans place now)) (union_of spans)
union_of-fewer [] place span now here fewer slot live = absurd cc
union_of-fewer (first ∷ spans) zero span now here fewer slot live =
    let same : first ≡ span = same_some here in
    contains-union nat_cmp_total (live_slots first.log) (union_of spans) slot
    ∙ either_still (contains (live_slots now.log) slot) (contains (live_slots first.log) slot) (contains (union_of spans) slot) (contains (union_of spans) slot)
    (λ e. ap (λ (s : SpanState). contains (live_slots s.log) slot) same ∙ fewer slot e) (λ e. e)
    (sym (contains-union nat_cmp_total (live_slots now.log) (union_of spans) slot) ∙ live)
union_of-fewer (first ∷ spans) (suc place) span now here fewer slot live =
    contains-union nat_cmp_total (live_slots first.log) (union_of spans) slot
    ∙ either_still (contains (live_slots first.log) slot) (contains (live_slots first.log) slot) (contains (union_of (set spans place now)) slot) (contains (union_of spans) slot)
    (λ e. e) (union_of-fewer spans place span now here fewer slot)
    (sym (contains-union nat_cmp_total (live_slots first.log) (union_of (set spans place now)) slot) ∙ live)

-- the groups that a plan names

-- the group of the pool is of its class still, and has no more slots, and no page if it had none
abbrev pub IsLess : PooledState → PooledState → Type 0
IsLess group now = (now.head.id ≡ group.head.id) × (now.head.class ≡ group.head.class) × IsWithin (union_of (spans_of now)) (union_of (spans_of group)) × (group.page ≡ None → now.page ≡ None)

pub IsLess-same : (group : PooledState) → IsLess group group
IsLess-same group = (refl, refl, (λ slot e. e), λ none. none)

-- every group of the pool stays, of its class, none grows, and none without a page gets one
abbrev pub KeepsPooled : List PooledState → List PooledState → Type 0
KeepsPooled old new = (index : ℕ) (group : PooledState) → slice_get old index ≡ Some group → (place : ℕ) × (now : PooledState) × (slice_get new place ≡ Some now) × IsLess group now

-- the group is as it was, save that it may have lost slots
pub record IsFewer (group now : GroupState) : Type 0 where
  pub head_is : now.head.id ≡ group.head.id
  pub class_is : now.head.class ≡ group.head.class
  pub slots : IsWithin (occupied now) (occupied group)
  pub guests : (id : SpanId) (place : ℕ) → IsSpanAt group.guests id place → IsSpanAt now.guests id place
  pub closed_is : now.closed ≡ group.closed
  pub paged : IsSome group.page → IsSome now.page

pub IsFewer-same : (group : GroupState) → IsFewer group group
IsFewer-same group = record { head_is = refl; class_is = refl; slots = λ slot e. e; guests = λ id place e. e; closed_is = refl; paged = λ some. some }

-- every closed group stays, and none grows
abbrev pub KeepsClosed : List GroupState → List GroupState → Type 0
KeepsClosed old new = (index : ℕ) (group : GroupState) → slice_get old index ≡ Some group → group.closed ≡ true
    → (place : ℕ) × (now : GroupState) × (slice_get new place ≡ Some now) × IsFewer group now

-- every closed group of every shard stays, and none grows
abbrev pub KeepsAllClosed : List ShardState → List ShardState → Type 0
KeepsAllClosed old new = (number : ℕ) (shard : ShardState) → slice_get old number ≡ Some shard → (now : ShardState) × (slice_get new number ≡ Some now) × KeepsClosed shard.groups now.groups

pub KeepsClosed-same : (groups : List GroupState) → KeepsClosed groups groups
KeepsClosed-same groups index group here closed = (index, group, here, IsFewer-same group)

pub KeepsAllClosed-same : (shards : List ShardState) → KeepsAllClosed shards shards
KeepsAllClosed-same shards number shard here = (shard, here, KeepsClosed-same shard.groups)

pub KeepsAllClosed-set : (shards : List ShardState) (number : ℕ) (before after : ShardState) → slice_get shards number ≡ Some before
    → KeepsClosed before.groups after.groups → KeepsAllClosed shards (set shards number after)
KeepsAllClosed-set shards number before after here keeps other shard there =
    after-set (λ (a b : ShardState). KeepsClosed a.groups b.groups) (λ s. KeepsClosed-same s.groups) shards number before after here keeps other shard there

pub KeepsPooled-same : (groups : List PooledState) → KeepsPooled groups groups
KeepsPooled-same groups index group here = (index, group, here, IsLess-same group)

-- a pair of the plan folds onto its owned group
pub plans_onto-pair : (pairs : List (SpanId × SpanId)) (k : ℕ) (pair : SpanId × SpanId) → slice_get pairs k ≡ Some pair → plans_onto pairs pair.1 ≡ true
plans_onto-pair [] k pair here = absurd cc
plans_onto-pair (first ∷ pairs) zero pair here =
    let same : first ≡ pair = same_some here in
    ap (λ b. b || plans_onto pairs pair.1) (ap (λ (p : SpanId × SpanId). same_span p.1 pair.1) same ∙ same_span-self pair.1)
plans_onto-pair (first ∷ pairs) (suc k) pair here = ap (λ b. same_span first.1 pair.1 || b) (plans_onto-pair pairs k pair here) ∙ or-true (same_span first.1 pair.1)

-- the plan goes on
module _ (old new : CoreState) (pooled : KeepsPooled old.pool.groups new.pool.groups) (owned : KeepsAllClosed old.shards new.shards) where
  IsAbandoned-kept : (head : SpanId) (group : PooledState) → IsAbandoned old head group
      → (now : PooledState) × IsAbandoned new head now × (now.head.class ≡ group.head.class) × IsWithin (union_of (spans_of now)) (union_of (spans_of group))
      × (group.page ≡ None → now.page ≡ None)
  IsAbandoned-kept head group is =
      let (place, now, there, (head_is, class_is, fewer, no_page)) = pooled is.index group is.head_of.here in
      (now, record { index = place; head_of = record { here = there; head_is = head_is ∙ is.head_of.head_is } }, class_is, fewer, no_page)

  IsOwned-kept : (head : SpanId) (group : GroupState) → IsOwned old head group → group.closed ≡ true → (now : GroupState) × IsOwned new head now × IsFewer group now
  IsOwned-kept head group is closed =
      let (shard, at, keeps) = owned is.number is.shard is.shard_is in
      let (place, now, there, fewer) = keeps is.index group is.head_of.here closed in
      (now, record { number = is.number; shard = shard; index = place; shard_is = at; head_of = record { here = there; head_is = fewer.head_is ∙ is.head_of.head_is } }, fewer)

  module _ (plan : OpenPlan) (closed : (k : ℕ) (pair : SpanId × SpanId) → slice_get plan.pairs k ≡ Some pair → (group : GroupState) → IsOwned old pair.1 group → group.closed ≡ true) where
    IsWaiting-kept : (k : ℕ) (pair : SpanId × SpanId) → slice_get plan.pairs k ≡ Some pair → IsWaiting old pair → IsWaiting new pair
    IsWaiting-kept k pair at waits =
        let (a, a_is, class_a, fewer_a, no_page) = IsAbandoned-kept pair.0 waits.abandoned waits.is_abandoned in
        let (b, b_is, fewer_b) = IsOwned-kept pair.1 waits.owned waits.is_owned (closed k pair at waits.owned waits.is_owned) in
        record {
          abandoned = a;
          owned = b;
          is_abandoned = a_is;
          is_owned = b_is;
          paged = fewer_b.paged waits.paged;
          class_is = class_a ∙ waits.class_is ∙ sym fewer_b.class_is;
          apart = AreDisjoint-within (union_of (spans_of waits.abandoned)) (union_of (spans_of a)) (occupied waits.owned) (occupied b) fewer_a fewer_b.slots waits.apart;
        }

    IsCarriedOut-kept : (k : ℕ) (pair : SpanId × SpanId) → slice_get plan.pairs k ≡ Some pair → IsCarriedOut old pair → IsCarriedOut new pair
    IsCarriedOut-kept k pair at (inl guest) =
        let (b, b_is, fewer_b) = IsOwned-kept pair.1 guest.owned guest.is_owned (closed k pair at guest.owned guest.is_owned) in
        inl (record { owned = b; place = guest.place; is_owned = b_is; guest = fewer_b.guests pair.0 guest.place guest.guest })
    IsCarriedOut-kept k pair at (inr emptied) =
        let (a, a_is, class_a, fewer_a, no_page) = IsAbandoned-kept pair.0 emptied.abandoned emptied.is_abandoned in
        inr (record { abandoned = a; is_abandoned = a_is; no_page = no_page emptied.no_page })

    pub IsUnderWay-kept : IsUnderWay old plan → IsUnderWay new plan
    IsUnderWay-kept under = record {
      within = under.within;
      abandoned_once = under.abandoned_once;
      owned_once = under.owned_once;
      stands = λ k pair at.
          let (group, is) = under.stands k pair at in
          let (now, now_is, fewer) = IsOwned-kept pair.1 group is (closed k pair at group is) in
          (now, now_is);
      carried_out = λ k pair done at. IsCarriedOut-kept k pair at (under.carried_out k pair done at);
      waiting = λ k pair left at. IsWaiting-kept k pair at (under.waiting k pair left at);
    }

-- what each event keeps

pub KeepsClosed-Puts : (before after : ShardState) (value : Value) (key : Key) (at : ℕ) → Puts before (class_of value) value key at after → KeepsClosed before.groups after.groups
KeepsClosed-Puts before after value key at (running, inl (index, group, room, span_is, generation_is, at_is, after_is)) other there here closed = by_place (cases_eq other index)
  where
    groups_are : after.groups ≡ set before.groups index (put_group group (class_of value) key.slot value)
    groups_are = ap (λ (s : ShardState). s.groups) after_is

    by_place : (other ≡ index) ⊎ (other ≢ index) → (place : ℕ) × (now : GroupState) × (slice_get after.groups place ≡ Some now) × IsFewer there now
    by_place (inl same) =
        let is : group ≡ there = same_some (sym room.here ∙ ap (slice_get before.groups) (sym same) ∙ here) in
        absurd (let both : true ≡ false = sym closed ∙ ap (λ (g : GroupState). g.closed) (sym is) ∙ room.slot_is.is_open in cc)
    by_place (inr differ) = (other, there, ap (λ gs. slice_get gs other) groups_are ∙ slice_get-set_other before.groups index other _ differ ∙ here, IsFewer-same there)
KeepsClosed-Puts before after value key at (running, inr (full, pages, spans, (shard_is, serial_is, slot_is, generation_is, at_is, (index, place, after_is)))) other there here closed =
    let (now, moved) = after-insert before.groups index _ other there here in
    (now, there, ap (λ (s : ShardState). slice_get s.groups now) after_is ∙ moved, IsFewer-same there)

guests-with_span : (group : GroupState) (place : ℕ) (span now : SpanState) → slice_get (spans_of group) place ≡ Some span → now.id ≡ span.id
    → (id : SpanId) (other : ℕ) → IsSpanAt group.guests id other → IsSpanAt (with_span group place now).guests id other
guests-with_span group zero span now here same id other at = at
guests-with_span group (suc place) span now here same id other (guest, there, is) =
    let (after, at_now, id_is) = after-set (λ (a b : SpanState). b.id ≡ a.id) (λ s. refl) group.guests place span now here same other guest there in
    (after, at_now, id_is ∙ is)

part-with_span : {T : Type 0} (part : SpanState → T) (group : GroupState) (place : ℕ) (span now : SpanState) → slice_get (spans_of group) place ≡ Some span → part now ≡ part span
    → part (with_span group place now).head ≡ part group.head
part-with_span part group zero span now here same = let is : group.head ≡ span = same_some here in same ∙ ap part (sym is)
part-with_span part group (suc place) span now here same = refl

closed-with_span : (group : GroupState) (place : ℕ) (now : SpanState) → (with_span group place now).closed ≡ group.closed
closed-with_span group zero now = refl
closed-with_span group (suc place) now = refl

pub IsFewer-with_span : (group : GroupState) (place : ℕ) (span now : SpanState) → slice_get (spans_of group) place ≡ Some span → IsSame span now → IsFewer group (with_span group place now)
IsFewer-with_span group place span now here same = record {
  head_is = part-with_span (λ (s : SpanState). s.id) group place span now here same.id_is;
  class_is = part-with_span (λ (s : SpanState). s.class) group place span now here same.class_is;
  slots = λ slot live. union_of-fewer (spans_of group) place span now here same.slots slot (ap (λ spans. contains (union_of spans) slot) (sym (spans_of-with_span group place now)) ∙ live);
  guests = guests-with_span group place span now here same.id_is;
  closed_is = closed-with_span group place now;
  paged = λ some. ap is_some (page-with_span group place now) ∙ some;
}

-- what is on the page is nothing to it
pub IsFewer-paged : (group now : GroupState) (page : Option Words) → (IsSome group.page → IsSome page) → IsFewer group now → IsFewer group (record now { page = page })
IsFewer-paged group now page still fewer = record { head_is = fewer.head_is; class_is = fewer.class_is; slots = fewer.slots; guests = fewer.guests; closed_is = fewer.closed_is; paged = still }

pub KeepsClosed-ChangesSpan : (before after : ShardState) → ChangesSpan before after → KeepsClosed before.groups after.groups
KeepsClosed-ChangesSpan before after changes other there at_other closed =
    let fewer = IsFewer-paged changes.group (with_span changes.group changes.place changes.now) changes.page changes.still_paged
    (IsFewer-with_span changes.group changes.place changes.span changes.now changes.span_is changes.same) in
    let (now, there_now, is) = after-set IsFewer IsFewer-same before.groups changes.index changes.group
    (record (with_span changes.group changes.place changes.now) { page = changes.page }) changes.group_is fewer other there at_other in
    (other, now, ap (λ (s : ShardState). slice_get s.groups other) changes.after_is ∙ there_now, is)

-- the pool

pooled_part : {T : Type 0} (part : SpanState → T) (now group : PooledState) (place : ℕ) (span after : SpanState) → slice_get (spans_of group) place ≡ Some span → part after ≡ part span
    → spans_of now ≡ set (spans_of group) place after → part now.head ≡ part group.head
pooled_part part now group zero span after here same is =
    let first : group.head ≡ span = same_some here in
    let head : now.head ≡ after = same_some (ap (λ spans. slice_get spans 0) is) in
    ap part head ∙ same ∙ ap part (sym first)
pooled_part part now group (suc place) span after here same is = let head : now.head ≡ group.head = same_some (ap (λ spans. slice_get spans 0) is) in ap part head

pub KeepsPooled-ChangesPooled : (before after : PoolState) → ChangesPooled before after → KeepsPooled before.groups after.groups
KeepsPooled-ChangesPooled before after changes other there at_other =
    let less : IsLess changes.group changes.group_now = (
      pooled_part (λ (s : SpanState). s.id) changes.group_now changes.group changes.place changes.span changes.now changes.span_is changes.same.id_is changes.spans_are,
      pooled_part (λ (s : SpanState). s.class) changes.group_now changes.group changes.place changes.span changes.now changes.span_is changes.same.class_is changes.spans_are,
      (λ slot live. union_of-fewer (spans_of changes.group) changes.place changes.span changes.now changes.span_is changes.same.slots slot
          (ap (λ spans. contains (union_of spans) slot) (sym changes.spans_are) ∙ live)),
      changes.no_page,
    ) in
    let (now, there_now, is) = after-set IsLess IsLess-same before.groups changes.index changes.group changes.group_now changes.group_is less other there at_other in
    (other, now, ap (λ gs. slice_get gs other) changes.groups_are ∙ there_now, is)

-- the groups of before are there still
abbrev pub HasStill : List PooledState → List PooledState → Type 0
HasStill old new = (index : ℕ) (group : PooledState) → slice_get old index ≡ Some group → (place : ℕ) × (slice_get new place ≡ Some group)

pub HasStill-TakesIn : (old new : PoolState) (whole : WholeState) → TakesIn old whole new → HasStill old.groups new.groups
HasStill-TakesIn old new whole takes index group here =
    let (now, there) = after-insert old.groups takes.index _ index group here in
    (now, ap (λ (p : PoolState). slice_get p.groups now) takes.after ∙ there)

HasStill-TakesAll : (wholes : List WholeState) (old new : PoolState) → TakesAll old wholes new → HasStill old.groups new.groups
HasStill-TakesAll [] old new same index group here = (index, ap (λ (p : PoolState). slice_get p.groups index) same ∙ here)
HasStill-TakesAll (whole ∷ wholes) old new (mid, rest, takes) index group here =
    let (place, there) = HasStill-TakesAll wholes old mid rest index group here in
    HasStill-TakesIn mid new whole takes place group there

pub KeepsPooled-Receives : (old new : PoolState) (before after : ShardState) → Receives old before new after → KeepsPooled old.groups new.groups
KeepsPooled-Receives old new before after receives index group here =
    let (place, there) = HasStill-TakesAll _ (with_rooms old receives.group_room receives.span_room) new receives.moved index group here in
    (place, group, there, IsLess-same group)

pub has_plan-TakesIn : (old new : PoolState) (whole : WholeState) → TakesIn old whole new → new.has_plan ≡ old.has_plan
has_plan-TakesIn old new whole takes = ap (λ (p : PoolState). p.has_plan) takes.after

has_plan-TakesAll : (wholes : List WholeState) (old new : PoolState) → TakesAll old wholes new → new.has_plan ≡ old.has_plan
has_plan-TakesAll [] old new same = ap (λ (p : PoolState). p.has_plan) same
has_plan-TakesAll (whole ∷ wholes) old new (mid, rest, takes) = has_plan-TakesIn mid new whole takes ∙ has_plan-TakesAll wholes old mid rest

pub has_plan-Receives : (old new : PoolState) (before after : ShardState) → Receives old before new after → new.has_plan ≡ old.has_plan
has_plan-Receives old new before after receives = has_plan-TakesAll _ (with_rooms old receives.group_room receives.span_room) new receives.moved
