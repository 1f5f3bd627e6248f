-- Groups of a running shard on their way to the pool, those with the fewest live keys first.
use Rattle.std.proofs.Common.{zero, suc, ◌≡◌, ℕ, ◌+◌, ◌<◌, ◌≤◌, List, [], ◌∷◌, ◌++◌, length, remove, take, drop, Some, slice_get, ◌∙◌, ap, sym, subst, refl, inl, inr, arith}
use Rattle.std.proofs.lemmas.Bool.{cases_lt}
use Rattle.std.proofs.lemmas.List.{drop_all, drop_more, length-append, length-drop, length-take, take-append-drop, nil_from_length}
use Rattle.std.proofs.lemmas.List.Edits.{insert_end, length-remove}
use Rattle.std.proofs.lemmas.List.Sums.{sum_by-cons, sum_by-take-le}
use Rattle.std.proofs.lemmas.Option.{get_or_from_slice_get, slice_get_within}
use Rattle.span.specs.Ids.{rank, same_span}
use Rattle.span.specs.State.{SpanState}
use Rattle.span.specs.declared.id.SpanId.{SpanId}
use Rattle.span.proofs.Ids.{test_from_same_id}
use Rattle.groups.specs.Group.{Ascend, IsElsewhere, spans_in, spans_of}
use Rattle.groups.specs.Whole.{WholeState, spans_moved, whole_of}
use Rattle.groups.proofs.GroupSpans.{elsewhere-times, put_in, taken_out, times}
use Rattle.groups.proofs.Lists.{count-append, count-some, in_either, pairs-insert, same_some}
use Rattle.groups.proofs.Removed.{before-remove, pairs-remove}
use Rattle.groups.proofs.SpanCounts.{at_most_ids}
use Rattle.shard.specs.Group.{GroupState}
use Rattle.shard.specs.Moves.{Lifts}
use Rattle.shard.specs.Shown.{shown as shown_by_shard}
use Rattle.shard.specs.Sound.{IsSound as IsSoundShard}
use Rattle.shard.specs.Sparse.{AreSparsestFirst, HasNoLive, IsSparser, IsSparsest, live_of, told_of}
use Rattle.shard.specs.State.{ShardState}
use Rattle.shard.specs.declared.shard.retiring.LiveGroup.{LiveGroup}
use Rattle.shard.proofs.MovedGroups.{AreBetween, spans_in-Lifts}
use Rattle.shard.proofs.Sparse.{AreSparsestFirst-remove, HasNoLive-none, IsSparsest-first, one_index}
use Rattle.span.specs.declared.limits.TheConstants.{ALL_IDS}
use Rattle.pool.specs.Calls.{IsInPool, IsPooled, MayTakeIn, TakesIn, with_rooms}
use Rattle.pool.specs.Handover.{AreReady, span_count}
use Rattle.pool.specs.Retires.{HasRetired, MovesSparse, MovesSparsest}
use Rattle.pool.specs.Shown.{shown, together}
use Rattle.pool.specs.Sound.{IsSound}
use Rattle.pool.specs.State.{PoolState}
use Rattle.pool.proofs.Arrived.{IsPooled-TakesIn, IsPooled-here, IsPooled-stays, length-TakesIn}
use Rattle.pool.proofs.Received.{AreApart-receiving}
use Rattle.pool.proofs.TakenIn.{IsSound-with_rooms, groups-TakesIn, pooled, times-TakesIn}
use Rattle.pool.proofs.Together.{shown_by-spans, together-moved}

-- the groups that are told of have no more spans than all groups
span_count-told : (told : List LiveGroup) (groups : List GroupState) → Ascend groups → AreSparsestFirst groups told → span_count told ≤ length (spans_in groups)
span_count-told [] groups ascend are = omega arith
span_count-told (one ∷ told) groups ascend are =
    let (index, group, sparsest, is) = IsSparsest-first groups ascend one told are in
    let rest = span_count-told told (remove groups index) (pairs-remove (λ (a b : GroupState). suc (rank a.head.id) ≤ rank b.head.id) groups index ascend)
    (AreSparsestFirst-remove groups ascend one told are index group sparsest.here is) in
    let out = taken_out spans_of groups index group sparsest.here in
    omega (
      arith,
      rest,
      sum_by-cons (λ (x : LiveGroup). x.spans) one told,
      ap (λ (x : LiveGroup). x.spans) is,
      ap length out.whole,
      ap length out.after,
      length-append out.left (spans_of group ++ out.right),
      length-append (spans_of group) out.right,
      length-append out.left out.right,
    )

-- the first of those that are to go is the sparsest
pub IsSparsest-ready : (pool : PoolState) (shard : ShardState) (one : LiveGroup) (more rest : List LiveGroup) → AreReady pool shard (one ∷ more) rest
    → (index : ℕ) × (group : GroupState) × IsSparsest shard.groups index group × (group.head.id ≡ one.head)
IsSparsest-ready pool shard one more rest ready =
    let (index, group, sparsest, is) = IsSparsest-first shard.groups ready.sound_shard.ascending one (more ++ rest) ready.order in
    (index, group, sparsest, ap (λ (x : LiveGroup). x.head) is)

-- one group leaves the shard for the pool

module _ (pool next : PoolState) (shard left : ShardState) (one : LiveGroup) (more rest : List LiveGroup) (whole : WholeState)
    (ready : AreReady pool shard (one ∷ more) rest) (lifts : Lifts shard one.head (Some whole) left) where
  first : (index : ℕ) × (group : GroupState) × IsSparsest shard.groups index group × (told_of group ≡ one)
  first = IsSparsest-first shard.groups ready.sound_shard.ascending one (more ++ rest) ready.order

  at_index : first.0 ≡ lifts.0
  at_index = one_index shard.groups ready.sound_shard.ascending first.0 lifts.0 first.1 lifts.1 first.2.here lifts.2.here (ap (λ (x : LiveGroup). rank x.head) first.3 ∙ sym (ap rank lifts.2.head_is))

  same_group : first.1 ≡ lifts.1
  same_group = same_some (sym first.2.here ∙ ap (slice_get shard.groups) at_index ∙ lifts.2.here)

  told_is : told_of lifts.1 ≡ one
  told_is = ap told_of (sym same_group) ∙ first.3

  groups_are : left.groups ≡ remove shard.groups lifts.0
  groups_are = ap (λ (s : ShardState). s.groups) lifts.4

  spans_are : length (spans_moved whole) ≡ one.spans
  spans_are = ap (λ w. length (spans_moved w)) lifts.3 ∙ ap (λ (x : LiveGroup). x.spans) told_is

  between : AreBetween (spans_in shard.groups) (spans_in left.groups) (spans_moved whole)
  between = spans_in-Lifts shard left one.head whole lifts

  count_lifted : (id : SpanId) → times id (spans_in shard.groups) ≡ times id (spans_in left.groups) + times id (spans_moved whole)
  count_lifted id = omega (
    arith,
    ap (times id) between.with_is,
    ap (times id) between.without_is,
    count-append (λ (s : SpanState). same_span s.id id) between.left (spans_moved whole ++ between.right),
    count-append (λ (s : SpanState). same_span s.id id) (spans_moved whole) between.right,
    count-append (λ (s : SpanState). same_span s.id id) between.left between.right,
  )

  elsewhere_now : (place : ℕ) (span : SpanState) → slice_get (spans_moved whole) place ≡ Some span → IsElsewhere pool.groups span.id
  elsewhere_now place span here = elsewhere-times spans_of pool.groups span.id (omega (
    arith,
    ready.apart span.id,
    count_lifted span.id,
    count-some (λ (s : SpanState). same_span s.id span.id) (spans_moved whole) place span here (test_from_same_id span.id span.id refl),
  ))

  pub MayTakeIn-lifted : MayTakeIn pool whole
  MayTakeIn-lifted = record {
    elsewhere = elsewhere_now;
    group_room = omega (arith, ready.groups);
    span_room = omega (arith, ready.spans, sum_by-cons (λ (x : LiveGroup). x.spans) one more, spans_are);
  }

  pub MovesSparsest-lifted : TakesIn pool whole next → MovesSparsest pool shard next left
  MovesSparsest-lifted takes = record {
    whole = whole;
    index = lifts.0;
    group = lifts.1;
    sparsest = subst (λ (n : ℕ). IsSparsest shard.groups n lifts.1) at_index (subst (IsSparsest shard.groups first.0) same_group first.2);
    whole_is = lifts.3;
    after = lifts.4;
    takes = takes;
  }

  module _ (takes : TakesIn pool whole next) (sound_next : IsSound next) (sound_left : IsSoundShard left) where
    pub AreReady-taken : AreReady next left more rest
    AreReady-taken = record {
      sound = sound_next;
      sound_shard = sound_left;
      apart = λ id. omega (arith, ready.apart id, times-TakesIn pool next whole takes id, count_lifted id);
      groups = omega (arith, ready.groups, ap (λ (p : PoolState). p.group_room) takes.after);
      spans = omega (arith, ready.spans, sum_by-cons (λ (x : LiveGroup). x.spans) one more, spans_are, ap (λ (p : PoolState). p.span_room) takes.after);
      order = subst (λ (gs : List GroupState). AreSparsestFirst gs (more ++ rest)) (sym groups_are)
          (AreSparsestFirst-remove shard.groups ready.sound_shard.ascending one (more ++ rest) ready.order lifts.0 lifts.1 lifts.2.here told_is);
    }

    pub together-taken : together (shown next) (shown_by_shard left) ≡ together (shown pool) (shown_by_shard shard)
    together-taken =
        let into = put_in spans_of pool.groups takes.index (pooled whole takes.page) in
        let next_is : spans_in next.groups ≡ into.left ++ (spans_moved whole ++ into.right) = ap spans_in (groups-TakesIn pool next whole takes) ∙ into.after in
        let there : (id : SpanId) → times id (into.left ++ (spans_moved whole ++ into.right)) ≤ 1 = λ id. subst (λ xs. times id xs ≤ 1) next_is (sound_next.once id) in
        let here : (id : SpanId) → times id (between.left ++ (spans_moved whole ++ between.right)) ≤ 1 = λ id. subst (λ xs. times id xs ≤ 1) between.with_is (ready.sound_shard.once id) in
        (λ i. together (shown_by-spans next.groups sound_next.groups sound_next.once (into.left ++ (spans_moved whole ++ into.right)) next_is i)
        (shown_by-spans left.groups sound_left.groups sound_left.once (between.left ++ between.right) between.without_is i))
        ∙ sym (together-moved into.left (spans_moved whole) into.right between.left between.right there here)
        ∙ sym (λ i. together (shown_by-spans pool.groups ready.sound.groups ready.sound.once (into.left ++ into.right) into.whole i)
        (shown_by-spans shard.groups ready.sound_shard.groups ready.sound_shard.once
        (between.left ++ (spans_moved whole ++ between.right)) between.with_is i))

-- room is made for the groups that are to go
AreReady-reserved : (pool : PoolState) (shard : ShardState) (groups spans : ℕ) (going rest : List LiveGroup) → IsSound pool → IsSoundShard shard
    → (IsInPool pool shard → ⊥) → AreSparsestFirst shard.groups (going ++ rest) → groups ≡ length going → spans ≡ span_count going
    → AreReady (with_rooms pool groups spans) shard going rest
AreReady-reserved pool shard groups spans going rest sound sound_shard apart order groups_are spans_are = record {
  sound = IsSound-with_rooms pool groups spans sound;
  sound_shard = sound_shard;
  apart = AreApart-receiving pool shard sound sound_shard apart;
  groups = omega (arith, groups_are);
  spans = omega (arith, spans_are);
  order = order;
}

-- the first ones, as many as are asked for, may come with room for them
pub AreReady-going : (pool : PoolState) (shard : ShardState) (told going : List LiveGroup) (most groups spans : ℕ) → IsSound pool → IsSoundShard shard
    → (IsInPool pool shard → ⊥) → AreSparsestFirst shard.groups told → going ≡ take most told → groups ≡ length going → spans ≡ span_count going
    → AreReady (with_rooms pool groups spans) shard going (drop most told)
AreReady-going pool shard told going most groups spans sound sound_shard apart are is groups_are spans_are =
    AreReady-reserved pool shard groups spans going (drop most told) sound sound_shard apart
    (subst (AreSparsestFirst shard.groups) (sym (ap (λ xs. xs ++ drop most told) is ∙ take-append-drop most told)) are) groups_are spans_are

pub span_count-going : (shard : ShardState) (told going : List LiveGroup) (most : ℕ) → IsSoundShard shard → AreSparsestFirst shard.groups told → going ≡ take most told → span_count going ≤ ALL_IDS
span_count-going shard told going most sound are is = omega (
  arith,
  ap span_count is,
  sum_by-take-le (λ (x : LiveGroup). x.spans) told most,
  span_count-told told shard.groups sound.ascending are,
  at_most_ids (spans_in shard.groups) sound.once,
)

pub length-going : (told going : List LiveGroup) (most : ℕ) → going ≡ take most told → length going ≤ most
length-going told going most is = omega (arith, ap length is, length-take most told)

-- where fewer go than are asked for, all have gone
pub HasNoLive-fewer : (groups : List GroupState) (told going : List LiveGroup) (most : ℕ) → going ≡ take most told → AreSparsestFirst groups (drop most told) → length going < most → HasNoLive groups
HasNoLive-fewer groups told going most is are fewer = HasNoLive-none groups
    (subst (AreSparsestFirst groups) (nil_from_length (drop most told) (omega (arith, ap length is, length-take most told, length-drop most told))) are)

-- what a reader sees of the moves

-- what holds of each two, and of each and the new last one, holds of each two then
pairs-last : {X : Type 0} (R : X → X → Type 0) (xs : List X) (x : X)
    → ((low high : ℕ) (a b : X) → suc low ≤ high → slice_get xs low ≡ Some a → slice_get xs high ≡ Some b → R a b)
    → ((at : ℕ) (a : X) → slice_get xs at ≡ Some a → R a x)
    → (low high : ℕ) (a b : X) → suc low ≤ high → slice_get (xs ++ x ∷ []) low ≡ Some a → slice_get (xs ++ x ∷ []) high ≡ Some b → R a b
pairs-last R xs x pairs last low high a b less at_low at_high =
    pairs-insert R xs (length xs) x (omega arith) pairs (λ other y below there. last other y there)
    (λ other y past there. absurd (omega (arith, past, slice_get_within xs other y there))) low high a b less
    (ap (λ zs. slice_get zs low) (insert_end xs x) ∙ at_low)
    (ap (λ zs. slice_get zs high) (insert_end xs x) ∙ at_high)

HasRetired-none : (pool : PoolState) (shard : ShardState) → IsSound pool → HasRetired pool shard 0 pool shard
HasRetired-none pool shard sound = record {
  gone = [];
  many = refl;
  stood = λ place group at. absurd cc;
  live = λ place group at. absurd cc;
  came = λ place group at. absurd cc;
  sparser_first = λ low high a b less at_low at_high. absurd cc;
  sparser = λ place index group other at there some. absurd cc;
  fewer = omega arith;
  others = λ index group at. (index, at);
  stays = λ index group at. IsPooled-here pool sound index group at;
  no_other = omega arith;
}

-- the sparsest group is sparser than each other with a live key
IsSparser-sparsest : (groups : List GroupState) → Ascend groups → (index : ℕ) (group : GroupState) → IsSparsest groups index group
    → (at : ℕ) (other : GroupState) → (at ≡ index → ⊥) → slice_get groups at ≡ Some other → 1 ≤ live_of other → IsSparser group other
IsSparser-sparsest groups ascend index group sparsest at other apart there some = elim (cases_lt (live_of group) (live_of other)) [
  | inl fewer ↦ inl fewer
  | inr no_fewer ↦
      let same : live_of group ≡ live_of other = omega (arith, no_fewer, sparsest.fewest at other there some) in
      elim (cases_lt at index) [
        | inl before ↦ absurd (omega (arith, same, sparsest.first at other before there some))
        | inr not_before ↦ inr (same, ascend index at group other (omega (arith, not_before, apart)) sparsest.here there)
      ]
]

module _ (pool₀ : PoolState) (shard₀ : ShardState) (count : ℕ) (pool : PoolState) (shard : ShardState) (next : PoolState) (left : ShardState)
    (was : HasRetired pool₀ shard₀ count pool shard) (moves : MovesSparsest pool shard next left) (sound_shard : IsSoundShard shard) where
  -- what is left stood before, at another index
  left_was : (index : ℕ) (group : GroupState) → slice_get left.groups index ≡ Some group → (at : ℕ) × (at ≡ moves.index → ⊥) × (slice_get shard.groups at ≡ Some group)
  left_was index group there = before-remove shard.groups moves.index index group (ap (λ (s : ShardState). slice_get s.groups index) (sym moves.after) ∙ there)

  came_last : IsPooled next (whole_of moves.group)
  came_last = subst (IsPooled next) moves.whole_is (IsPooled-TakesIn pool next moves.whole moves.takes)

  still : (other : WholeState) → IsPooled pool other → IsPooled next other
  still other = IsPooled-stays pool next moves.whole moves.takes other

  -- each that is gone went before, or is the last
  gone_or_last : {P : GroupState → Type 0} → ((place : ℕ) (group : GroupState) → slice_get was.gone place ≡ Some group → P group) → P moves.group
      → (place : ℕ) (group : GroupState) → slice_get (was.gone ++ moves.group ∷ []) place ≡ Some group → P group
  gone_or_last {P} before last place group there = elim (in_either was.gone (moves.group ∷ []) place group there) [
    | inl there ↦ before place group there
    | inr there ↦ subst P (only there.0 there.1) last
  ]
    where
      only : (place : ℕ) → slice_get (moves.group ∷ []) place ≡ Some group → moves.group ≡ group
      only zero there = same_some there
      only (suc place) there = absurd cc

  HasRetired-next : HasRetired pool₀ shard₀ (count + 1) next left
  HasRetired-next = record {
    gone = was.gone ++ moves.group ∷ [];
    many = length-append was.gone (moves.group ∷ []) ∙ ap (λ n. n + 1) was.many;
    stood = gone_or_last was.stood (was.others moves.index moves.group moves.sparsest.here);
    live = gone_or_last was.live moves.sparsest.some;
    came = gone_or_last (λ place group there. still (whole_of group) (was.came place group there)) came_last;
    sparser_first = pairs-last IsSparser was.gone moves.group was.sparser_first (λ place group there. was.sparser place moves.index group moves.group there moves.sparsest.here moves.sparsest.some);
    sparser = λ place index group other there left_there some.
        let (at, apart, here) = left_was index other left_there in
        gone_or_last {P = λ g. IsSparser g other} (λ place group there. was.sparser place at group other there here some)
        (IsSparser-sparsest shard.groups sound_shard.ascending moves.index moves.group moves.sparsest at other apart here some) place group there;
    fewer =
        let within = slice_get_within shard.groups moves.index moves.group moves.sparsest.here in
        omega (arith, was.fewer, length-remove shard.groups moves.index within, ap (λ (s : ShardState). length s.groups) moves.after);
    others = λ index group there. let (at, apart, here) = left_was index group there in was.others at group here;
    stays = λ index group there. still (whole_of group) (was.stays index group there);
    no_other = omega (arith, was.no_other, length-TakesIn pool next moves.whole moves.takes);
  }

-- so many have gone

pub record IsRetiring (pool₀ : PoolState) (shard₀ : ShardState) (going : List LiveGroup) (count : ℕ) (pool : PoolState) (shard : ShardState) : Type 0 where
  pub moved : MovesSparse count pool₀ shard₀ pool shard
  pub whole : HasRetired pool₀ shard₀ count pool shard
  pub ready : (rest : List LiveGroup) → AreReady pool₀ shard₀ going rest → AreReady pool shard (drop count going) rest
  pub kept : together (shown pool) (shown_by_shard shard) ≡ together (shown pool₀) (shown_by_shard shard₀)

pub IsRetiring-first : (pool : PoolState) (shard : ShardState) (going rest : List LiveGroup) → AreReady pool shard going rest → IsRetiring pool shard going 0 pool shard
IsRetiring-first pool shard going rest ready = record { moved = (refl, refl); whole = HasRetired-none pool shard ready.sound; ready = λ rest ready. ready; kept = refl }

-- the next one is the first that is left
pub AreReady-at : (pool : PoolState) (shard : ShardState) (going rest : List LiveGroup) (count : ℕ) (one : LiveGroup) → slice_get going count ≡ Some one
    → AreReady pool shard (drop count going) rest → AreReady pool shard (one ∷ drop (count + 1) going) rest
AreReady-at pool shard going rest count one there ready =
    subst (λ xs. AreReady pool shard xs rest)
    (drop_more going count one (slice_get_within going count one there)
    ∙ ap (λ x. x ∷ drop (count + 1) going) (get_or_from_slice_get going count one one there)) ready

pub IsRetiring-next : (pool₀ : PoolState) (shard₀ : ShardState) (going rest : List LiveGroup) (count : ℕ) (pool : PoolState) (shard : ShardState)
    (next : PoolState) (left : ShardState) (one : LiveGroup) → slice_get going count ≡ Some one → AreReady pool₀ shard₀ going rest
    → IsRetiring pool₀ shard₀ going count pool shard → MovesSparsest pool shard next left → ((more rest : List LiveGroup) → AreReady pool shard (one ∷ more) rest → AreReady next left more rest)
    → together (shown next) (shown_by_shard left) ≡ together (shown pool) (shown_by_shard shard) → IsRetiring pool₀ shard₀ going (count + 1) next left
IsRetiring-next pool₀ shard₀ going rest count pool shard next left one there first was moves ready kept =
    let same : suc count ≡ count + 1 = omega arith in
    let now = was.ready rest first in
    record {
      moved = subst (λ n. MovesSparse n pool₀ shard₀ next left) same (pool, shard, was.moved, moves);
      whole = HasRetired-next pool₀ shard₀ count pool shard next left was.whole moves now.sound_shard;
      ready = λ rest first. ready (drop (count + 1) going) rest (AreReady-at pool shard going rest count one there (was.ready rest first));
      kept = kept ∙ was.kept;
    }

-- what room the pool had makes no difference
pub HasRetired-with_rooms : (old : PoolState) (groups spans : ℕ) (shard : ShardState) (count : ℕ) (new : PoolState) (left : ShardState)
    → HasRetired (with_rooms old groups spans) shard count new left → HasRetired old shard count new left
HasRetired-with_rooms old groups spans shard count new left is = record {
  gone = is.gone;
  many = is.many;
  stood = is.stood;
  live = is.live;
  came = is.came;
  sparser_first = is.sparser_first;
  sparser = is.sparser;
  fewer = is.fewer;
  others = is.others;
  stays = is.stays;
  no_other = is.no_other;
}

-- those that are left after all have gone
pub AreReady-all_gone : (pool : PoolState) (shard : ShardState) (going rest : List LiveGroup) → AreReady pool shard (drop (length going) going) rest → AreSparsestFirst shard.groups rest
AreReady-all_gone pool shard going rest ready =
    subst (λ xs. AreSparsestFirst shard.groups (xs ++ rest)) (drop_all (length going) going (omega arith)) ready.order
