-- No step of a compaction makes pages more.
use Rattle.std.proofs.Common.{◌≡◌, ◌∙◌, zero, suc, ℕ, ◌+◌, ◌≤◌, Bool, true, false, cond, List, [], ◌∷◌, length, map, insert, remove, Option, None, Some, is_some, ap, arith, inl, inr, refl, slice_get, sym}
use Rattle.std.specs.Prelude.{sum_by}
use Rattle.std.proofs.lemmas.List.Sums.{length-filter, sum_by-cons}
use Rattle.page.specs.Words.{Words}
use Rattle.groups.specs.Dead.{without_dead}
use Rattle.groups.specs.Group.{Group, paged_in}
use Rattle.groups.specs.Whole.{WholeState}
use Rattle.groups.proofs.Lists.{count-insert}
use Rattle.groups.proofs.Removed.{count-remove}
use Rattle.shard.specs.Closes.{opened_group}
use Rattle.shard.specs.Group.{GroupState}
use Rattle.shard.specs.State.{ShardState}
use Rattle.shard.specs.Trims.{is_idle, trimmed}
use Rattle.pool.specs.Calls.{Adopts, TakesIn, with_rooms}
use Rattle.pool.specs.Retires.{MovesSparse, MovesSparsest}
use Rattle.pool.specs.State.{PoolState, PooledState}
use Rattle.fold.specs.declared.step.Step.TheVariants.{Emptied, Folded}
use Rattle.marks.specs.Closings.{closed_onto, closed_as_planned, reopened}
use Rattle.arena_core.proofs.Lists.{length-filter_most, sum_by-set_at}
use Rattle.arena_core.specs.declared.event.Event.{Event}
use Rattle.arena_core.specs.declared.event.Event.TheVariants.{Put, Get, Set, Free, Later, Settle, End, Begin, Retire, Trim, Adopt, Mark, MarkSome, Step, Close}
use Rattle.arena_core.specs.declared.reply.Refusal.TheVariants.{OutOfMemory, PagesSpent, Ended, PlanOpen, NothingToAdopt, Config}
use Rattle.arena_core.specs.declared.reply.Reply.{Reply}
use Rattle.arena_core.specs.declared.reply.Reply.TheVariants.{Retired, Trimmed, Adopted, Marked, Stepped, NoPairLeft, Closed, NoPlan, Refused}
use Rattle.arena_core.specs.Forgets.{Forgets, without_dead_guests}
use Rattle.arena_core.specs.State.{CoreState, pages}
use Rattle.arena_core.specs.Step.{CoreStep}
use Rattle.compaction.specs.Compacts.{Going, IsWithin, MayCome, Stops, Takes, TakesAll}
use Rattle.compaction.specs.declared.advanced.Advanced.{Advanced}
use Rattle.compaction.specs.declared.compacted.Standing.{Standing}
use Rattle.compaction.specs.declared.compacted.Standing.TheVariants.{GoesOn, Done, Refused as IsRefused}
use Rattle.compaction.specs.declared.progress.Progress.{Progress}

-- how many of the groups have a page, and whether one has
abbrev paged : {Closed : Type 0} → List (Group Closed) → ℕ
paged groups = length (paged_in groups)

abbrev is_paged : {Closed : Type 0} → Group Closed → Bool
is_paged group = is_some group.page

abbrev one_if : Option Words → ℕ
one_if page = cond {A = ℕ} (is_some page) 1 0

paged-remove : {Closed : Type 0} (groups : List (Group Closed)) (at : ℕ) (group : Group Closed) → slice_get groups at ≡ Some group
    → paged groups ≡ one_if group.page + paged (remove groups at)
paged-remove groups at group here = omega (arith, length-filter is_paged groups, length-filter is_paged (remove groups at), count-remove is_paged groups at group here)

paged-insert : {Closed : Type 0} (groups : List (Group Closed)) (at : ℕ) (group : Group Closed) → paged (insert groups at group) ≡ one_if group.page + paged groups
paged-insert groups at group = omega (arith, length-filter is_paged groups, length-filter is_paged (insert groups at group), count-insert is_paged groups at group)

-- where no group gets a page
paged-map : {Here There : Type 0} (change : Group Here → Group There) → ((group : Group Here) → is_some (change group).page ≡ true → is_some group.page ≡ true) → (groups : List (Group Here))
    → paged (map change groups) ≤ paged groups
paged-map change fewer [] = omega arith
paged-map change fewer (group ∷ groups) = by_pages (is_some (change group).page) (is_some group.page) (fewer group) (paged-map change fewer groups)
  where
    by_pages : (b c : Bool) → (b ≡ true → c ≡ true) → paged (map change groups) ≤ paged groups
        → length (cond b (change group ∷ paged_in (map change groups)) (paged_in (map change groups))) ≤ length (cond c (group ∷ paged_in groups) (paged_in groups))
    by_pages true true same rest = omega (arith, rest)
    by_pages true false same rest = absurd (false_is_true (same refl))
      where
        false_is_true : false ≡ true → ⊥
        false_is_true e = cc
    by_pages false true same rest = omega (arith, rest)
    by_pages false false same rest = rest

sum_by-map : {X : Type 0} (f : X → ℕ) (change : X → X) → ((x : X) → f (change x) ≤ f x) → (xs : List X) → sum_by f (map change xs) ≤ sum_by f xs
sum_by-map f change fewer [] = omega arith
sum_by-map f change fewer (x ∷ xs) = omega (arith, fewer x, sum_by-map f change fewer xs, sum_by-cons f x xs, sum_by-cons f (change x) (map change xs))

-- ---- what moves

paged-TakesIn : (old : PoolState) (whole : WholeState) (new : PoolState) → TakesIn old whole new → paged new.groups ≤ one_if whole.words + paged old.groups
paged-TakesIn old whole new takes = omega (
  arith,
  ap (λ (p : PoolState). paged p.groups) takes.after,
  paged-insert old.groups takes.index (record { head = whole.head; guests = whole.guests; page = takes.page; closed = tt }),
  by_page takes.page refl,
)
  where
    by_page : (page : Option Words) → takes.page ≡ page → one_if page ≤ one_if whole.words
    by_page None e = omega arith
    by_page (Some words) e =
        let same = takes.live (λ emptied. none_is_some (sym (takes.emptied emptied) ∙ e)) in
        omega (arith, ap one_if (sym e ∙ same))
      where
        none_is_some : None ≡ Some words → ⊥
        none_is_some e = cc

paged-MovesSparsest : (old : PoolState) (shard : ShardState) (new : PoolState) (left : ShardState) → MovesSparsest old shard new left
    → paged left.groups + paged new.groups ≤ paged shard.groups + paged old.groups
paged-MovesSparsest old shard new left moves = omega (
  arith,
  paged-remove shard.groups moves.index moves.group moves.sparsest.here,
  ap (λ (s : ShardState). paged s.groups) moves.after,
  ap (λ (w : WholeState). one_if w.words) moves.whole_is,
  paged-TakesIn old moves.whole new moves.takes,
)

paged-MovesSparse : (count : ℕ) (old : PoolState) (shard : ShardState) (new : PoolState) (left : ShardState) → MovesSparse count old shard new left
    → paged left.groups + paged new.groups ≤ paged shard.groups + paged old.groups
paged-MovesSparse zero old shard new left (new_is, left_is) = omega (arith, ap (λ (p : PoolState). paged p.groups) new_is, ap (λ (s : ShardState). paged s.groups) left_is)
paged-MovesSparse (suc count) old shard new left (mid, others, rest, last) = omega (arith, paged-MovesSparse count old shard mid others rest, paged-MovesSparsest mid others new left last)

paged-Adopts : (old : PoolState) (shard : ShardState) (head : _) (new : PoolState) (adopter : ShardState) → Adopts old shard head new adopter
    → paged adopter.groups + paged new.groups ≤ paged shard.groups + paged old.groups
paged-Adopts old shard head new adopter adopts =
    let (index, group, at, whole_is, new_is) = adopts.lifts in
    omega (
      arith,
      paged-remove old.groups index group at.here,
      ap (λ (p : PoolState). paged p.groups) new_is,
      ap (λ (w : WholeState). one_if w.words) whole_is,
      ap (λ (s : ShardState). paged s.groups) adopts.takes_in.after,
      paged-insert shard.groups adopts.takes_in.index (record { head = adopts.whole.head; guests = adopts.whole.guests; page = adopts.whole.words; closed = false }),
    )

trimmed-paged : (group : GroupState) → is_some (trimmed group).page ≡ true → is_some group.page ≡ true
trimmed-paged group = by_test (is_idle group)
  where
    by_test : (b : Bool) → is_some (cond b (record group { page = None }) group).page ≡ true → is_some group.page ≡ true
    by_test true e = cc
    by_test false e = e

-- ---- the steps

abbrev owned : List ShardState → ℕ
owned shards = sum_by (λ (s : ShardState). paged s.groups) shards

pages-event : (old new : CoreState) (event : Event) (reply : Reply) (progress : Progress) → MayCome event progress → CoreStep old event reply new → pages new ≤ pages old
pages-event old new (Retire shard most) (Retired count) progress may step = omega (
  arith,
  ap pages step.rest,
  sum_by-set_at (λ (s : ShardState). paged s.groups) old.shards shard step.before step.after step.here,
  paged-MovesSparse count (with_rooms old.pool step.retires.group_room step.retires.span_room) step.before step.pool step.after step.retires.moved,
)
pages-event old new (Retire shard most) (Refused Config) progress may step = omega (arith, ap pages step.1)
pages-event old new (Retire shard most) (Refused Ended) progress may step = omega (arith, ap pages step.1)
pages-event old new (Retire shard most) (Refused PlanOpen) progress may step = omega (arith, ap pages step.2)
pages-event old new (Retire shard most) (Refused OutOfMemory) progress may step = omega (arith, ap pages step.1)
pages-event old new (Trim shard) (Trimmed count) progress may step = omega (
  arith,
  ap pages step.rest,
  sum_by-set_at (λ (s : ShardState). paged s.groups) old.shards shard step.before step.after step.here,
  ap (λ (s : ShardState). paged s.groups) step.trims.after,
  paged-map trimmed trimmed-paged step.before.groups,
)
pages-event old new (Trim shard) (Refused Config) progress may step = omega (arith, ap pages step.1)
pages-event old new (Adopt shard) (Adopted head) progress may step = omega (
  arith,
  ap pages step.rest,
  sum_by-set_at (λ (s : ShardState). paged s.groups) old.shards shard step.before step.after step.here,
  paged-Adopts old.pool step.before head step.pool step.after step.adopts,
)
pages-event old new (Adopt shard) (Refused Config) progress may step = omega (arith, ap pages step.3)
pages-event old new (Adopt shard) (Refused PlanOpen) progress may step = omega (arith, ap pages step.2)
pages-event old new (Adopt shard) (Refused Ended) progress may step = omega (arith, ap pages step.1)
pages-event old new (Adopt shard) (Refused PagesSpent) progress may step = omega (arith, ap pages step.1)
pages-event old new (Adopt shard) (Refused NothingToAdopt) progress may step = omega (arith, ap pages step.3)
pages-event old new (Adopt shard) (Refused OutOfMemory) progress may step = omega (arith, ap pages step.1)
pages-event old new MarkSome (Marked certificate) progress may step = omega (
  arith,
  ap pages step.after,
  sum_by-map (λ (s : ShardState). paged s.groups) (closed_onto certificate.plan)
      (λ shard. paged-map (closed_as_planned certificate.plan) (λ group e. e) shard.groups) old.shards,
)
pages-event old new MarkSome (Refused PlanOpen) progress may step = omega (arith, ap pages step.1)
pages-event old new MarkSome (Refused OutOfMemory) progress may step = omega (arith, ap pages step.1)
pages-event old new Step (Stepped abandoned onto Folded) progress may step = omega (arith, step.page_goes)
pages-event old new Step (Stepped abandoned onto Emptied) progress may step = omega (arith, ap pages step.rest)
pages-event old new Step NoPairLeft progress may step = omega (arith, ap pages step.1)
pages-event old new Step NoPlan progress may step = omega (arith, ap pages step.1)
pages-event old new Step (Refused OutOfMemory) progress may step = omega (arith, ap pages step.1)
pages-event old new Close Closed progress may step = omega (
  arith,
  ap pages step.1,
  sum_by-map (λ (s : ShardState). paged s.groups) reopened (λ shard. paged-map opened_group (λ group e. e) shard.groups) old.shards,
)
pages-event old new Close NoPlan progress may step = omega (arith, ap pages step.1)
pages-event old new (Put shard value) reply progress may step = absurd may
pages-event old new (Get key) reply progress may step = absurd may
pages-event old new (Set key value) reply progress may step = absurd may
pages-event old new (Free key) reply progress may step = absurd may
pages-event old new (Later worker key) reply progress may step = absurd may
pages-event old new (Settle worker shard) reply progress may step = absurd may
pages-event old new (End shard) reply progress may step = absurd may
pages-event old new (Begin shard) reply progress may step = absurd may
pages-event old new Mark reply progress may step = absurd may
pages-event old new event reply progress may step = absurd step

paged-paged_in : (groups : List PooledState) → paged (paged_in groups) ≤ paged groups
paged-paged_in groups = length-filter_most is_paged (paged_in groups)

pages-forgetting : (old new : CoreState) (count : ℕ) → Forgets old count new → pages new ≤ pages old
pages-forgetting old new count forgets = omega (
  arith,
  ap pages forgets.after,
  sum_by-map (λ (s : ShardState). paged s.groups) without_dead_guests (λ shard. paged-map without_dead (λ group e. e) shard.groups) old.shards,
  paged-map without_dead (λ group e. e) (paged_in old.pool.groups),
  paged-paged_in old.pool.groups,
)

pages-Takes : (taken : ℕ) (tells : Advanced) (old new : Going) → Takes taken tells old new → pages new.core ≤ pages old.core
pages-Takes taken tells old new (inl takes) = pages-event old.core new.core takes.event takes.reply old.progress takes.may_come takes.exact
pages-Takes taken tells old new (inr (taken_is, inl takes)) = pages-forgetting old.core new.core takes.count takes.forgets
pages-Takes taken tells old new (inr (taken_is, inr tries)) = omega (arith, ap (λ (g : Going). pages g.core) tries.same)

pages-TakesAll : (steps taken : ℕ) (old new : Going) → TakesAll steps taken old new → pages new.core ≤ pages old.core
pages-TakesAll zero taken old new (taken_is, same) = omega (arith, ap (λ (g : Going). pages g.core) same)
pages-TakesAll (suc steps) taken old new (mid, before, last, tells, takes, step, goes_on, taken_is) = omega (arith, pages-TakesAll steps before old mid takes, pages-Takes last tells mid new step)

pages-Stops : (budget : ℕ) (standing : Standing) (old new : Going) → Stops budget standing old new → pages new.core ≤ pages old.core
pages-Stops budget standing old new stops = omega (arith, pages-TakesAll stops.steps stops.taken old stops.mid stops.before, pages-Takes stops.last stops.tells stops.mid new stops.takes)

pub pages-IsWithin : (budget : ℕ) (standing : Standing) (old new : Going) → IsWithin budget standing old new → pages new.core ≤ pages old.core
pages-IsWithin budget GoesOn old new (steps, takes) = pages-TakesAll steps budget old new takes
pages-IsWithin budget Done old new stops = pages-Stops budget Done old new stops
pages-IsWithin budget (IsRefused refusal) old new stops = pages-Stops budget (IsRefused refusal) old new stops
