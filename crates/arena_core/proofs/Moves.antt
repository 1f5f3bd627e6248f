-- Why an end, a retirement or an adoption is refused.
use Rattle.std.proofs.Common.{◌≡◌, ◌≢◌, ℕ, suc, ◌<◌, true, false, cond, List, [], ◌∷◌, length, refl, sym, ap, subst, ◌∙◌, arith, Option, Some, None, slice_get, is_some, Err, Result, ◌↔◌, filter, IfSome}
use Rattle.std.specs.List.{list_any}
use Rattle.std.proofs.lemmas.Bool.{false_from_ne_true}
use Rattle.std.proofs.option.Match.{None-if_not_some}
use Rattle.span.specs.declared.id.SpanId.{SpanId}
use Rattle.shard.specs.Group.{GroupState}
use Rattle.shard.specs.Sound.{IsSound as IsSoundShard}
use Rattle.shard.specs.State.{ShardState}
use Rattle.pool.specs.Calls.{HasClosed, HasNothingToAdopt, IsDoubled, IsInPool}
use Rattle.pool.specs.State.{PoolState, PooledState, paged_groups}
use Rattle.pool.specs.declared.error.AdoptError.{AdoptError}
use Rattle.pool.specs.declared.error.AdoptError.TheVariants as adopt_error
use Rattle.pool.specs.declared.error.ReceiveError.{ReceiveError}
use Rattle.pool.specs.declared.error.ReceiveError.TheVariants as receive_error
use Rattle.arena_core.specs.declared.event.Event.TheVariants.{End, Retire, Adopt}
use Rattle.arena_core.specs.declared.reply.Reply.TheVariants as reply
use Rattle.arena_core.specs.Refusals.{refusal_of_adoption, refusal_of_end}
use Rattle.marks.specs.Plans.{AreClosedAsPlanned, OpenPlan}
use Rattle.arena_core.specs.State.{CoreState}
use Rattle.arena_core.specs.Step.{CoreStep, MayTake, HasClosedGroup, HasPlan, MayEnd}
use Rattle.arena_core.specs.Sound.{IsSound}
use Rattle.arena_core.proofs.Steps.{not_doubled, not_in_pool}
use Rattle.std.proofs.lemmas.Option.{get_or_from_slice_get, slice_get_within}
use Rattle.groups.proofs.DeadGuests.{after-filter}
use Rattle.std.proofs.lemmas.List.Folds.{list_any_at}

open_all : (groups : List GroupState) → AreClosedAsPlanned None groups → list_any (λ (g : GroupState). g.closed) groups ≡ false
open_all [] each = refl
open_all (group ∷ groups) each = rw (each 0 group refl) (open_all groups (λ index other here. each (suc index) other here))

-- where one of the groups is closed, a plan is open
planned_if_closed : (plan : Option OpenPlan) (groups : List GroupState) → AreClosedAsPlanned plan groups → HasClosed groups → is_some plan ≡ true
planned_if_closed None groups each some = let never : true ≡ false = sym some ∙ open_all groups each in cc
planned_if_closed (Some plan) groups each some = refl

-- an end or a retirement that the pool refuses
pub CoreStep-end_refused : {T : Type 0} (old : CoreState) → IsSound old → (number most : ℕ) (shard : ShardState) (error : ReceiveError) → slice_get old.shards number ≡ Some shard
    → (◌≡◌ {A = Result T ReceiveError} (Err error) (Err receive_error.Ended) ↔ (shard.ended ≡ true))
    → (◌≡◌ {A = Result T ReceiveError} (Err error) (Err receive_error.PlanOpen) ↔ ((shard.ended ≡ false) × (IsInPool old.pool shard → ⊥) × HasClosed shard.groups))
    → IfSome (refusal_of_end error) (λ cause. CoreStep old (End number) (reply.Refused cause) old × CoreStep old (Retire number most) (reply.Refused cause) old)
CoreStep-end_refused old sound number most shard receive_error.OutOfMemory here ended plan_open =
    let running = false_from_ne_true shard.ended (λ e. let no = ended.1 e in cc) in
    let may : MayEnd old number = (shard, record { here = here; running = running }, λ some. let no = plan_open.1 (running, not_in_pool old sound.groups number shard here, some) in cc) in
    ((may, refl), (may, refl))
CoreStep-end_refused old sound number most shard receive_error.PlanOpen here ended plan_open =
    let facts = plan_open.0 refl in
    let planned : HasPlan old = planned_if_closed old.plan shard.groups (sound.plan.closed number shard here) facts.2 in
    let some : HasClosedGroup old number = (shard, record { here = here; running = facts.0 }, facts.2) in
    ((planned, some, refl), (planned, some, refl))
CoreStep-end_refused old sound number most shard receive_error.Ended here ended plan_open = (((shard, here, ended.0 refl), refl), ((shard, here, ended.0 refl), refl))
CoreStep-end_refused old sound number most shard receive_error.Doubled here ended plan_open = tt

-- when an adoption is refused, and why
pub record IsRefused (pool : PoolState) (shard : ShardState) (error : AdoptError) : Type 0 where
  pub spent : ◌≡◌ {A = Result SpanId AdoptError} (Err error) (Err adopt_error.PagesSpent) ↔ (shard.page_limit ≡ length shard.groups)
  pub ended : ◌≡◌ {A = Result SpanId AdoptError} (Err error) (Err adopt_error.Ended) ↔ ((shard.page_limit ≢ length shard.groups) × (shard.ended ≡ true))
  pub plan_open : ◌≡◌ {A = Result SpanId AdoptError} (Err error) (Err adopt_error.PlanOpen) ↔ ((shard.page_limit ≢ length shard.groups) × (shard.ended ≡ false) × (IsDoubled pool shard → ⊥) × (pool.has_plan ≡ true))
  pub nothing : ◌≡◌ {A = Result SpanId AdoptError} (Err error) (Err adopt_error.NothingToAdopt) ↔ ((shard.page_limit ≢ length shard.groups) × (shard.ended ≡ false) × (pool.has_plan ≡ false) × HasNothingToAdopt pool)

below_limit : (shard : ShardState) → IsSoundShard shard → (shard.page_limit ≢ length shard.groups) → length shard.groups < shard.page_limit
below_limit shard sound room = omega (arith, sound.limit, room)

-- the shard of this number, which has not ended, may have another page
may_take-here : (old : CoreState) (number : ℕ) (shard : ShardState) → IsSoundShard shard → slice_get old.shards number ≡ Some shard
    → (shard.page_limit ≢ length shard.groups) → shard.ended ≡ false → MayTake old number
may_take-here old number shard sound here room running other there =
    let same : shard ≡ other = (let both : Some shard ≡ Some other = sym here ∙ there in cc) in
    subst (λ (s : ShardState). (s.ended ≡ false) × (length s.groups < s.page_limit)) same (running, below_limit shard sound room)

-- an adoption that the pool refuses
pub CoreStep-adopt_refused : (old : CoreState) → IsSound old → (number : ℕ) (shard : ShardState) (error : AdoptError) → slice_get old.shards number ≡ Some shard
    → IsRefused old.pool shard error → IfSome (refusal_of_adoption error) (λ cause. CoreStep old (Adopt number) (reply.Refused cause) old)
CoreStep-adopt_refused old sound number shard adopt_error.OutOfMemory here why =
    let room : (shard.page_limit ≢ length shard.groups) = λ full. let no = why.spent.1 full in cc in
    let running : shard.ended ≡ false = false_from_ne_true shard.ended (λ e. let no = why.ended.1 (room, e) in cc) in
    let single = not_doubled old sound.groups number shard here running in
    let no_plan : old.pool.has_plan ≡ false = false_from_ne_true old.pool.has_plan (λ e. let no = why.plan_open.1 (room, running, single, e) in cc) in (
      (
        shard,
        record { here = here; running = running },
        below_limit shard (sound.groups.shards number shard here).sound room,
        None-if_not_some old.plan (sym sound.plan.told ∙ no_plan),
        λ nothing.
            let no = why.nothing.1 (room, running, no_plan, nothing) in cc,
      ),
      refl,
    )
CoreStep-adopt_refused old sound number shard adopt_error.PagesSpent here why = ((shard, here, why.spent.0 refl), refl)
CoreStep-adopt_refused old sound number shard adopt_error.Ended here why = ((shard, here, (why.ended.0 refl).1), refl)
CoreStep-adopt_refused old sound number shard adopt_error.Doubled here why = tt
CoreStep-adopt_refused old sound number shard adopt_error.PlanOpen here why =
    let facts = why.plan_open.0 refl in
    (may_take-here old number shard (sound.groups.shards number shard here).sound here facts.0 facts.1, sym sound.plan.told ∙ facts.3, refl)
CoreStep-adopt_refused old sound number shard adopt_error.NothingToAdopt here why =
    let facts = why.nothing.0 refl in (
      may_take-here old number shard (sound.groups.shards number shard here).sound here facts.0 facts.1,
      None-if_not_some old.plan (sym sound.plan.told ∙ facts.2),
      facts.3,
      refl,
    )

-- no group has a page, where that many have one

pub HasNothingToAdopt-unpaged : (pool : PoolState) → length (paged_groups pool) ≡ 0 → HasNothingToAdopt pool
HasNothingToAdopt-unpaged pool none index group here = None-if_not_some group.page (false_from_ne_true (is_some group.page) (λ paged.
    let (at, there) = after-filter (λ (g : PooledState). is_some g.page) pool.groups index group here paged in
    omega (arith, none, slice_get_within (paged_groups pool) at group there)))

pub unpaged-nothing : (groups : List PooledState) → ((index : ℕ) (group : PooledState) → slice_get groups index ≡ Some group → group.page ≡ None)
    → length (filter (λ (group : PooledState). is_some group.page) groups) ≡ 0
unpaged-nothing [] none = refl
unpaged-nothing (first ∷ groups) none =
    ap (λ o. length (cond (is_some o) (first ∷ filter (λ (group : PooledState). is_some group.page) groups) (filter (λ (group : PooledState). is_some group.page) groups))) (none 0 first refl)
    ∙ unpaged-nothing groups (λ index group here. none (suc index) group here)

-- where none of the groups is closed, each is open
pub unclosed : (groups : List GroupState) → (HasClosed groups → ⊥) → (index : ℕ) (group : GroupState) → slice_get groups index ≡ Some group → group.closed ≡ false
unclosed groups never index group here = false_from_ne_true group.closed (λ closed.
    never (list_any_at (λ (g : GroupState). g.closed) groups index group (slice_get_within groups index group here)
    (ap (λ (g : GroupState). g.closed) (get_or_from_slice_get groups index group group here) ∙ closed)))
