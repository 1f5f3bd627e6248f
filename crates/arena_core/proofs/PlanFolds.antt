-- What a step does to the open plan: the next pair is carried out, and the others are as they were.
use Rattle.std.proofs.Common.{◌≡◌, ◌≢◌, ℕ, suc, ◌+◌, List, [], ◌∷◌, ◌++◌, ◌⊎◌, inl, inr, refl, sym, ap, subst, ◌∙◌, arith, Option, Some, set, slice_get, length, remove}
use Rattle.std.proofs.lemmas.Bool.{cases_eq}
use Rattle.std.proofs.lemmas.Option.{slice_get_within}
use Rattle.span.specs.declared.id.SpanId.{SpanId}
use Rattle.span.specs.State.{SpanState}
use Rattle.page.specs.Words.{Words}
use Rattle.shard.specs.Group.{GroupState}
use Rattle.groups.specs.Group.{IsHeadOf}
use Rattle.shard.specs.State.{ShardState}
use Rattle.groups.proofs.Lists.{cases-set, same_some}
use Rattle.pool.specs.State.{PoolState, PooledState}
use Rattle.groups.proofs.Removed.{after-remove}
use Rattle.arena_core.specs.Plan.{IsCarriedOut, IsEmptyInPool, IsGuest, IsOwned, IsAbandoned, IsUnderWay}
use Rattle.marks.specs.Plans.{is_planned, with_next_done, OpenPlan}
use Rattle.arena_core.specs.State.{CoreState, with_plan, with_pool, with_shard}
use Rattle.marks.proofs.Lists.{slice_get-set_other, slice_get-set_same}
use Rattle.arena_core.proofs.PlanSteps.{AreAllClosedAsPlanned, AreAllClosedAsPlanned-set}

get-append : {X : Type 0} (xs ys : List X) (at : ℕ) (x : X) → slice_get ys at ≡ Some x → slice_get (xs ++ ys) (length xs + at) ≡ Some x
get-append {X = X} [] ys at x here = subst (λ n. slice_get ys n ≡ Some x) (let e : at ≡ length {A = X} [] + at = omega arith in e) here
get-append (z ∷ xs) ys at x here = subst (λ n. slice_get (z ∷ (xs ++ ys)) n ≡ Some x) (let e : suc (length xs + at) ≡ length (z ∷ xs) + at = omega arith in e) (get-append xs ys at x here)

-- the next pair is carried out, and the groups of the others are as they were
module _ (old new : CoreState) (plan : OpenPlan) (pair : SpanId × SpanId) (under : IsUnderWay old plan) (next : slice_get plan.pairs plan.done ≡ Some pair)
    (abandoned : (head : SpanId) (group : PooledState) → (head ≡ pair.0 → ⊥) → IsAbandoned old head group → IsAbandoned new head group)
    (owned : (head : SpanId) (group : GroupState) → (head ≡ pair.1 → ⊥) → IsOwned old head group → IsOwned new head group)
    (its : (group : GroupState) × IsOwned new pair.1 group) (now : IsCarriedOut new pair) where
  is_next : (k : ℕ) (p : SpanId × SpanId) → slice_get plan.pairs k ≡ Some p → k ≡ plan.done → pair ≡ p
  is_next k p at same = same_some (sym next ∙ ap (slice_get plan.pairs) (sym same) ∙ at)

  other_abandoned : (k : ℕ) (p : SpanId × SpanId) → slice_get plan.pairs k ≡ Some p → (k ≡ plan.done → ⊥) → p.0 ≡ pair.0 → ⊥
  other_abandoned k p at differ same = differ (under.abandoned_once k plan.done p pair at next same)

  other_owned : (k : ℕ) (p : SpanId × SpanId) → slice_get plan.pairs k ≡ Some p → (k ≡ plan.done → ⊥) → p.1 ≡ pair.1 → ⊥
  other_owned k p at differ same = differ (under.owned_once k plan.done p pair at next same)

  carried_still : (k : ℕ) (p : SpanId × SpanId) → slice_get plan.pairs k ≡ Some p → (k ≡ plan.done → ⊥) → IsCarriedOut old p → IsCarriedOut new p
  carried_still k p at differ (inl guest) = inl
      (record {
        owned = guest.owned;
        place = guest.place;
        is_owned = owned p.1 guest.owned (other_owned k p at differ) guest.is_owned;
        guest = guest.guest;
      })
  carried_still k p at differ (inr emptied) = inr
      (record {
        abandoned = emptied.abandoned;
        is_abandoned = abandoned p.0 emptied.abandoned (other_abandoned k p at differ) emptied.is_abandoned;
        no_page = emptied.no_page;
      })

  IsUnderWay-next : IsUnderWay new (with_next_done plan)
  IsUnderWay-next = record {
    within = let inside = slice_get_within plan.pairs plan.done pair next in omega arith;
    abandoned_once = under.abandoned_once;
    owned_once = under.owned_once;
    stands = λ k p at. elim (cases_eq k plan.done) [
      | inl same ↦ subst (λ (q : SpanId × SpanId). (group : GroupState) × IsOwned new q.1 group) (is_next k p at same) its
      | inr differ ↦ let (group, is) = under.stands k p at in (group, owned p.1 group (other_owned k p at differ) is)
    ];
    carried_out = λ k p below at. elim (cases_eq k plan.done) [
      | inl same ↦ subst (IsCarriedOut new) (is_next k p at same) now
      | inr differ ↦ carried_still k p at differ (under.carried_out k p (omega arith) at)
    ];
    waiting = λ k p past at.
        let differ : k ≡ plan.done → ⊥ = (λ e. omega arith) in
        let waits = under.waiting k p (omega arith) at in
        record {
          abandoned = waits.abandoned;
          owned = waits.owned;
          is_abandoned = abandoned p.0 waits.abandoned (other_abandoned k p at differ) waits.is_abandoned;
          is_owned = owned p.1 waits.owned (other_owned k p at differ) waits.is_owned;
          paged = waits.paged;
          class_is = waits.class_is;
          apart = waits.apart;
        };
  }

-- the pair's abandoned group leaves the pool, and its spans are the last guests of the owned one
pub record IsFold (old : CoreState) (pair : SpanId × SpanId) (number : ℕ) (after : ShardState) (pool : PoolState) : Type 0 where
  pub before : ShardState
  pub from : ℕ
  pub abandoned : PooledState
  pub at : ℕ
  pub owned : GroupState
  pub head : SpanState
  pub guests : List SpanState
  pub page : Option Words
  pub here : slice_get old.shards number ≡ Some before
  pub is_abandoned : IsHeadOf old.pool.groups pair.0 from abandoned
  pub is_owned : IsHeadOf before.groups pair.1 at owned
  pub head_is : head.id ≡ pair.0
  pub pool_is : pool.groups ≡ remove old.pool.groups from
  pub shard_is : after.groups ≡ set before.groups at (record owned { guests = owned.guests ++ head ∷ guests; page = page })

module _ (old : CoreState) (plan : OpenPlan) (pair : SpanId × SpanId) (number : ℕ) (after : ShardState) (pool : PoolState) (fold : IsFold old pair number after pool) where
  abbrev new : CoreState
  new = with_plan (with_pool (with_shard old number after) pool) (Some (with_next_done plan))

  abbrev joined : GroupState
  joined = record fold.owned { guests = fold.owned.guests ++ fold.head ∷ fold.guests; page = fold.page }

  -- the other groups stay

  IsAbandoned-other : (head : SpanId) (group : PooledState) → (head ≡ pair.0 → ⊥) → IsAbandoned old head group → IsAbandoned new head group
  IsAbandoned-other head group other is =
      let (now, there) = after-remove old.pool.groups fold.from is.index group is.head_of.here apart in
      record { index = now; head_of = record { here = ap (λ gs. slice_get gs now) fold.pool_is ∙ there; head_is = is.head_of.head_is } }
    where
      apart : is.index ≡ fold.from → ⊥
      apart same =
          let one : group ≡ fold.abandoned = same_some (sym is.head_of.here ∙ ap (slice_get old.pool.groups) same ∙ fold.is_abandoned.here) in
          other (sym is.head_of.head_is ∙ ap (λ (g : PooledState). g.head.id) one ∙ fold.is_abandoned.head_is)

  IsOwned-other : (head : SpanId) (group : GroupState) → (head ≡ pair.1 → ⊥) → IsOwned old head group → IsOwned new head group
  IsOwned-other head group other is = by_number (cases_eq is.number number)
    where
      by_index : slice_get fold.before.groups is.index ≡ Some group → (is.index ≡ fold.at) ⊎ (is.index ≢ fold.at) → slice_get after.groups is.index ≡ Some group
      by_index there (inl same) =
          let one : group ≡ fold.owned = same_some (sym there ∙ ap (slice_get fold.before.groups) same ∙ fold.is_owned.here) in
          absurd (other (sym is.head_of.head_is ∙ ap (λ (g : GroupState). g.head.id) one ∙ fold.is_owned.head_is))
      by_index there (inr differ) = ap (λ gs. slice_get gs is.index) fold.shard_is ∙ slice_get-set_other fold.before.groups fold.at is.index joined differ ∙ there

      by_number : (is.number ≡ number) ⊎ (is.number ≢ number) → IsOwned new head group
      by_number (inl same) =
          let one : is.shard ≡ fold.before = same_some (sym is.shard_is ∙ ap (slice_get old.shards) same ∙ fold.here) in
          record {
            number = number;
            shard = after;
            index = is.index;
            shard_is = slice_get-set_same old.shards number fold.before after fold.here;
            head_of = record { here = by_index (ap (λ (s : ShardState). slice_get s.groups is.index) (sym one) ∙ is.head_of.here) (cases_eq is.index fold.at); head_is = is.head_of.head_is };
          }
      by_number (inr differ) = record {
        number = is.number;
        shard = is.shard;
        index = is.index;
        shard_is = slice_get-set_other old.shards number is.number after differ ∙ is.shard_is;
        head_of = is.head_of;
      }

  IsOwned-joined : IsOwned new pair.1 joined
  IsOwned-joined = record {
    number = number;
    shard = after;
    index = fold.at;
    shard_is = slice_get-set_same old.shards number fold.before after fold.here;
    head_of = record { here = ap (λ gs. slice_get gs fold.at) fold.shard_is ∙ slice_get-set_same fold.before.groups fold.at fold.owned joined fold.is_owned.here; head_is = fold.is_owned.head_is };
  }

  pub IsGuest-folded : IsGuest new pair
  IsGuest-folded = record {
    owned = joined;
    place = length fold.owned.guests + 0;
    is_owned = IsOwned-joined;
    guest = (fold.head, get-append fold.owned.guests (fold.head ∷ fold.guests) 0 fold.head refl, fold.head_is);
  }

  -- the plan goes on
  module _ (under : IsUnderWay old plan) (next : slice_get plan.pairs plan.done ≡ Some pair) where
    pub IsUnderWay-folded : IsUnderWay new (with_next_done plan)
    IsUnderWay-folded = IsUnderWay-next old new plan pair under next IsAbandoned-other IsOwned-other (joined, IsOwned-joined) (inl IsGuest-folded)

    pub AreAllClosedAsPlanned-folded : AreAllClosedAsPlanned (Some plan) old.shards → AreAllClosedAsPlanned (Some (with_next_done plan)) new.shards
    AreAllClosedAsPlanned-folded all =
        AreAllClosedAsPlanned-set (Some (with_next_done plan)) old.shards number after all (λ index group there.
        elim (cases-set fold.before.groups fold.at joined index group (ap (λ gs. slice_get gs index) (sym fold.shard_is) ∙ there)) [
          | inl now ↦ subst (λ (g : GroupState). g.closed ≡ is_planned (Some plan) g.head.id) now.1 (all number fold.before fold.here fold.at fold.owned fold.is_owned.here)
          | inr was ↦ all number fold.before fold.here index group was.1
        ])

-- a pair whose abandoned group is empty

module _ (old : CoreState) (plan : OpenPlan) (under : IsUnderWay old plan) (pair : SpanId × SpanId) (next : slice_get plan.pairs plan.done ≡ Some pair) (emptied : IsEmptyInPool old pair) where
  abbrev passed : CoreState
  passed = with_plan old (Some (with_next_done plan))

  owned_too : (head : SpanId) (group : GroupState) → IsOwned old head group → IsOwned passed head group
  owned_too head group is = record { number = is.number; shard = is.shard; index = is.index; shard_is = is.shard_is; head_of = is.head_of }

  pooled_too : (head : SpanId) (group : PooledState) → IsAbandoned old head group → IsAbandoned passed head group
  pooled_too head group is = record { index = is.index; head_of = is.head_of }

  pub IsUnderWay-passed : IsUnderWay passed (with_next_done plan)
  IsUnderWay-passed =
      let (group, is) = under.stands plan.done pair next in
      IsUnderWay-next old passed plan pair under next (λ head of other. pooled_too head of) (λ head of other. owned_too head of)
      (group, owned_too pair.1 group is) (inr (record { abandoned = emptied.abandoned; is_abandoned = pooled_too pair.0 emptied.abandoned emptied.is_abandoned; no_page = emptied.no_page }))
