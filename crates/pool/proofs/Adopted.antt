-- An adoption: the lowest group that has a page, and what the shard asks of it.
use Rattle.std.proofs.Common.{◌≡◌, ℕ, false, length, Option, Some, None, slice_get, ap, sym, subst, ◌∙◌, refl, inl, inr, arith, rules, ◌≢◌, MatchOption}
use Rattle.std.specs.Option.{IsSome}
use Rattle.std.proofs.lemmas.Bool.{cases_eq, cases_lt}
use Rattle.span.specs.declared.id.SpanId.{SpanId}
use Rattle.shard.specs.Moves.{MayTakeIn, TakesIn, with_room}
use Rattle.groups.specs.Whole.{WholeState, spans_moved, whole_of}
use Rattle.shard.specs.Sound.{IsSound as IsSoundShard}
use Rattle.shard.specs.State.{ShardState}
use Rattle.groups.proofs.Heads.{one_of_head}
use Rattle.groups.proofs.Lists.{same_some}
use Rattle.pool.specs.Calls.{Adopts, HasDoubled, HasNoPage, HasNothingToAdopt, IsDoubled, IsFirstPaged, IsHeadOfLowest, IsLowestPaged, Lifts, WouldDouble}
use Rattle.pool.specs.Noted.{IsHeadOfFirstPaged}
use Rattle.pool.specs.Sound.{IsSound}
use Rattle.pool.specs.State.{PoolState, PooledState}
use Rattle.groups.specs.Group.{Ascend, HasNoHead, IsHeadOf, spans_of}
use Rattle.groups.proofs.Standing.{head_id}

some_page : {X : Type 0} (o : Option X) → o ≡ None → IsSome o → ⊥
some_page o is some = absurd cc

-- one group is the lowest that has a page
pub one_lowest : (pool : PoolState) → Ascend pool.groups → (i j : ℕ) (a b : PooledState) → IsLowestPaged pool i a → IsLowestPaged pool j b → a ≡ b
one_lowest pool ascend i j a b one other = search (rules, cases_lt, cases_eq, same_some)

-- the first group that has a page is the lowest
pub IsLowestPaged-first : (pool : PoolState) → Ascend pool.groups → (index : ℕ) (group : PooledState) → IsFirstPaged pool.groups index group → IsLowestPaged pool index group
IsLowestPaged-first pool ascend index group first = search (rules, cases_lt, some_page, cases_eq, same_some)

pub lowest-first : (pool : PoolState) → Ascend pool.groups → (found : Option SpanId)
    → MatchOption found (HasNoPage pool.groups) (IsHeadOfFirstPaged pool.groups) → MatchOption found (HasNothingToAdopt pool) (IsHeadOfLowest pool)
lowest-first pool ascend None none = none
lowest-first pool ascend (Some head) first = (first.0, first.1, IsLowestPaged-first pool ascend first.0 first.1 first.2, first.3)

pub IsDoubled-lowest : (pool : PoolState) → Ascend pool.groups → (shard : ShardState) (index : ℕ) (group : PooledState) → IsLowestPaged pool index group
    → IsDoubled pool shard → HasDoubled shard (spans_of group)
IsDoubled-lowest pool ascend shard index group lowest (other, g, its, doubled) = subst (λ (x : PooledState). HasDoubled shard (spans_of x))
    (one_lowest pool ascend other index g group its lowest) doubled

-- one group has the head
pub one_head : (pool : PoolState) → IsSound pool → (i j : ℕ) (a b : PooledState) → slice_get pool.groups i ≡ Some a → slice_get pool.groups j ≡ Some b → a.head.id ≡ b.head.id → a ≡ b
one_head pool sound i j a b at_i at_j same = one_of_head head_id pool.groups sound.ascending i j a b at_i at_j same

-- one group has the head, whose spans are asked
pub WouldDouble-here : (pool : PoolState) → IsSound pool → (shard : ShardState) (head : SpanId) (index : ℕ) (group : PooledState)
    → IsHeadOf pool.groups head index group → WouldDouble pool shard head → HasDoubled shard (spans_of group)
WouldDouble-here pool sound shard head index group from (other, g, its, doubled) =
    subst (λ (x : PooledState). HasDoubled shard (spans_of x)) (one_head pool sound other index g group its.here from.here (its.head_is ∙ sym from.head_is)) doubled

pub WouldDouble-none : (pool : PoolState) (shard : ShardState) (head : SpanId) → HasNoHead pool.groups head → WouldDouble pool shard head → ⊥
WouldDouble-none pool shard head none (index, group, its, doubled) = none index group its

module _ (old new : PoolState) (sound : IsSound old) (shard : ShardState) (sound_shard : IsSoundShard shard) (index : ℕ) (group : PooledState)
    (lowest : IsLowestPaged old index group) (whole : WholeState) (lifts : Lifts old group.head.id (Some whole) new) where
  whole_is : whole ≡ whole_of group
  whole_is = lifts.3 ∙ ap whole_of (one_head old sound lifts.0 index lifts.1 group lifts.2.here lowest.here lifts.2.head_is)

  spans_are : spans_moved whole ≡ spans_of group
  spans_are = ap spans_moved whole_is

  pub MayTakeIn-adopted : (IsDoubled old shard → ⊥) → shard.page_limit ≢ length shard.groups → shard.ended ≡ false → MayTakeIn (with_room shard None (length (spans_of group))) whole
  MayTakeIn-adopted apart limit running = record {
    elsewhere = λ at span there other g here place found.
        apart (index, group, lowest, (at, span, ap (λ xs. slice_get xs at) (sym spans_are) ∙ there, inr (λ away. away other g here place found)));
    opened = λ at span there mine. elim (cases_lt span.id.serial shard.opened) [
      | inl below ↦ below
      | inr past ↦ absurd (apart (index, group, lowest, (at, span, ap (λ xs. slice_get xs at) (sym spans_are) ∙ there, inl (mine, past))))
    ];
    pages = let most = sound_shard.limit in omega arith;
    running = running;
    group_room = omega arith;
    span_room = let same = ap length spans_are in omega arith;
  }

  pub Adopts-taken : (adopter : ShardState) → TakesIn (with_room shard None (length (spans_of group))) whole adopter → Adopts old shard group.head.id new adopter
  Adopts-taken adopter takes = record {
    whole = whole;
    index = index;
    group = group;
    lowest = lowest;
    head_is = refl;
    lifts = lifts;
    takes_in = subst (λ (n : ℕ). TakesIn (with_room shard None n) whole adopter) (ap length (sym spans_are)) takes;
  }
