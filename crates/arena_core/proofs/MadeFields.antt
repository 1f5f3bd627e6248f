-- The fields once shards are made: they show what they showed.
use Rattle.std.proofs.Common.{◌≡◌, ◌⊎◌, inl, inr, ◌<◌, ◌≤◌, ℕ, List, arith, [], None, false, length, refl, slice_get, subst, sym, ap, ◌∙◌, Some}
use Rattle.std.proofs.lemmas.Bool.{cases_lt}
use Rattle.std.proofs.lemmas.Option.{slice_get_past}
use Rattle.groups.proofs.Lists.{same_some}
use Rattle.pool.specs.Calls.{HasNothingToAdopt}
use Rattle.span.specs.Log.{Value}
use Rattle.span.specs.PlainMap.{PlainMap}
use Rattle.arena_core.specs.Plain.{PlainStep}
use Rattle.marks.specs.Numbers.{AreWithin, Limits}
use Rattle.pool.specs.Sound.{IsSound as IsSoundPool}
use Rattle.pool.proofs.Arrived.{IsPooled-here}
use Rattle.shard.specs.State.{ShardState}
use Rattle.arena_core.specs.Filled.{CannotReach}
use Rattle.arena_core.specs.Made.{IsUnused, all_shards, new_shard_of}
use Rattle.arena_core.specs.Sound.{IsSound}
use Rattle.arena_core.specs.State.{CoreState}
use Rattle.arena_core.specs.Step.{CoreStep, MayAdopt, MayTake}
use Rattle.arena_core.specs.declared.event.Event.TheVariants.{Adopt, Begin, End, Put, Retire, Trim}
use Rattle.arena_core.specs.declared.reply.Refusal.{Refusal}
use Rattle.arena_core.specs.declared.reply.Refusal.TheVariants as refusal
use Rattle.arena_core.specs.declared.reply.Reply.TheVariants as reply
use Rattle.arena_core.proofs.Made.{unmade-get}
use Rattle.arena_core.specs.TrimsPart.{TrimsPart}
use Rattle.shard.specs.Trims.{trimmed}
use Rattle.shard.proofs.ChangedFrom.{changed_from-none}
use Rattle.arena_core.proofs.Steps.{with_shard-same}

-- a shard that was not made is unused
pub IsUnused-unmade : (core : CoreState) (made : List ShardState) (number : ℕ) → core.shards ≡ all_shards core.limits made → length made ≤ number → IsUnused core number
IsUnused-unmade core made number are past within = ap (λ xs. slice_get xs number) are ∙ unmade-get core.limits made number past within

-- why no shard is made for a put or an end
pub CoreStep-put_unreached : (core : CoreState) (number : ℕ) (value : Value) (cause : Refusal) → AreWithin core.limits → IsUnused core number → CannotReach cause core.limits.shards number number
    → CoreStep core (Put number value) (reply.Refused cause) core
CoreStep-put_unreached core number value refusal.Config within unused (inl past) = (past, refl)
CoreStep-put_unreached core number value refusal.Config within unused (inr past) = (past, refl)
CoreStep-put_unreached core number value refusal.OutOfMemory within unused (there, _) = (
  (
    new_shard_of core.limits number,
    record { here = unused there; running = refl },
    λ spent. elim spent.1 [ inl full ↦ absurd (omega (arith, full, within.page_limit.0)) | inr all ↦ absurd (omega (arith, all, within.span_limit.0)) ],
  ),
  refl,
)
CoreStep-put_unreached core number value cause within unused never = absurd never

pub PlainStep-put_unreached : (limits : Limits) (old new : PlainMap) (number shards : ℕ) (value : Value) (cause : Refusal) → CannotReach cause shards number number → new ≡ old
    → PlainStep limits old (Put number value) (reply.Refused cause) new
PlainStep-put_unreached limits old new number shards value refusal.Config cannot same = same
PlainStep-put_unreached limits old new number shards value refusal.OutOfMemory cannot same = same
PlainStep-put_unreached limits old new number shards value cause never same = absurd never

pub CoreStep-end_unreached : (core : CoreState) (number : ℕ) (cause : Refusal) → IsUnused core number → CannotReach cause core.limits.shards number number
    → CoreStep core (End number) (reply.Refused cause) core
CoreStep-end_unreached core number refusal.Config unused (inl past) = (past, refl)
CoreStep-end_unreached core number refusal.Config unused (inr past) = (past, refl)
CoreStep-end_unreached core number refusal.OutOfMemory unused (there, _) = ((new_shard_of core.limits number, record { here = unused there; running = refl }, λ closed. absurd cc), refl)
CoreStep-end_unreached core number cause unused never = absurd never

-- what an unused shard answers

pub CoreStep-begin_unused : (core : CoreState) (number : ℕ) → IsUnused core number → number < core.limits.shards → CoreStep core (Begin number) (reply.Refused refusal.Running) core
CoreStep-begin_unused core number unused there = ((new_shard_of core.limits number, record { here = unused there; running = refl }), refl)

pub CoreStep-trim_unused : (core : CoreState) (number : ℕ) → IsUnused core number → number < core.limits.shards → CoreStep core (Trim number) (reply.Trimmed 0) core
CoreStep-trim_unused core number unused there = record {
  before = new_shard_of core.limits number;
  after = new_shard_of core.limits number;
  here = unused there;
  trims = record { after = refl; count_is = refl };
  rest = sym (with_shard-same core number (new_shard_of core.limits number) (new_shard_of core.limits number) (unused there) refl);
}

pub TrimsPart-unused : (core : CoreState) (number from most : ℕ) → IsUnused core number → number < core.limits.shards → TrimsPart number from most core (record { groups = 0; pages = 0 }) core
TrimsPart-unused core number from most unused there =
    let shard = new_shard_of core.limits number in
    record {
      before = shard;
      after = shard;
      here = unused there;
      trims = record {
        groups_is = omega arith;
        pages_is = refl;
        after = ap (λ groups. record shard { groups = groups }) (sym (changed_from-none trimmed from []));
      };
      rest = sym (with_shard-same core number shard shard (unused there) refl);
    }

pub CoreStep-retire_unused : (core : CoreState) (number most : ℕ) → IsSoundPool core.pool → IsUnused core number → number < core.limits.shards
    → CoreStep core (Retire number most) (reply.Retired 0) core
CoreStep-retire_unused core number most sound unused there =
    let shard = new_shard_of core.limits number in
    record {
      before = shard;
      after = shard;
      pool = core.pool;
      here = unused there;
      unclosed = λ closed. absurd cc;
      retires = record {
        group_room = core.pool.group_room;
        span_room = core.pool.span_room;
        running = refl;
        moved = (refl, refl);
        at_most = omega arith;
        all = λ fewer index group at. absurd cc;
      };
      whole = record {
        gone = [];
        many = refl;
        stood = λ place group at. absurd cc;
        live = λ place group at. absurd cc;
        came = λ place group at. absurd cc;
        sparser_first = λ low high a b below at. absurd cc;
        sparser = λ place index group other at. absurd cc;
        fewer = refl;
        others = λ index group at. absurd cc;
        stays = λ index group at. IsPooled-here core.pool sound index group at;
        no_other = omega arith;
      };
      rest = sym (with_shard-same core number shard shard (unused there) refl);
    }

-- an unused shard may take a group
pub may_take-unused : (core : CoreState) → IsSound core → (number : ℕ) → IsUnused core number → MayTake core number
may_take-unused core sound number unused shard here = by_order (cases_lt number core.limits.shards)
  where
    by_order : (number < core.limits.shards) ⊎ (core.limits.shards ≤ number) → (shard.ended ≡ false) × (length shard.groups < shard.page_limit)
    by_order (inl within) =
        let same : new_shard_of core.limits number ≡ shard = same_some (sym (unused within) ∙ here) in
        subst (λ (s : ShardState). (s.ended ≡ false) × (length s.groups < s.page_limit)) same (refl, omega (arith, sound.groups.within.page_limit.0))
    by_order (inr past) = absurd (let none : None ≡ Some shard = sym (slice_get_past core.shards number (omega (arith, past, sound.groups.count))) ∙ here in cc)

may_adopt-unused : (core : CoreState) → IsSound core → (number : ℕ) → IsUnused core number → number < core.limits.shards → core.plan ≡ None → (HasNothingToAdopt core.pool → ⊥) → MayAdopt core number
may_adopt-unused core sound number unused there no_plan some = (
  new_shard_of core.limits number,
  record { here = unused there; running = refl },
  omega (arith, sound.groups.within.page_limit.0),
  no_plan,
  some,
)

-- why no shard is made for an adoption that nothing else refuses
pub CoreStep-adopt_unreached : (core : CoreState) → IsSound core → (number : ℕ) (cause : Refusal) → IsUnused core number → CannotReach cause core.limits.shards number number
    → core.plan ≡ None → (HasNothingToAdopt core.pool → ⊥) → CoreStep core (Adopt number) (reply.Refused cause) core
CoreStep-adopt_unreached core sound number refusal.Config unused (inl past) no_plan some = (past, no_plan, some, refl)
CoreStep-adopt_unreached core sound number refusal.Config unused (inr past) no_plan some = (past, no_plan, some, refl)
CoreStep-adopt_unreached core sound number refusal.OutOfMemory unused (there, _) no_plan some = (may_adopt-unused core sound number unused there no_plan some, refl)
CoreStep-adopt_unreached core sound number cause unused never no_plan some = absurd never
