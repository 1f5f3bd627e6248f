-- The steps of a core whose shards and pool stand in its fields.
use Rattle.std.proofs.Common.{◌≡◌, ℕ, ◌<◌, true, false, arith, List, Some, ◌≤◌, Bor, get_or, ap, ◌∙◌, length, refl, set, slice_get, sym, Option, vec_len}
use Rattle.std.proofs.lemmas.Option.{slice_get_read, slice_get_within}
use Rattle.std.specs.Slice.{IsItemAt}
use Rattle.std.specs.Vec.{with_item}
use Rattle.span.specs.declared.limits.TheConstants.{MOST_PAGES, MOST_SHARDS}
use Rattle.shard.specs.State.{ShardState}
use Rattle.pool.specs.State.{PoolState}
use Rattle.arena_core.specs.declared.machine.Core.TheInside.{Inside}
use Rattle.arena_core.specs.Kept.{shards_of, state_of}
use Rattle.arena_core.specs.Made.{all_shards}
use Rattle.arena_core.specs.Moved.{WhereaboutsState}
use Rattle.arena_core.specs.Sound.{HasSoundGroups, IsSoundAt}
use Rattle.arena_core.specs.State.{with_pool, with_shard, CoreState}
use Rattle.arena_core.proofs.Made.{made-get, made-set}
use Rattle.arena_core.proofs.FilledLists.{no_item}
use Rattle.marks.specs.Numbers.{Limits}
use Rattle.marks.specs.Plans.{OpenPlan}
use Rattle.arena_core.specs.Rings.{RingState}
use Rattle.span.specs.State.{SpanState}

-- the core of these parts
abbrev pub core_of : Limits → List ShardState → PoolState → Option OpenPlan → List (List RingState) → List SpanState → CoreState
core_of limits shards pool plan rings forgotten = record {
  limits = limits;
  shards = shards;
  pool = pool;
  plan = plan;
  rings = rings;
  forgotten = forgotten;
}

-- the fields with another shard at this number
abbrev pub with_shard_at : {L : Type 0} → Inside L → ℕ → ShardState → Inside L
with_shard_at c number after = record c { shards = with_item c.shards number after }

-- the fields with another shard at this number, another pool and other whereabouts
abbrev pub with_both_at : {L : Type 0} → Inside L → ℕ → ShardState → PoolState → WhereaboutsState → Inside L
with_both_at c number after pool whereabouts = record c { shards = with_item c.shards number after; pool = pool; whereabouts = whereabouts }

-- the shard that was read at this number
pub record IsRead {L : Type 0} (c : Inside L) (number : ℕ) (shard : ShardState) : Type 0 where
  pub within : number < vec_len c.shards
  pub value : shard ≡ get_or c.shards.items number shard

-- it was made
pub made-read : {L : Type 0} (c : Inside L) (number : ℕ) (shard : ShardState) → IsRead c number shard → slice_get c.shards.items number ≡ Some shard
made-read c number shard read = slice_get_read c.shards.items (vec_len c.shards) number shard c.shards.ok.0 read.within read.value

pub shard-read : {L : Type 0} (c : Inside L) (number : ℕ) (shard : ShardState) → IsRead c number shard → slice_get (shards_of c) number ≡ Some shard
shard-read c number shard read = made-get c.limits c.shards.items number shard (made-read c number shard read)

pub set-read : {L : Type 0} (c : Inside L) (number : ℕ) (before after : ShardState) → IsRead c number before → all_shards c.limits (set c.shards.items number after) ≡ set (shards_of c) number after
set-read c number before after read = made-set c.limits c.shards.items number after (omega (arith, read.within, c.shards.ok.0))

pub state_of-with_shard_at : {L : Type 0} (c : Inside L) (number : ℕ) (before after : ShardState) → IsRead c number before
    → state_of (with_shard_at c number after) ≡ with_shard (state_of c) number after
state_of-with_shard_at c number before after read = ap (λ shards. record (state_of c) { shards = shards }) (set-read c number before after read)

pub state_of-with_both_at : {L : Type 0} (c : Inside L) (number : ℕ) (before after : ShardState) (pool : PoolState) (whereabouts : WhereaboutsState) → IsRead c number before
    → state_of (with_both_at c number after pool whereabouts) ≡ with_pool (with_shard (state_of c) number after) pool
state_of-with_both_at c number before after pool whereabouts read = ap (λ shards. record (state_of c) { shards = shards; pool = pool }) (set-read c number before after read)

-- fields that show as they did
pub state_of-unchanged : {L : Type 0} (c now : Inside L) → now.limits ≡ c.limits → now.plan ≡ c.plan → now.rings ≡ c.rings → now.forgotten.items ≡ c.forgotten.items
    → shards_of now ≡ shards_of c → now.pool ≡ c.pool → state_of now ≡ state_of c
state_of-unchanged c now limits plan rings gone shards pool = λ i. core_of (limits i) (shards i) (pool i) (plan i) (rings i) (gone i)

-- the shard that a look-up gave, where there is one
pub shard-found : (shards : List ShardState) (number : ℕ) (shard : Bor ShardState) → IsItemAt shards number (Some shard) → slice_get shards number ≡ Some shard.now
shard-found shards number shard (is, value, some, (within, holds), all) = slice_get_read shards (length shards) number shard.now refl within value

-- the shard that a look-up among those that were made gave
pub shard-lent : {L : Type 0} (c : Inside L) (made : List ShardState) (number : ℕ) (shard : Bor ShardState) → made ≡ c.shards.items → IsItemAt made number (Some shard)
    → slice_get (shards_of c) number ≡ Some shard.now
shard-lent c made number shard are at = made-get c.limits c.shards.items number shard.now (ap (λ xs. slice_get xs number) (sym are) ∙ shard-found made number shard at)

pub shard-past : {L : Type 0} (c : Inside L) (made : List ShardState) (number : ℕ) → made ≡ c.shards.items → length made ≤ number → length c.shards.items ≤ number
shard-past c made number are past = omega (arith, ap length are)

-- a look-up that gave no shard
pub no_read : {L : Type 0} (c : Inside L) (number : ℕ) → (number < vec_len c.shards → false ≡ true) → length c.shards.items ≤ number
no_read c number none = no_item c.shards.items (vec_len c.shards) number c.shards.ok.0 none

-- as many pages as a shard has at most, and as many shards as come at most
pub record IsFew (index : ℕ) (shard : ShardState) : Type 0 where
  pub shards : index < MOST_SHARDS
  pub pages : length shard.groups ≤ MOST_PAGES

pub IsFew-fields : {L : Type 0} (c : Inside L) (shards : List ShardState) (index : ℕ) (shard : ShardState) → HasSoundGroups (state_of c)
    → shards ≡ c.shards.items → index < length shards → shard ≡ get_or shards index shard → IsFew index shard
IsFew-fields c shards index shard kept are within read =
    let there : slice_get c.shards.items index ≡ Some shard = ap (λ xs. slice_get xs index) (sym are) ∙ slice_get_read shards (length shards) index shard refl within read in
    let here : slice_get (shards_of c) index ≡ Some shard = made-get c.limits c.shards.items index shard there in
    let sound : IsSoundAt (state_of c).limits index shard = kept.shards index shard here in
    record {
      shards = omega (arith, kept.within.shards.1, slice_get_within (shards_of c) index shard here, kept.count);
      pages = omega (arith, sound.sound.limit, sound.page_limit_is, kept.within.page_limit.1);
    }
