-- What calls on a key do in the shard or the pool that is lent to them, and whose answer theirs is.
use Rattle.std.specs.Prelude.{◌≡◌, ◌⊎◌, ℕ, Bool, true, false, IfSome, List, Option, Some, None, Result, Ok, Err, MatchOption, option_map}
use Rattle.std.specs.declared.alloc.AllocError.{AllocError}
use Rattle.groups.specs.Group.{IsElsewhere}
use Rattle.span.specs.Log.{Value}
use Rattle.span.specs.Order.{HasNoneFrom, IsFirstFrom}
use Rattle.span.specs.PlainMap as plain
use Rattle.span.specs.declared.id.SpanId.{SpanId}
use Rattle.span.specs.declared.key.Key.{Key}
use Rattle.shard.specs.Calls.{Frees, Gets, Sets}
use Rattle.shard.specs.Shown.{shown}
use Rattle.shard.specs.State.{ShardState}
use Rattle.shard.specs.declared.shard.Found.{Found}
use Rattle.shard.specs.declared.shard.Freed.{Freed}
use Rattle.shard.specs.declared.shard.replacing.Replaced.{Replaced}
use Rattle.pool.specs.Calls.{Frees as FreesPooled, Gets as GetsPooled, Sets as SetsPooled}
use Rattle.pool.specs.Shown.{shown as shown_by_pool}
use Rattle.pool.specs.State.{PoolState}
use Rattle.arena.specs.KeyAnswers.{WritesFound, changes_at, free_answer, set_answer}

-- the answer to a call is that of some shard, which does this, or of some pool, which does that, or
-- what is answered of a span that is nowhere; of which moment that state is stays open
abbrev pub IsAnswered : {W Answer : Type 0}
    → (ShardState → List W → Option Answer → ShardState → List W → Type 0)
    → (PoolState → List W → Option Answer → PoolState → List W → Type 0)
    → (Answer → Type 0) → List W → Answer → List W → Type 0
IsAnswered in_shard in_pool nowhere room answer after =
    ((old : ShardState) × (new : ShardState) × in_shard old room (Some answer) new after)
    ⊎ (((old : PoolState) × (new : PoolState) × in_pool old room (Some answer) new after)
    ⊎ (nowhere answer × (after ≡ room)))

-- the same of a call that is made in one place: it is answered so, if the span is there
abbrev pub IsAnsweredIfThere : {W Answer : Type 0}
    → (ShardState → List W → Option Answer → ShardState → List W → Type 0)
    → (PoolState → List W → Option Answer → PoolState → List W → Type 0)
    → (Answer → Type 0) → List W → Option Answer → List W → Type 0
IsAnsweredIfThere in_shard in_pool nowhere room made after =
    IfSome made (λ answer. IsAnswered in_shard in_pool nowhere room answer after)

-- a look-up of the key answers how many words its value there has, and how many changes its span's
-- log has, and writes these words into the room, if there is enough; or it answers none and does
-- nothing, exactly if its span is not there
abbrev pub LooksUpIn : {W : Type 0} → (W → ℕ) → Key → ShardState → List W
    → Option (Key × Option ℕ × ℕ) → ShardState → List W → Type 0
LooksUpIn word key old room answer new after = (new ≡ old)
    × ((what : Found) × Gets old key what × (option_map (λ got. got.2) answer ≡ changes_at what))
    × MatchOption answer (after ≡ room) (λ got. (got.0 ≡ key)
    × WritesFound word ((shown old).value_of key) room got.1 after)

-- the same in the pool
abbrev pub LooksUpPooled : {W : Type 0} → (W → ℕ) → Key → PoolState → List W
    → Option (Key × Option ℕ × ℕ) → PoolState → List W → Type 0
LooksUpPooled word key old room answer new after = (new ≡ old)
    × ((what : Found) × GetsPooled old key what
    × (option_map (λ got. got.2) answer ≡ changes_at what))
    × MatchOption answer (after ≡ room) (λ got. (got.0 ≡ key)
    × WritesFound word ((shown_by_pool old).value_of key) room got.1 after)

-- nothing is found of a key whose span is nowhere, after no change
abbrev pub FindsNothing : Key → Key × Option ℕ × ℕ → Type 0
FindsNothing key got = got ≡ (key, None, 0)

-- a set of the key answers whether it was done, and how many changes its span's log had; or it
-- answers none and does nothing, exactly if its span is not there; memory is refused only to one
-- that would be done, and nothing is done then
abbrev pub SetsIn : Key → Value → ShardState → Option (Result (Key × Bool × ℕ) AllocError)
    → ShardState → Type 0
SetsIn key words old None new = IsElsewhere old.groups key.span × (new ≡ old)
SetsIn key words old (Some (Ok set)) new = (what : Replaced) × Sets old key words what new
    × (Some set ≡ set_answer key what)
SetsIn key words old (Some (Err error)) new = (plain.may_set (shown old) key words ≡ true)
    × (new ≡ old)

-- the same in the pool
abbrev pub SetsInPool : Key → Value → PoolState → Option (Result (Key × Bool × ℕ) AllocError)
    → PoolState → Type 0
SetsInPool key words old None new = IsElsewhere old.groups key.span × (new ≡ old)
SetsInPool key words old (Some (Ok set)) new = (what : Replaced) × SetsPooled old key words what new
    × (Some set ≡ set_answer key what)
SetsInPool key words old (Some (Err error)) new =
    (plain.may_set (shown_by_pool old) key words ≡ true) × (new ≡ old)

-- nothing is set of a key whose span is nowhere
abbrev pub SetsNothing : Key → Result (Key × Bool × ℕ) AllocError → Type 0
SetsNothing key answer = answer ≡ Ok (key, false, 0)

-- a free of the key answers whether it was done, and how many changes its span's log had; or it
-- answers none and does nothing, exactly if its span is not there
abbrev pub FreesIn : Key → ShardState → Option (Key × Bool × ℕ) → ShardState → Type 0
FreesIn key old answer new = (what : Freed) × Frees old key what new
    × (answer ≡ free_answer key what)

-- the same in the pool
abbrev pub FreesInPool : Key → PoolState → Option (Key × Bool × ℕ) → PoolState → Type 0
FreesInPool key old answer new = (what : Freed) × FreesPooled old key what new
    × (answer ≡ free_answer key what)

-- nothing is freed of a key whose span is nowhere
abbrev pub FreesNothing : Key → Key × Bool × ℕ → Type 0
FreesNothing key answer = answer ≡ (key, false, 0)

-- a look-up of the key is answered as by some shard or pool, or its span is nowhere
abbrev pub IsLookedUp : {W : Type 0} → (W → ℕ) → Key → List W → Key × Option ℕ × ℕ → List W
    → Type 0
IsLookedUp word key = IsAnswered (LooksUpIn word key) (LooksUpPooled word key) (FindsNothing key)

-- a set of the key is answered as by some shard or pool, or its span is nowhere
abbrev pub IsSet : Key → Value → Result (Key × Bool × ℕ) AllocError → Type 0
IsSet key words answer =
    ((old : ShardState) × (new : ShardState) × SetsIn key words old (Some answer) new)
    ⊎ (((old : PoolState) × (new : PoolState) × SetsInPool key words old (Some answer) new)
    ⊎ SetsNothing key answer)

-- a free of the key is answered as by some shard or pool, or its span is nowhere
abbrev pub IsFreed : Key → Key × Bool × ℕ → Type 0
IsFreed key answer = ((old : ShardState) × (new : ShardState) × FreesIn key old (Some answer) new)
    ⊎ (((old : PoolState) × (new : PoolState) × FreesInPool key old (Some answer) new)
    ⊎ FreesNothing key answer)

-- a look for the span's first live key at a slot from this one on answers it, or that there is
-- none; or it answers nothing, exactly if the span is not there
abbrev pub FindsFirstIn : SpanId → ℕ → ShardState → Option (Option Key) → ShardState → Type 0
FindsFirstIn id slot old None new = IsElsewhere old.groups id × (new ≡ old)
FindsFirstIn id slot old (Some first) new = (IsElsewhere old.groups id → ⊥) × (new ≡ old)
    × MatchOption first (HasNoneFrom (shown old) id slot) (IsFirstFrom (shown old) id slot)

-- the same in the pool
abbrev pub FindsFirstInPool : SpanId → ℕ → PoolState → Option (Option Key) → PoolState → Type 0
FindsFirstInPool id slot old None new = IsElsewhere old.groups id × (new ≡ old)
FindsFirstInPool id slot old (Some first) new = (IsElsewhere old.groups id → ⊥) × (new ≡ old)
    × MatchOption first (HasNoneFrom (shown_by_pool old) id slot)
    (IsFirstFrom (shown_by_pool old) id slot)
