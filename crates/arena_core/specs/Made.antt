-- How a list shows that goes only as far as its items were made. No public clause cites this
-- module.
use Rattle.std.specs.Prelude.{◌≡◌, ℕ, zero, suc, ◌+◌, ◌<◌, List, [], ◌∷◌, Some, slice_get}
use Rattle.shard.specs.State.{ShardState}
use Rattle.marks.specs.Numbers.{Limits}
use Rattle.arena_core.specs.State.{CoreState, new_shard}

-- the items, and behind their end the filling of each place, up to n places; the first place is
-- `from`
abbrev pub completed : {T : Type 0} → ℕ → ℕ → (ℕ → T) → List T → List T
completed from zero filling items = items
completed from (suc n) filling [] = filling from ∷ completed (from + 1) n filling []
completed from (suc n) filling (item ∷ items) = item ∷ completed (from + 1) n filling items

-- a new shard of a core of these numbers, by its own number
abbrev pub new_shard_of : Limits → ℕ → ShardState
new_shard_of limits =
    new_shard limits.page_limit limits.span_limit limits.slot_limit limits.gens

-- all shards of a core of these numbers: those that were made, and new ones behind them
abbrev pub all_shards : Limits → List ShardState → List ShardState
all_shards limits made = completed 0 limits.shards (new_shard_of limits) made

-- the shard of this number is new, if there is one
abbrev pub IsUnused : CoreState → ℕ → Type 0
IsUnused core number = number < core.limits.shards
    → slice_get core.shards number ≡ Some (new_shard_of core.limits number)
