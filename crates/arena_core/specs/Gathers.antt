-- How many groups of a shard a gathering looks at, and why it looks at none.
use Rattle.std.specs.Prelude.{◌≡◌, ℕ, ◌-◌, ◌<◌, ◌≤◌, List, Some, length, min, slice_get}
use Rattle.shard.specs.State.{ShardState}
use Rattle.arena_core.specs.declared.reply.Refusal.{Refusal}
use Rattle.arena_core.specs.declared.reply.Refusal.TheVariants.{Config, OutOfMemory}

-- of the groups of the shard of this number, those from this one on are looked at, up to so many
pub record Gathers (shards : List ShardState) (number from most count : ℕ) : Type 0 where
  pub shard : ShardState
  pub there : slice_get shards number ≡ Some shard
  pub count_is : count ≡ min most (length shard.groups - from)

-- the cause, of so many shards, for the one of this number: there is none of the number, or there
-- is, and memory was refused
abbrev pub CannotGather : ℕ → ℕ → Refusal → Type 0
CannotGather shards number Config = shards ≤ number
CannotGather shards number OutOfMemory = number < shards
CannotGather shards number refusal = ⊥
