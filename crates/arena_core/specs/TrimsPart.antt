-- A trim of some groups of a shard.
use Rattle.std.specs.Prelude.{◌≡◌, ℕ, ◌≤◌, Err, Ok, Result, Some, slice_get}
use Rattle.shard.specs.State.{ShardState}
use Rattle.shard.specs.Trims.{TrimsSome}
use Rattle.shard.specs.declared.shard.trimming.TrimPart.{TrimPart}
use Rattle.arena_core.specs.State.{CoreState, with_shard}
use Rattle.arena_core.specs.declared.reply.Refusal.{Refusal}
use Rattle.arena_core.specs.declared.reply.Refusal.TheVariants.{Config}

-- up to so many groups of the shard of this number were trimmed, from the index on, and all other
-- shards are as they were
pub record TrimsPart (number from most : ℕ) (old : CoreState) (done : TrimPart) (new : CoreState) :
    Type 0 where
  pub before : ShardState
  pub after : ShardState
  pub here : slice_get old.shards number ≡ Some before
  pub trims : TrimsSome from most before done after
  pub rest : new ≡ with_shard old number after

-- there is no such shard, and nothing has changed
pub record CannotTrim (number : ℕ) (old : CoreState) (cause : Refusal) (new : CoreState) :
    Type 0 where
  pub cause_is : cause ≡ Config
  pub past : old.limits.shards ≤ number
  pub same : new ≡ old

-- such a trim, or why there is none
abbrev pub TrimsOrCannot : (number from most : ℕ) → CoreState → Result TrimPart Refusal → CoreState
    → Type 0
TrimsOrCannot number from most old (Ok done) new = TrimsPart number from most old done new
TrimsOrCannot number from most old (Err cause) new = CannotTrim number old cause new
