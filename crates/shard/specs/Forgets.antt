-- Guests that can never be live again, which a shard forgets.
use Rattle.std.specs.Prelude.{◌≡◌, ℕ, length, map}
use Rattle.groups.specs.Dead.{dead_guests, without_dead}
use Rattle.shard.specs.State.{ShardState}

-- each group has lost its guests in which no slot is live, that many went, and all else stays
pub record Forgets (old : ShardState) (count : ℕ) (new : ShardState) : Type 0 where
  pub after : new ≡ record old { groups = map without_dead old.groups }
  pub count_is : count ≡ length (dead_guests old.groups)
