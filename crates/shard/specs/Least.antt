-- Bytes beside the groups: at least so many slots are live.
use Rattle.std.specs.Prelude.{◌≡◌, ◌<◌, ℕ, List, false}
use Rattle.groups.specs.Least as counts
use Rattle.shard.specs.Group.{GroupState}

-- a byte that is not 0 says that the group is open, and that at least so many of its slots are live
abbrev pub IsLeast : ℕ → GroupState → Type 0
IsLeast byte group = 0 < byte → (group.closed ≡ false) × counts.IsLeast byte group

-- each group that has a byte at its index has such a one
abbrev pub KnowsLeast : List GroupState → List ℕ → Type 0
KnowsLeast groups bytes = counts.KnowsLeast IsLeast groups bytes
