-- How far a walk over the live keys of an arena has come. Keys come by the shards that opened their
-- spans, by serials, and then by slots.
use Rattle.std.specs.Prelude.{◌≡◌, ◌⊎◌, ◌+◌, ◌<◌, ◌≤◌}
use Rattle.span.specs.declared.key.Key.{Key}
use Rattle.arena.specs.declared.walk.Walk.{Walk}

-- the walk stands where it stood, or further on
abbrev pub HasGoneOn : Walk → Walk → Type 0
HasGoneOn old new = (old.shard < new.shard) ⊎ ((new.shard ≡ old.shard)
    × ((old.serial < new.serial) ⊎ ((new.serial ≡ old.serial) × (old.slot ≤ new.slot))))

-- where the key is
abbrev pub walk_at : Key → Walk
walk_at key = record { shard = key.span.shard; serial = key.span.serial; slot = key.slot }

-- the walk stands behind the key
abbrev pub walk_after : Key → Walk
walk_after key = record { shard = key.span.shard; serial = key.span.serial; slot = key.slot + 1 }

-- the key is where the walk stands, or further on
abbrev pub IsAhead : Walk → Key → Type 0
IsAhead walk key = HasGoneOn walk (walk_at key)
