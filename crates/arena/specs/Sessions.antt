-- What the calls of a session tell, whose own shard is asked first.
use Rattle.std.specs.Prelude.{◌≡◌, ℕ, Bool, false, true, List, MatchResult, None, Option, Result, Some}
use Rattle.groups.specs.Group.{IsElsewhere}
use Rattle.span.specs.Log.{Value}
use Rattle.span.specs.PlainMap.{may_set}
use Rattle.span.specs.declared.class.Class.{Class}
use Rattle.span.specs.declared.key.Key.{Key}
use Rattle.shard.specs.Calls.{Frees, Gets, IsSpent, Sets}
use Rattle.shard.specs.Shown.{shown}
use Rattle.shard.specs.State.{ShardState}
use Rattle.shard.specs.declared.shard.Found.{Found}
use Rattle.shard.specs.declared.shard.Freed.{Freed}
use Rattle.shard.specs.declared.shard.replacing.Replaced.{Replaced}
use Rattle.latch.specs.declared.latch.Busy.{Busy}
use Rattle.arena.specs.KeyAnswers.{LooksUp, WritesFound, changes_at, free_answer, set_answer}

-- what the own shard tells is told, where it has the key's span; else another place tells it
abbrev pub TellsOwn : {Told : Type 0} → Option Told → Told → Type 0
TellsOwn None told = Unit {0}
TellsOwn (Some own) told = told ≡ own

-- the shard has not ended, and has no room for an object of the class
abbrev pub IsSpentRunning : Class → ShardState → Type 0
IsSpentRunning class shard = (shard.ended ≡ false) × IsSpent class shard

-- a look-up whose own shard tells how many changes the span's log has, and that the key has this
-- value: it tells both, with the value's words in the room; where the own shard does not have the
-- span, it tells and leaves in the room what another place finds, or that this place is not to be
-- had, with the room as it was
abbrev pub LooksUpOwn : {W : Type 0} → (W → ℕ) → Option ℕ → Option Value → List W
    → Result (Key × Option ℕ × ℕ) Busy → List W → Type 0
LooksUpOwn word (Some at) value room told after = MatchResult told (λ got. (got.2 ≡ at)
    × WritesFound word value room got.1 after) (λ busy. ⊥)
LooksUpOwn word None value room told after = MatchResult told (λ got. LooksUp word room got.1 after)
    (λ busy. after ≡ room)

-- the key is looked up in the own shard, and elsewhere only if that does not have its span
abbrev pub LooksUpFirstIn : {W : Type 0} → (W → ℕ) → ShardState → Key → List W
    → Result (Key × Option ℕ × ℕ) Busy → List W → Type 0
LooksUpFirstIn word shard key room told after = (what : Found) × Gets shard key what
    × LooksUpOwn word (changes_at what) ((shown shard).value_of key) room told after

-- the key is set in the own shard, and elsewhere only if that does not have its span
abbrev pub SetsFirstIn : ShardState → Key → Value → Key × Bool × ℕ → ShardState → Type 0
SetsFirstIn old key words told new = (what : Replaced) × Sets old key words what new
    × TellsOwn (set_answer key what) told

-- if the own shard has the key's span, a set of the key to the object may be done
abbrev pub MaySetHere : ShardState → Key → Value → Type 0
MaySetHere shard key words = (IsElsewhere shard.groups key.span → ⊥)
    → may_set (shown shard) key words ≡ true

-- the key is freed in the own shard, and elsewhere only if that does not have its span
abbrev pub FreesFirstIn : ShardState → Key → Key × Bool × ℕ → ShardState → Type 0
FreesFirstIn old key told new = (what : Freed) × Frees old key what new
    × TellsOwn (free_answer key what) told
