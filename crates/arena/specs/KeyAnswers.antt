-- What calls on a key answer.
use Rattle.std.specs.Prelude.{◌≡◌, ◌≤◌, ◌<◌, ◌⊎◌, ◌++◌, ℕ, Bool, true, false, List, Option, Some, None, IfSome, drop, if◌then◌else◌, length, map}
use Rattle.span.specs.Classes.{IsObject}
use Rattle.span.specs.Log.{Value}
use Rattle.span.specs.PlainMap.{PlainMap, with_value, without}
use Rattle.span.specs.declared.key.Key.{Key}
use Rattle.shard.specs.declared.shard.Found.{Found}
use Rattle.shard.specs.declared.shard.Found.TheVariants as found
use Rattle.shard.specs.declared.shard.Freed.{Freed}
use Rattle.shard.specs.declared.shard.Freed.TheVariants as freed
use Rattle.shard.specs.declared.shard.replacing.Replaced.{Replaced}
use Rattle.shard.specs.declared.shard.replacing.Replaced.TheVariants as replaced

-- the words of an object stand in the room, from its first place on, if there is room for all of
-- them; else the room is as it was
abbrev pub Writes : {W : Type 0} → (W → ℕ) → Value → List W → List W → Type 0
Writes word words room after = ((length words ≤ length room)
    × (map word after ≡ words ++ drop (length words) (map word room)))
    ⊎ ((length room < length words) × (after ≡ room))

-- what a look-up that found this answers, which is how many words there are, and leaves in the room
abbrev pub WritesFound : {W : Type 0} → (W → ℕ) → Option Value → List W → Option ℕ → List W → Type 0
WritesFound word None room answer after = (answer ≡ None) × (after ≡ room)
WritesFound word (Some words) room answer after = (answer ≡ Some (length words))
    × Writes word words room after

-- a look-up finds an object or nothing, answers which, and leaves its words in the room
abbrev pub LooksUp : {W : Type 0} → (W → ℕ) → List W → Option ℕ → List W → Type 0
LooksUp word room answer after = (found : Option Value) × IfSome found IsObject
    × WritesFound word found room answer after

-- how many changes the log of the span has in which a look-up was; none if the span is not there
abbrev pub changes_at : Found → Option ℕ
changes_at (found.Value value at) = Some at
changes_at (found.Gone at) = Some at
changes_at found.NotHere = None

-- the key of a set, whether it was done, and how many changes stood in its span's log before it;
-- none if the span is not there
abbrev pub set_answer : Key → Replaced → Option (Key × Bool × ℕ)
set_answer key (replaced.Yes at) = Some (key, true, at)
set_answer key (replaced.No at) = Some (key, false, at)
set_answer key replaced.NotHere = None

-- the key of a free, whether it was done, and how many changes stood in its span's log before it;
-- none if the span is not there
abbrev pub free_answer : Key → Freed → Option (Key × Bool × ℕ)
free_answer key (freed.Yes at) = Some (key, true, at)
free_answer key (freed.No at) = Some (key, false, at)
free_answer key freed.NotHere = None

-- it was done
abbrev pub is_done : Option (Key × Bool × ℕ) → Bool
is_done None = false
is_done (Some answer) = answer.1

-- the plain map after a set of the key to the object that was answered so
abbrev pub map_after_set : PlainMap → Key → Value → Option (Key × Bool × ℕ) → PlainMap
map_after_set map key words set = if is_done set then with_value map key words else map

-- the plain map after a free of the key that was answered so
abbrev pub map_after_free : PlainMap → Key → Option (Key × Bool × ℕ) → PlainMap
map_after_free map key freed = if is_done freed then without map key else map
