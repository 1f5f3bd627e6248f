-- What a run keeps of the replies to its lines, and of the report. No public clause cites this
-- module.
use Rattle.std.specs.Prelude.{◌≡◌, ◌<◌, ◌≤◌, ◌+◌, ◌++◌, ℕ, Bool, true, false, List, [], filter, length, map, slice_get, Option, Some, None, unwrap_or, if◌then◌else◌}
use Rattle.std.specs.List.{AllByRecursion, flat_map}
use Rattle.span.specs.declared.key.Key.{Key}
use Rattle.trace_runner.specs.Made.{Asked, Calls, Did, Made, asked_of}
use Rattle.trace_runner.specs.Answers.{told_of}
use Rattle.trace_runner.specs.News.{news_of}
use Rattle.trace_runner.specs.Report.{line_of_answer}
use Rattle.trace_runner.specs.Runs.{key_at, key_bound, key_made}
use Rattle.trace_text.specs.Causes.{binding_of}
use Rattle.trace_text.specs.Earlier.{key_count}
use Rattle.trace_text.specs.declared.line.Binding.{Binding}
use Rattle.trace_text.specs.declared.line.Call.{Call}
use Rattle.trace_text.specs.declared.line.Call.TheVariants.{Get, Set, Free, Sweep, Later}
use Rattle.trace_text.specs.declared.line.Line.{Line}
use Rattle.trace_text.specs.declared.line.Line.TheVariants as line
use Rattle.trace_text.specs.declared.name.Reference.{Reference}
use Rattle.arena_core.specs.declared.event.Event.TheVariants.{Put}
use Rattle.trace_runner.specs.declared.replies.Replies.{Replies}
use Rattle.trace_runner.specs.declared.report.Answer.{Answer}

-- ---- what is kept

pub record Kept : Type 0 where
  -- of each put, in order, the key that it gave out
  pub keys : List (Option Key)
  -- how many answers there are
  pub count : ℕ
  -- the report tells the answers
  pub asked : Bool
  -- the report so far
  pub text : List ℕ

abbrev pub kept_in : Replies → Kept
kept_in r =
    record {
      keys = r.keys.items;
      count = length r.keys.items + r.others;
      asked = r.asked;
      text = r.text.items;
    }

-- of what is kept, no more than the report changed
abbrev pub KeepsButText : (old new : Replies) → Type 0
KeepsButText old new = kept_in new ≡ record (kept_in old) { text = new.text.items }

abbrev pub kept_none : Bool → Kept
kept_none asked = record { keys = []; count = 0; asked = asked; text = [] }

-- the report so far goes on with the answer on the line of that number, where it tells the answers
abbrev pub with_answer : Replies → (number : ℕ) → Answer → List ℕ
with_answer r number answer =
    r.text.items ++ (if r.asked then line_of_answer number answer else [])

-- what is asked for is a put
abbrev pub is_put : Asked → Bool
is_put (Calls (Put shard value)) = true
is_put _ = false

-- of the puts among what was done, in order, the keys that they gave out
abbrev pub keys_of : List Made → List (Option Key)
keys_of made = map key_made (filter (λ m. is_put (asked_of m)) made)

-- what is kept once this was done at the line of that number
abbrev pub keeping : ℕ → Kept → List Made → Kept
keeping number kept made = record kept {
  keys = kept.keys ++ keys_of made;
  count = kept.count + length made;
  text = kept.text ++ told_of kept.asked number made;
}

-- what is kept of the lines that were run
abbrev pub kept_of : Bool → List Did → Kept
kept_of asked done =
    record {
      keys = flat_map (λ did. keys_of did.calls) done;
      count = length (flat_map (λ did. did.calls) done);
      asked = asked;
      text = (news_of asked done).text;
    }

-- ---- whose keys they are

-- a shard of that many opened the key's span, if there is a key
abbrev pub IsHome : (shards : ℕ) → Option Key → Type 0
IsHome shards None = Unit {0}
IsHome shards (Some key) = key.span.shard < shards

abbrev pub AreHome : (shards : ℕ) → List (Option Key) → Type 0
AreHome shards keys = AllByRecursion (IsHome shards) keys

-- ---- how a key is found

-- at that place after the first stands the key of the name
abbrev pub FindsOne : List Line → List Did → List (Option Key) → (first : ℕ) → List ℕ → ℕ → Type 0
FindsOne lines done keys first name place = slice_get keys (first + place)
    ≡ Some (key_at lines done name place)

-- so does the key that a reference names; a plain name is that of its only put
abbrev pub FindsNamed : List Line → List Did → List (Option Key) → (first : ℕ) → Reference → Type 0
FindsNamed lines done keys first reference =
    FindsOne lines done keys first reference.name (unwrap_or reference.index 0)

-- so do all keys that the call reads, sets, frees or sends off
abbrev pub Finds : List Line → List Did → List (Option Key) → (first : ℕ) → Call → Type 0
Finds lines done keys first (Get key) = FindsNamed lines done keys first key
Finds lines done keys first (Set key class value) = FindsNamed lines done keys first key
Finds lines done keys first (Free key) = FindsNamed lines done keys first key
Finds lines done keys first (Later key) = FindsNamed lines done keys first key
Finds lines done keys first (Sweep name from to) = (place : ℕ) → from ≤ place → place < to
    → FindsOne lines done keys first name place
Finds lines done keys first _ = Unit {0}

-- the same for a line
abbrev pub FindsAt : List Line → List Did → List (Option Key) → (first : ℕ) → Line → Type 0
FindsAt lines done keys first (line.Call thread call) = Finds lines done keys first call
FindsAt lines done keys first _ = Unit {0}

-- each key of a name that those lines bind stands at its place, as the line that binds it was run
abbrev pub Recalls : List Line → List Did → List (Option Key) → Type 0
Recalls above done keys = (name : List ℕ) (b : Binding) (place : ℕ) → binding_of name above ≡ Some b
    → place < key_count b.keys
    → (b.line < length done) × (slice_get keys (b.first + place) ≡ Some (key_bound done place b))
