-- What a span keeps beside its log, and the log's room. No public clause cites this module.
use Rattle.std.specs.Prelude.{◌≡◌, ℕ, Bool, false, ◌+◌, ◌*◌, ◌^◌, ◌<◌, ◌≤◌, List, length}
use Rattle.std.specs.FinSet as set
use Rattle.bitmap.specs.declared.bits.TheConstants.{SLOTS}
use Rattle.span.specs.declared.class.Class.{Class}
use Rattle.span.specs.declared.change.Change.{Change}
use Rattle.span.specs.declared.marks.Marks.{Marks}
use Rattle.span.specs.Marks.{FitInto, is_live_at, last_given, marks_of}
use Rattle.span.specs.Log.{IsLegal, IsOfClass, puts_of, all_puts, live_slots, worn_slots}

-- the log is legal, and the marks say which slots are live and which generation each was given last
pub record Follows (gens : ℕ) (log : List Change) (marks : List ℕ) : Type 0 where
  pub legal : IsLegal gens log
  pub live_is : (slot : ℕ) → slot < SLOTS → is_live_at marks slot
      ≡ set.contains (live_slots log) slot
  pub generation_is : (slot : ℕ) → slot < SLOTS → last_given marks slot ≡ puts_of slot log

-- beside this, no slot is worn unless the flag says that one may be, the live slots are counted, no
-- slot past the class has a mark, beside puts and their frees the log has at most 2^63 changes, and
-- it has room for a free of each live slot
pub record IsKept (class : Class) (gens : ℕ) (may_be_worn : Bool) (live_count : ℕ) (marks : Marks)
    (log : List Change) (room : ℕ) : Type 0 where
  pub some_generation : 1 ≤ gens
  pub gens_fit : gens < 2 ^ 32
  pub of_class : IsOfClass class log
  pub follows : Follows gens log (marks_of marks)
  pub none_worn : may_be_worn ≡ false → worn_slots gens log ≡ set.empty
  pub count_is : live_count ≡ set.len (live_slots log)
  pub fit : FitInto class marks
  pub few_sets : length log + live_count ≤ 2 * all_puts log + 2 ^ 63
  pub room_for_frees : live_count ≤ room
