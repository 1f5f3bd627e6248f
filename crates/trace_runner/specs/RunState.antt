-- What a run of a trace does to all that it keeps. No public clause cites this module.
use Rattle.std.specs.Prelude.{◌≡◌, ◌+◌, ◌<◌, ◌≤◌, ◌++◌, ◌&&◌, ℕ, Bool, List, filter, take}
use Rattle.std.specs.List.{range_with_len}
use Rattle.arena_core.specs.State.{CoreState}
use Rattle.trace_text.specs.Barrier.{is_barrier}
use Rattle.trace_text.specs.Places.{place_at}
use Rattle.trace_text.specs.declared.line.Call.{Call}
use Rattle.trace_text.specs.declared.line.Line.{Line}
use Rattle.trace_text.specs.declared.name.Reference.{Reference}
use Rattle.trace_text.specs.declared.trace.Trace.{Trace}
use Rattle.trace_runner.specs.Kept.{Finds, FindsAt, FindsNamed, FindsOne, kept_in}
use Rattle.trace_runner.specs.Made.{Asked, Did}
use Rattle.trace_runner.specs.News.{News}
use Rattle.trace_runner.specs.Recalls.{Carries, HasCome, Makes, MakesLine, has, news_in, settling_with}
use Rattle.trace_runner.specs.Runs.{IsRun, asked_by, asked_by_call, ends_asked, frees_asked, plan_end_asked, rings_asked}
use Rattle.trace_runner.specs.declared.run.Ran.{Ran}
use Rattle.trace_runner.specs.declared.run.Run.{Run}

-- the lines of its trace
abbrev pub lines_in : Run → List Line
lines_in run = run.trace.now.lines.items

-- how many shards its trace has
abbrev pub shards_in : Run → ℕ
shards_in run = run.trace.now.header.shards

-- the threads that leave, ascending
abbrev pub leavers_in : Run → List ℕ
leavers_in run = filter (has run.leaving) (range_with_len 0 (shards_in run))

-- the thread leaves, where a barrier begins at the line
abbrev pub leaves_at : Run → Line → ℕ → Bool
leaves_at run line thread = is_barrier line && has run.leaving thread

-- ---- which keys it keeps, after what its lines have done

-- the key that the reference names, at its place after that of the name's first key
abbrev pub KeepsKey : Run → List Did → (first : ℕ) → Reference → Type 0
KeepsKey run done first reference =
    FindsNamed (lines_in run) done run.replies.keys.items first reference

-- all keys of the name from one place up to, and without, another
abbrev pub KeepsAll : Run → List Did → (first : ℕ) → (name : List ℕ) → (from to : ℕ) → Type 0
KeepsAll run done first name from to = (place : ℕ) → from ≤ place → place < to
    → FindsOne (lines_in run) done run.replies.keys.items first name place

-- all keys that the call names
abbrev pub KeepsKeysOf : Run → List Did → (first : ℕ) → Call → Type 0
KeepsKeysOf run done first call = Finds (lines_in run) done run.replies.keys.items first call

-- all keys that the line at that place names
abbrev pub KeepsKeysAt : Run → List Did → (place : ℕ) → Line → Type 0
KeepsKeysAt run done place line = FindsAt (lines_in run) done run.replies.keys.items
    (place_at (take place (lines_in run)) line) line

-- ---- what is asked for, after what its lines have done

-- by the thread's call
abbrev pub asked_in : Run → List Did → (thread : ℕ) → Call → List Asked
asked_in run done thread call = asked_by_call (shards_in run) (lines_in run) done thread call

-- by a free of each key of the name from one place up to, and without, another
abbrev pub frees_in : Run → List Did → (name : List ℕ) → (from to : ℕ) → List Asked
frees_in run done name from to = frees_asked (lines_in run) done name from to

-- by what settles its section
abbrev pub settling_in : Run → List Asked
settling_in run =
    plan_end_asked run.core.plan ++ (ends_asked (leavers_in run) ++ rings_asked (shards_in run))

-- ---- what it does

-- what the line of that number asks for was done, and is kept
abbrev pub MakesAt : (number : ℕ) → List Asked → (old new : Run) → Type 0
MakesAt number asked old new =
    Makes number asked old.core (kept_in old.replies) new.core (kept_in new.replies)

-- these were asked and done, and the news goes on by what they tell of plans
abbrev pub CarriesOut : List Asked → (old new : Run) → Type 0
CarriesOut asked old new = Carries asked old.core (news_in old.replies old.plans) new.core
    (news_in new.replies new.plans)

-- what the line at that place asks for, after what those lines have done, was done and told
abbrev pub MakesLineAt : (place : ℕ) → List Did → Line → (old new : Run) → Type 0
MakesLineAt place done line old new =
    MakesLine (place + 6) (settling_with (shards_in old) (leavers_in old) old.core line)
    (asked_by (shards_in old) (lines_in old) done line) line old.core (kept_in old.replies)
    (news_in old.replies old.plans) new.core (kept_in new.replies)
    (news_in new.replies new.plans)

-- from that core on, so many lines of its trace were run to their end
abbrev pub HasRun : (replies : Bool) → (count : ℕ) → (start : CoreState) → Run → Type 0
HasRun replies count start run = HasCome replies (shards_in run) (lines_in run) count start run.core
    (kept_in run.replies) (has run.leaving) run.plans

-- this is what a run of all lines of the trace from that core on leaves
abbrev pub IsLeftBy : (replies : Bool) → Trace → (start : CoreState) → Ran → Type 0
IsLeftBy replies trace start ran = (news : News)
    × IsRun trace.header.shards replies trace.lines.items start ran.core ran.calls news
    × (ran.report.items ≡ news.text) × (ran.certificate.items ≡ news.certificate)
