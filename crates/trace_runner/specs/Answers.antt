-- What the report tells of the replies to what lines ask for.
use Rattle.std.specs.Prelude.{ℕ, Bool, true, false, List, ◌∷◌, map, Option, Some, None}
use Rattle.span.specs.declared.key.Key.{Key}
use Rattle.arena_core.specs.declared.reply.Refusal.TheVariants.{NothingToAdopt, PlanOpen, RingFull}
use Rattle.arena_core.specs.declared.reply.Reply.{Reply}
use Rattle.arena_core.specs.declared.reply.Reply.TheVariants.{Issued, Found, Replaced, Freed, Sent, ShardEnded, ShardBegun, Retired, Trimmed, Adopted, Refused}
use Rattle.trace_runner.specs.Made.{Asked, Calls, Leaves, Tends, CalledEvent, Called, Made, keys_taken}
use Rattle.trace_runner.specs.Report.{answers_text}
use Rattle.trace_runner.specs.declared.report.Answer.{Answer}
use Rattle.trace_runner.specs.declared.report.Answer.TheVariants as answer
use Rattle.trace_runner.specs.declared.report.LineAnswer.{LineAnswer}
use Rattle.trace_runner.specs.declared.report.Other.TheVariants as other

-- what is told of the reply to an event
abbrev pub answer_told : Reply → Answer
answer_told (Issued key) = answer.Key key
answer_told (Found (Some value)) = answer.Value value
answer_told (Found None) = answer.Absent
answer_told (Replaced true) = answer.Replaced
answer_told (Replaced false) = answer.NotReplaced
answer_told (Freed true) = answer.Freed
answer_told (Freed false) = answer.NotFreed
answer_told Sent = answer.Other other.Sent
answer_told ShardEnded = answer.Other other.Ended
answer_told ShardBegun = answer.Other other.Begun
answer_told (Retired count) = answer.Other (other.Retired count)
answer_told (Trimmed count) = answer.Other (other.Trimmed count)
answer_told (Adopted head) = answer.Other (other.Adopted head)
answer_told (Refused NothingToAdopt) = answer.Other other.NothingToAdopt
answer_told (Refused RingFull) = answer.Other other.RingFull
answer_told (Refused PlanOpen) = answer.Other other.PlanOpen
answer_told (Refused cause) = answer.Other other.PagesSpent
-- no event of a line has another reply
answer_told reply = answer.Other other.Unbound

-- what the report tells of a put: the key that it gave out, or that its shard may have no further
-- page
abbrev pub put_told : Option Key → Answer
put_told (Some key) = answer.Key key
put_told None = answer.Other other.PagesSpent

-- the reply to one thing that was asked for, after the events that were called
abbrev pub answer_of : Asked → List CalledEvent → Answer
answer_of (Calls event) (Called done reply core ∷ more) = answer_told reply
answer_of Leaves called = answer.Other other.Ended
answer_of (Tends workers shard) called = answer.Other (other.Settled (keys_taken called))
answer_of asked called = answer.Other other.Unbound

abbrev pub answer_to : Made → Answer
answer_to made = answer_of made.asked made.called

-- an answer on the line of that number
abbrev pub on_line : ℕ → Made → LineAnswer
on_line number made = record { line = number; answer = answer_to made }

-- a line for each answer to what was done at the line of that number, where replies are asked for
abbrev pub told_of : Bool → ℕ → List Made → List ℕ
told_of replies number made = answers_text replies (map (on_line number) made)
