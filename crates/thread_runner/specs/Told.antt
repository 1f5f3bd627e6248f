-- What the threads of a run were told, as the report tells it.
use Rattle.span.specs.ReceiptLists.{kept_receipts}
use Rattle.std.specs.Prelude.{ℕ, Bool, true, false, if◌then◌else◌, List, [], ◌∷◌, ◌++◌, drop, map, take}
use Rattle.std.specs.List.{flat_map}
use Rattle.span.specs.declared.key.Key.{Key}
use Rattle.span.specs.declared.receipt.Call.{Call}
use Rattle.span.specs.declared.receipt.Call.TheVariants as call
use Rattle.span.specs.declared.receipt.Receipt.{Receipt}
use Rattle.trace_runner.specs.declared.report.Answer.{Answer}
use Rattle.trace_runner.specs.declared.report.Answer.TheVariants as answer
use Rattle.trace_runner.specs.declared.report.LineAnswer.{LineAnswer}
use Rattle.thread_runner.specs.declared.diary.Diary.{Diary}
use Rattle.thread_runner.specs.declared.diary.Entry.{Entry}
use Rattle.thread_runner.specs.declared.diary.Entry.TheVariants as entry
use Rattle.thread_runner.specs.declared.diary.OtherLine.{OtherLine}

-- what a call on the key was answered
abbrev pub answer_by : Key → Call → Answer
answer_by key (call.Put value) = answer.Key key
answer_by key (call.Found value) = answer.Value value
answer_by key call.NotFound = answer.Absent
answer_by key (call.Set value) = answer.Replaced
answer_by key (call.NotSet value) = answer.NotReplaced
answer_by key call.Freed = answer.Freed
answer_by key call.NotFreed = answer.NotFreed

-- what the call of a receipt was answered
abbrev pub answer_of : Receipt → Answer
answer_of receipt = answer_by receipt.key receipt.call

-- the reply that a receipt tells, on the line of that number
abbrev pub call_line : ℕ → Receipt → LineAnswer
call_line line receipt = record { line = line; answer = answer_of receipt }

-- the call was a free
abbrev pub is_free : Call → Bool
is_free call.Freed = true
is_free call.NotFreed = true
is_free call = false

-- the reply of a receipt that no line asked for; a free of a key that came in on a ring tells
-- nothing
abbrev pub lineless : Receipt → List LineAnswer
lineless receipt = if is_free receipt.call then [] else call_line 0 receipt ∷ []

-- the reply of what a line came to other than by a call on a key
abbrev pub other_line : OtherLine → LineAnswer
other_line told = record { line = told.line; answer = answer.Other told.other }

-- the replies that an entry tells, whose receipts are the first of these
abbrev pub entry_lines : Entry → List Receipt → List LineAnswer
entry_lines (entry.Called line) receipts = map (call_line line) (take 1 receipts)
entry_lines (entry.Incoming count) receipts = flat_map lineless (take count receipts)
entry_lines (entry.Said told) receipts = other_line told ∷ []

-- the receipts after those of an entry
abbrev pub receipts_after : Entry → List Receipt → List Receipt
receipts_after (entry.Called line) receipts = drop 1 receipts
receipts_after (entry.Incoming count) receipts = drop count receipts
receipts_after (entry.Said told) receipts = receipts

-- the replies that entries tell, in order, whose receipts these are; what is left of them no line
-- asked for
abbrev pub told_lines : List Entry → List Receipt → List LineAnswer
told_lines [] receipts = flat_map lineless receipts
told_lines (entry ∷ entries) receipts = entry_lines entry receipts
    ++ told_lines entries (receipts_after entry receipts)

-- what a thread was told, in the order of its calls: its receipts, and where the report tells
-- replies the entries that they belong to
pub record Voice : Type 0 where
  pub entries : List Entry
  pub receipts : List Receipt

-- the replies that a thread was told, in the order of its calls
abbrev pub voice_lines : Voice → List LineAnswer
voice_lines voice = told_lines voice.entries voice.receipts

-- what a diary has
abbrev pub voice_of : Diary → Voice
voice_of diary = record { entries = diary.entries.items; receipts = (kept_receipts diary.receipts) }

abbrev pub diary_lines : Diary → List LineAnswer
diary_lines diary = voice_lines (voice_of diary)
