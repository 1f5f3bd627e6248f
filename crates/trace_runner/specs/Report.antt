-- The lines of a report.
use Rattle.std.specs.Prelude.{ℕ, Bool, List, [], ◌∷◌, ◌++◌, codes, length, if◌then◌else◌}
use Rattle.std.specs.Fmt.{decimal}
use Rattle.std.specs.List.{flat_map}
use Rattle.span.specs.Texts.{id_text, key_text}
use Rattle.span.specs.declared.id.SpanId.{SpanId}
use Rattle.fold.specs.declared.step.Step.{Step}
use Rattle.fold.specs.declared.step.Step.TheVariants.{Absent, Emptied, Clash, Folded}
use Rattle.trace_runner.specs.declared.report.Answer.{Answer}
use Rattle.trace_runner.specs.declared.report.Answer.TheVariants as answer
use Rattle.trace_runner.specs.declared.report.Other.{Other}
use Rattle.trace_runner.specs.declared.report.Other.TheVariants as other
use Rattle.trace_runner.specs.declared.report.LineAnswer.{LineAnswer}
use Rattle.trace_runner.specs.declared.report.Ending.{Ending}
use Rattle.trace_runner.specs.declared.report.TakenStep.{TakenStep}
use Rattle.trace_runner.specs.declared.report.MarkNews.{MarkNews}
use Rattle.trace_runner.specs.declared.report.CloseNews.{CloseNews}
use Rattle.trace_runner.specs.declared.report.PlanNews.{PlanNews}
use Rattle.trace_runner.specs.declared.report.PlanNews.TheVariants.{Marked, TooMany, Closed}

-- a number with a space before it
abbrev pub number_word : ℕ → List ℕ
number_word n = codes " " ++ decimal n

-- what a line came to other than by a call on a key, without its line's number
abbrev pub other_text : Other → List ℕ
other_text other.PagesSpent = codes "refused pages"
other_text other.Unbound = codes "unbound"
other_text other.Ended = codes "ended"
other_text (other.Adopted head) = codes "adopted " ++ id_text head
other_text other.NothingToAdopt = codes "refused nothing"
other_text other.Sent = codes "sent"
other_text other.RingFull = codes "full"
other_text (other.Settled count) = codes "settled " ++ decimal count
other_text (other.Trimmed count) = codes "trimmed " ++ decimal count
other_text (other.Retired count) = codes "retired " ++ decimal count
other_text other.PlanOpen = codes "refused plan"
other_text other.Begun = codes "begun"

-- an answer, without its line's number; an object that was found is told by all its words
abbrev pub answer_text : Answer → List ℕ
answer_text (answer.Key key) = codes "key " ++ key_text key
answer_text (answer.Value words) = codes "value" ++ flat_map number_word words
answer_text answer.Absent = codes "none"
answer_text answer.Replaced = codes "yes"
answer_text answer.NotReplaced = codes "no"
answer_text answer.Freed = codes "yes"
answer_text answer.NotFreed = codes "no"
answer_text (answer.Other what) = other_text what

-- the line's number, a space, the answer
abbrev pub answer_line : LineAnswer → List ℕ
answer_line a = decimal a.line ++ codes " " ++ answer_text a.answer ++ codes "\n"

-- the line of that number, with its answer
abbrev pub line_of_answer : (number : ℕ) → Answer → List ℕ
line_of_answer number answer = answer_line (record { line = number; answer = answer })

-- a line for each answer, where replies are asked for
abbrev pub answers_text : Bool → List LineAnswer → List ℕ
answers_text replies answers = if replies then flat_map answer_line answers else []

-- the counts, on the last line
abbrev pub end_line : Ending → List ℕ
end_line e = codes "end pages " ++ decimal e.pages ++ codes " live " ++ decimal e.live
    ++ codes " calls " ++ decimal e.calls ++ codes "\n"

-- ---- plans

abbrev pub outcome_text : Step → List ℕ
outcome_text Folded = codes "folded"
outcome_text Emptied = codes "emptied"
outcome_text Absent = codes "absent"
outcome_text Clash = codes "clash"

-- `step ID onto ID RESULT`
abbrev pub step_line : TakenStep → List ℕ
step_line step = codes "step " ++ id_text step.abandoned ++ codes " onto " ++ id_text step.owned
    ++ codes " " ++ outcome_text step.outcome ++ codes "\n"

-- a line for each step, where replies are asked for
abbrev pub steps_text : Bool → List TakenStep → List ℕ
steps_text replies steps = if replies then flat_map step_line steps else []

-- `closed M pages H`, after the steps
abbrev pub close_text : Bool → CloseNews → List ℕ
close_text replies c = steps_text replies c.steps ++ (codes "closed " ++ decimal c.mark)
    ++ (codes " pages " ++ decimal c.pages) ++ codes "\n"

-- `fold ID onto ID`
abbrev pub fold_line : SpanId × SpanId → List ℕ
fold_line pair = codes "fold " ++ id_text pair.0 ++ codes " onto " ++ id_text pair.1 ++ codes "\n"

-- an id with a space before it
abbrev pub id_word : SpanId → List ℕ
id_word id = codes " " ++ id_text id

-- each id with a space before it, or ` none`
abbrev pub ids_text : List SpanId → List ℕ
ids_text [] = codes " none"
ids_text (id ∷ ids) = flat_map id_word (id ∷ ids)

-- a title and its ids
abbrev pub ids_line : List ℕ → List SpanId → List ℕ
ids_line title ids = title ++ ids_text ids ++ codes "\n"

-- `mark M abandoned A owned O folds F pages H`
abbrev pub mark_line : MarkNews → List ℕ
mark_line m =
    codes "mark " ++ decimal m.mark ++ (codes " abandoned " ++ decimal m.abandoned)
    ++ (codes " owned " ++ decimal m.owned)
    ++ (codes " folds " ++ decimal (length m.plan)) ++ (codes " pages " ++ decimal m.pages)
    ++ codes "\n"

-- the mark's line, a line for each fold, and the lines of the short set and its partners
abbrev pub mark_text : MarkNews → List ℕ
mark_text m = mark_line m ++ flat_map fold_line m.plan ++ ids_line (codes "short") m.short
    ++ ids_line (codes "partners") m.partners

abbrev pub news_text : Bool → PlanNews → List ℕ
news_text replies (Marked m) = mark_text m
news_text replies (TooMany mark) = codes "mark " ++ decimal mark ++ codes " refused many\n"
news_text replies (Closed c) = close_text replies c
