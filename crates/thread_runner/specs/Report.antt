-- The text of a report of a run by threads.
use Rattle.std.specs.Prelude.{ℕ, Bool, nat_lt, List, [], ◌∷◌, ◌++◌, codes, drop, length, take}
use Rattle.std.specs.List.{take_while}
use Rattle.trace_runner.specs.Report.{answers_text, end_line, news_text}
use Rattle.trace_runner.specs.declared.report.Ending.{Ending}
use Rattle.trace_runner.specs.declared.report.LineAnswer.{LineAnswer}
use Rattle.thread_runner.specs.declared.body.Note.{Note}

-- how many replies, from the first on, are on lines above that one
abbrev pub count_above : ℕ → List LineAnswer → ℕ
count_above line replies = length (take_while (λ a. nat_lt a.line line) replies)

-- the replies, each piece of news after those of the lines above its own
abbrev pub body_text : Bool → List LineAnswer → List Note → List ℕ
body_text shown replies [] = answers_text shown replies
body_text shown replies (note ∷ notes) =
    answers_text shown (take (count_above note.line replies) replies) ++ news_text shown note.news
    ++ body_text shown (drop (count_above note.line replies) replies) notes

-- the replies and the news in order, the counts, and that the audit was passed
abbrev pub threaded_text : Bool → List LineAnswer → List Note → Ending → List ℕ
threaded_text shown replies notes ending = (body_text shown replies notes ++ end_line ending)
    ++ codes "audit ok\n"
