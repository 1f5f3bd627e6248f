-- What the report of a run by threads tells of the marks of its trace.
use Rattle.std.specs.Prelude.{◌≡◌, ℕ, ◌+◌, Bool, true, false, not, List, [], ◌∷◌, Option, None, Some, drop, filter, length, map, slice_get}
use Rattle.std.specs.List.{AllByRecursion, flat_map, fold, range_with_len, take_while}
use Rattle.std.specs.Option.{option_map_or}
use Rattle.span.specs.declared.id.SpanId.{SpanId}
use Rattle.certificate.specs.Text.{certificate_text}
use Rattle.certificate.specs.declared.certificate.Certificate.{Certificate}
use Rattle.marks.specs.Seen.{IsShown}
use Rattle.trace_text.specs.declared.line.Line.{Line}
use Rattle.trace_text.specs.declared.line.Line.TheVariants as line
use Rattle.trace_text.specs.Barrier.{is_barrier}
use Rattle.trace_runner.specs.News.{mark_news}
use Rattle.trace_runner.specs.declared.report.PlanNews.{PlanNews}
use Rattle.trace_runner.specs.declared.report.PlanNews.TheVariants.{Marked, TooMany, Closed}
use Rattle.trace_runner.specs.declared.report.TakenStep.{TakenStep}
use Rattle.thread_runner.specs.declared.body.Note.{Note}

-- ---- where marks stand

-- the line is a mark
abbrev pub is_mark : Line → Bool
is_mark line.Mark = true
is_mark _ = false

-- a mark stands at that place below the header
abbrev pub is_mark_at : List Line → ℕ → Bool
is_mark_at lines place = option_map_or is_mark (slice_get lines place) false

-- the places of the marks above that one, in order
abbrev pub marks_above : List Line → ℕ → List ℕ
marks_above lines place = filter (is_mark_at lines) (range_with_len 0 place)

-- the number of the mark at that place, where the first of the trace is 1
abbrev pub mark_number : List Line → ℕ → ℕ
mark_number lines place = length (marks_above lines place) + 1

-- where the next barrier begins: the place of the first adoption or mark from that one on, or that
-- below the last line
abbrev pub barrier_from : List Line → ℕ → ℕ
barrier_from lines place = place + length (take_while (λ line. not (is_barrier line))
    (drop place lines))

-- ---- what comes of them

-- a plan that a mark made: the certificate that shows it, the pages in use then, the steps that
-- were taken, and the pages in use when it was closed
pub record PlanMade : Type 0 where
  pub certificate : Certificate
  pub pages : ℕ
  pub steps : List TakenStep
  pub pages_left : ℕ

-- the mark at a place, and the plan that it made; none where a side had too many groups
pub record MarkMade : Type 0 where
  pub place : ℕ
  pub plan : Option PlanMade

abbrev pub place_marked : MarkMade → ℕ
place_marked made = made.place

-- the pair of a step
abbrev pub taken_pair : TakenStep → SpanId × SpanId
taken_pair step = (step.abandoned, step.owned)

-- the plan, if there is one, is shown, and a step was taken for each of its pairs, in order
abbrev pub IsCarriedOut : Option PlanMade → Type 0
IsCarriedOut None = Unit {0}
IsCarriedOut (Some plan) = IsShown plan.certificate
    × (map taken_pair plan.steps ≡ plan.certificate.plan)

abbrev pub IsMarkMade : MarkMade → Type 0
IsMarkMade made = IsCarriedOut made.plan

-- ---- what is told of them

-- news that is told on the number of the line at that place; the first below the header is line 6
abbrev pub note_at : ℕ → PlanNews → Note
note_at place news = record { line = place + 6; news = news }

-- the mark at that place planned
abbrev pub note_planned : List Line → ℕ → Certificate → (pages : ℕ) → Note
note_planned lines place c pages = note_at place (Marked
    (mark_news (mark_number lines place) c pages))

-- its plan was closed after these steps, which is told where the next barrier begins
abbrev pub note_closed : List Line → ℕ → List TakenStep → (pages : ℕ) → Note
note_closed lines place steps pages =
    note_at (barrier_from lines (place + 1)) (Closed
    (record { mark = mark_number lines place; steps = steps; pages = pages }))

-- the notes of the mark at that place, by what it planned
abbrev pub plan_notes : List Line → ℕ → Option PlanMade → List Note
plan_notes lines place None = note_at place (TooMany (mark_number lines place)) ∷ []
plan_notes lines place (Some plan) = note_planned lines place plan.certificate plan.pages
    ∷ note_closed lines place plan.steps plan.pages_left ∷ []

abbrev pub mark_notes : List Line → MarkMade → List Note
mark_notes lines made = plan_notes lines made.place made.plan

-- the last certificate after a mark more: its own, if it planned
abbrev pub text_after : List ℕ → Option PlanMade → List ℕ
text_after text None = text
text_after text (Some plan) = certificate_text plan.certificate

abbrev pub certificate_after : List ℕ → MarkMade → List ℕ
certificate_after text made = text_after text made.plan

-- the text of the certificate of the last of these that planned, or nothing
abbrev pub last_certificate : List MarkMade → List ℕ
last_certificate marks = fold certificate_after [] marks

-- the notes tell of each mark above that place, in order, with all steps of its plan, and no more;
-- and this is the text of the last certificate among them
pub record AreNotesTo (lines : List Line) (above : ℕ) (notes : List Note) (certificate : List ℕ) :
    Type 0 where
  pub marks : List MarkMade
  pub each_mark : map place_marked marks ≡ marks_above lines above
  pub carried_out : AllByRecursion IsMarkMade marks
  pub notes_are : notes ≡ flat_map (mark_notes lines) marks
  pub certificate_is : certificate ≡ last_certificate marks

-- so for all marks of the trace
abbrev pub AreNotesOf : List Line → List Note → List ℕ → Type 0
AreNotesOf lines notes certificate = AreNotesTo lines (length lines) notes certificate
