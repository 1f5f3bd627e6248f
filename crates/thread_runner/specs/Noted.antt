-- How far the notes of a run have come. No public clause cites this module.
use Rattle.std.specs.Prelude.{◌≡◌, ℕ, ◌+◌, ◌-◌, ◌++◌, true, List, [], ◌∷◌, Option, None, Some, length, option_map, take}
use Rattle.span.specs.declared.id.SpanId.{SpanId}
use Rattle.certificate.specs.Text.{certificate_text}
use Rattle.certificate.specs.declared.certificate.Certificate.{Certificate}
use Rattle.marks.specs.Plans.{OpenPlan}
use Rattle.trace_text.specs.declared.line.Line.{Line}
use Rattle.marks.specs.Seen.{IsShown}
use Rattle.thread_runner.specs.Marked.{AreNotesTo, is_mark_at, marks_above, note_planned}
use Rattle.thread_runner.specs.declared.body.Note.{Note}
use Rattle.thread_runner.specs.declared.minutes.Minutes.{Minutes}

-- ---- the open plan

-- the pairs that are done with, in order
abbrev pub pairs_done : Option OpenPlan → List (SpanId × SpanId)
pairs_done None = []
pairs_done (Some plan) = take plan.done plan.pairs

-- how many pairs are not
abbrev pub pairs_left : Option OpenPlan → ℕ
pairs_left None = 0
pairs_left (Some plan) = length plan.pairs - plan.done

-- all pairs, if a plan is open
abbrev pub plan_pairs : Option OpenPlan → Option (List (SpanId × SpanId))
plan_pairs plan = option_map (λ p. p.pairs) plan

-- ---- the notes

-- the last mark above that place planned these pairs, and its plan is not closed
pub record IsLastOpen (lines : List Line) (above : ℕ) (pairs : List (SpanId × SpanId))
    (notes : List Note) (text : List ℕ) : Type 0 where
  pub place : ℕ
  pub notes_before : List Note
  pub text_before : List ℕ
  pub certificate : Certificate
  pub pages : ℕ
  pub before : AreNotesTo lines place notes_before text_before
  pub next_is : above ≡ place + 1
  pub is_mark : is_mark_at lines place ≡ true
  pub is_shown : IsShown certificate
  pub pairs_are : pairs ≡ certificate.plan
  pub notes_are : notes ≡ notes_before ++ note_planned lines place certificate pages ∷ []
  pub text_is : text ≡ certificate_text certificate

-- all marks above that place are noted, and if these pairs are open, they are those of the last
abbrev pub AreNoted : List Line → ℕ → Option (List (SpanId × SpanId)) → List Note → List ℕ → Type 0
AreNoted lines above None notes text = AreNotesTo lines above notes text
AreNoted lines above (Some pairs) notes text = IsLastOpen lines above pairs notes text

-- the minutes have come to that place, with these open pairs
pub record HaveCome (lines : List Line) (above : ℕ) (pairs : Option (List (SpanId × SpanId)))
    (minutes : Minutes) : Type 0 where
  pub counted : minutes.marks ≡ length (marks_above lines above)
  pub noted : AreNoted lines above pairs minutes.notes.items minutes.certificate.items
