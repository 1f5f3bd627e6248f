-- What the report tells, in the order in which it is told.
use Rattle.std.specs.Prelude.{◌+◌, ℕ, Bool, List, [], ◌∷◌, ◌++◌, length}
use Rattle.std.specs.List.{fold}
use Rattle.certificate.specs.Plans.{partners_of}
use Rattle.certificate.specs.Text.{certificate_text}
use Rattle.certificate.specs.declared.certificate.Certificate.{Certificate}
use Rattle.arena_core.specs.State.{CoreState, pages}
use Rattle.arena_core.specs.declared.event.Event.TheVariants as event
use Rattle.arena_core.specs.declared.reply.Reply.TheVariants as reply
use Rattle.trace_runner.specs.Answers.{told_of}
use Rattle.trace_runner.specs.Made.{CalledEvent, Called, Did, Made}
use Rattle.trace_runner.specs.Report.{news_text}
use Rattle.trace_runner.specs.declared.report.MarkNews.{MarkNews}
use Rattle.trace_runner.specs.declared.report.PlanNews.{PlanNews}
use Rattle.trace_runner.specs.declared.report.PlanNews.TheVariants.{Marked, TooMany, Closed}
use Rattle.trace_runner.specs.declared.report.TakenStep.{TakenStep}

-- what is told so far
pub record News : Type 0 where
  -- replies are asked for
  pub replies : Bool
  pub marks : ℕ
  -- the steps of the open plan; they are told when it is closed
  pub taken : List TakenStep
  -- the report so far
  pub text : List ℕ
  -- the text of the certificate of the last mark that planned, or nothing
  pub certificate : List ℕ

abbrev pub no_news : Bool → News
no_news replies = record { replies = replies; marks = 0; taken = []; text = []; certificate = [] }

-- the report goes on with this news of a plan
abbrev pub with_news : News → PlanNews → List ℕ
with_news n news = n.text ++ news_text n.replies news

-- a mark of that number that planned, with the pages in use then
abbrev pub mark_news : (mark : ℕ) → Certificate → (pages : ℕ) → MarkNews
mark_news mark c pages = record {
  mark = mark;
  abandoned = length c.snapshot.abandoned;
  owned = length c.snapshot.owned;
  plan = c.plan;
  short = c.short;
  partners = partners_of c.snapshot c.short;
  pages = pages;
}

-- one event more; it is news where it is a step, a close or a mark
abbrev pub with_called : News → CalledEvent → News
with_called n (Called event.Step (reply.Stepped abandoned owned outcome) core) =
    record n {
      taken = n.taken ++ record {
        abandoned = abandoned;
        owned = owned;
        outcome = outcome;
      } ∷ [];
    }
with_called n (Called event.Close reply core) = record n {
  taken = [];
  text = with_news n (Closed (record { mark = n.marks; steps = n.taken; pages = pages core }));
}
with_called n (Called event.Mark (reply.Marked c) core) =
    record n {
      marks = n.marks + 1;
      text = with_news n (Marked (mark_news (n.marks + 1) c (pages core)));
      certificate = certificate_text c;
    }
with_called n (Called event.Mark reply core) = record n {
  marks = n.marks + 1;
  text = with_news n (TooMany (n.marks + 1));
}
with_called n called = n

abbrev pub with_made : News → Made → News
with_made n made = fold with_called n made.called

abbrev pub with_all_made : News → List Made → News
with_all_made n made = fold with_made n made

-- the answers to what was done at the line of that number
abbrev pub with_answers : ℕ → List Made → News → News
with_answers number made n = record n { text = n.text ++ told_of n.replies number made }

-- the line of that number more: what settles the section, the answers to its calls, and what
-- follows them
abbrev pub with_line : ℕ → News → Did → News
with_line number n did = with_all_made (with_answers number did.calls (with_all_made n did.settled))
    did.plans

-- that many lines more, of which the first has that number
abbrev pub news_from : ℕ → News → List Did → News
news_from number n [] = n
news_from number n (did ∷ done) = news_from (number + 1) (with_line number n did) done

-- what is told of the lines that were done
abbrev pub news_of : Bool → List Did → News
news_of replies done = news_from 6 (no_news replies) done

-- what is told of a whole run, with what was done at the end of the text
abbrev pub all_news : Bool → List Did → List Made → News
all_news replies done last = with_all_made (news_of replies done) last
