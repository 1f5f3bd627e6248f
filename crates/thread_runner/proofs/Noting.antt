-- How the notes of a run go on.
use Rattle.thread_runner.proofs.Names.{◌≡◌, ◌∙◌, ◌++◌, ◌+◌, ◌-◌, ◌<◌, ◌≤◌, ℕ, Bool, true, false, cond, List, [], ◌∷◌, Option, None, Some, ap, arith, drop, length, map, option_map, refl, slice_get, suc, subst, sym, zero, is_some, not, flat_map, take_while, option_map_or, flat_map-append, map-append, take_all, fold-append, take_while-cons, slice_get_within, each-append, drop_step, Line, AreNotesTo, IsCarriedOut, IsMarkMade, MarkMade, PlanMade, barrier_from, certificate_after, is_mark, is_mark_at, mark_notes, mark_number, marks_above, note_at, note_closed, note_planned, place_marked, plan_notes, taken_pair, text_after, HaveCome, pairs_done, pairs_left, plan_pairs, Note, take_more, rules}
use Rattle.std.proofs.lemmas.List.{append-nil, append_assoc, length-append}
use Rattle.arena.specs.declared.arena.Stepped.{Stepped}
use Rattle.arena.specs.declared.arena.Stepped.TheVariants.{Taken}
use Rattle.arena.specs.Stewards.{Steps}
use Rattle.certificate.specs.Text.{certificate_text}
use Rattle.certificate.specs.declared.certificate.Certificate.{Certificate}
use Rattle.fold.specs.declared.step.Step.{Step}
use Rattle.marks.specs.Plans.{OpenPlan, next_pair, with_next_done}
use Rattle.span.specs.declared.id.SpanId.{SpanId}
use Rattle.trace_text.specs.Barrier.{is_barrier}
use Rattle.trace_runner.specs.declared.report.PlanNews.TheVariants.{Marked, TooMany, Closed}
use Rattle.trace_runner.specs.News.{mark_news}
use Rattle.trace_runner.specs.declared.report.TakenStep.{TakenStep}
use Rattle.marks.specs.Seen.{IsShown}
use Rattle.thread_runner.specs.declared.minutes.Minutes.{Minutes}
use Rattle.trace_runner.proofs.Shards.{filter-range_with_len_more}
use Rattle.thread_runner.proofs.Lists.{slice_get-drop}

-- ---- the steps of a plan

-- the first pairs, one more
pairs_done-next : (plan : Option OpenPlan) (pair : SpanId × SpanId) → next_pair plan ≡ Some pair → pairs_done (option_map with_next_done plan) ≡ pairs_done plan ++ pair ∷ []
pairs_done-next None pair next = absurd cc
pairs_done-next (Some plan) pair next = take_more plan.pairs plan.done pair next

pairs_left-next : (plan : Option OpenPlan) (pair : SpanId × SpanId) → next_pair plan ≡ Some pair → pairs_left (option_map with_next_done plan) < pairs_left plan
pairs_left-next None pair next = absurd cc
pairs_left-next (Some plan) pair next = let within = slice_get_within plan.pairs plan.done pair next in omega arith

pairs_done-all : (plan : OpenPlan) → next_pair (Some plan) ≡ None → pairs_done (Some plan) ≡ plan.pairs
pairs_done-all plan none = take_all plan.done plan.pairs (past plan.pairs plan.done none)
  where
    past : {X : Type 0} (xs : List X) (i : ℕ) → slice_get xs i ≡ None → length xs ≤ i
    past [] i none = omega arith
    past (x ∷ xs) zero none = absurd cc
    past (x ∷ xs) (suc i) none = let rest = past xs i none in omega arith

module _ (old new : Option OpenPlan) (stepped : Stepped) (abandoned owned : SpanId) (outcome : Step) (steps : Steps old stepped new) (is : stepped ≡ Taken abandoned owned outcome) where
  step_is : Steps old (Taken abandoned owned outcome) new
  step_is = subst (λ s. Steps old s new) is steps

  -- the steps that were taken are the pairs that are done with, one more
  pub underway-taken : (taken after : List TakenStep) → after ≡ taken ++ record { abandoned = abandoned; owned = owned; outcome = outcome } ∷ []
      → map taken_pair taken ≡ pairs_done old → map taken_pair after ≡ pairs_done new
  underway-taken taken after pushed underway =
      ap (map taken_pair) pushed ∙ map-append taken_pair taken (record { abandoned = abandoned; owned = owned; outcome = outcome } ∷ [])
      ∙ ap (λ ps. ps ++ (abandoned, owned) ∷ []) underway ∙ sym (pairs_done-next old (abandoned, owned) step_is.0) ∙ ap pairs_done (sym step_is.1)

  -- fewer pairs are left
  pub pairs_left-taken : pairs_left new < pairs_left old
  pairs_left-taken = subst (λ p. pairs_left p < pairs_left old) (sym step_is.1) (pairs_left-next old (abandoned, owned) step_is.0)

-- ---- the marks above a place

marks_above-mark : (lines : List Line) (place : ℕ) → is_mark_at lines place ≡ true → marks_above lines (place + 1) ≡ marks_above lines place ++ place ∷ []
marks_above-mark lines place is = filter-range_with_len_more (is_mark_at lines) place ∙ ap (λ b. marks_above lines place ++ cond b (place ∷ []) []) is

pub marks_above-other : (lines : List Line) (place : ℕ) → is_mark_at lines place ≡ false → marks_above lines (place + 1) ≡ marks_above lines place
marks_above-other lines place is = filter-range_with_len_more (is_mark_at lines) place ∙ ap (λ b. marks_above lines place ++ cond b (place ∷ []) []) is ∙ append-nil (marks_above lines place)

count-mark : (lines : List Line) (place count after : ℕ) → is_mark_at lines place ≡ true → count ≡ length (marks_above lines place) → after ≡ count + 1 → after ≡ length (marks_above lines (place + 1))
count-mark lines place count after is counted more =
    more ∙ ap (λ n. n + 1) counted ∙ sym (length-append (marks_above lines place) (place ∷ [])) ∙ ap length (sym (marks_above-mark lines place is))

-- ---- the notes

-- a mark more, with all its notes
AreNotesTo-more : (lines : List Line) (place : ℕ) (notes : List Note) (text : List ℕ) (plan : Option PlanMade) → AreNotesTo lines place notes text → is_mark_at lines place ≡ true → IsCarriedOut plan
    → AreNotesTo lines (place + 1) (notes ++ plan_notes lines place plan) (text_after text plan)
AreNotesTo-more lines place notes text plan are is carried =
    let made : MarkMade = record { place = place; plan = plan } in record {
      marks = are.marks ++ made ∷ [];
      each_mark = map-append place_marked are.marks (made ∷ []) ∙ ap (λ ps. ps ++ place ∷ []) are.each_mark ∙ sym (marks_above-mark lines place is);
      carried_out = each-append IsMarkMade are.marks (made ∷ []) are.carried_out (carried, tt);
      notes_are =
          ap (λ ns. ns ++ plan_notes lines place plan) are.notes_are ∙ ap (λ ns. flat_map (mark_notes lines) are.marks ++ ns) (sym (append-nil (plan_notes lines place plan)))
          ∙ sym (flat_map-append (mark_notes lines) are.marks (made ∷ []));
      certificate_is = ap (λ t. text_after t plan) are.certificate_is ∙ sym (fold-append certificate_after [] are.marks (made ∷ []));
    }

-- the same marks stand above another place
pub HaveCome-other : (lines : List Line) (above other : ℕ) (minutes : Minutes) → marks_above lines other ≡ marks_above lines above
    → HaveCome lines above None minutes → HaveCome lines other None minutes
HaveCome-other lines above other minutes same come = record {
  counted = come.counted ∙ ap length (sym same);
  noted = record {
    marks = come.noted.marks;
    each_mark = come.noted.each_mark ∙ sym same;
    carried_out = come.noted.carried_out;
    notes_are = come.noted.notes_are;
    certificate_is = come.noted.certificate_is;
  };
}

-- a mark that planned
pub HaveCome-planned : (lines : List Line) (place pages : ℕ) (c : Certificate) (old new : Minutes) → HaveCome lines place None old → is_mark_at lines place ≡ true → IsShown c
    → new.marks ≡ old.marks + 1 → new.notes.items ≡ old.notes.items ++ note_at place (Marked (mark_news (old.marks + 1) c pages)) ∷ []
    → new.certificate.items ≡ certificate_text c → HaveCome lines (place + 1) (Some c.plan) new
HaveCome-planned lines place pages c old new come is shown marks notes certificate = record {
  counted = count-mark lines place old.marks new.marks is come.counted marks;
  noted = record {
    place = place;
    notes_before = old.notes.items;
    text_before = old.certificate.items;
    certificate = c;
    pages = pages;
    before = come.noted;
    next_is = refl;
    is_mark = is;
    is_shown = shown;
    pairs_are = refl;
    notes_are = notes ∙ ap (λ n. old.notes.items ++ note_at place (Marked (mark_news (n + 1) c pages)) ∷ []) come.counted;
    text_is = certificate;
  };
}

-- a mark that saw too many groups
pub HaveCome-refused : (lines : List Line) (place : ℕ) (old new : Minutes) → HaveCome lines place None old → is_mark_at lines place ≡ true → new.marks ≡ old.marks + 1
    → new.notes.items ≡ old.notes.items ++ note_at place (TooMany (old.marks + 1)) ∷ [] → new.certificate ≡ old.certificate → HaveCome lines (place + 1) None new
HaveCome-refused lines place old new come is marks notes certificate = record {
  counted = count-mark lines place old.marks new.marks is come.counted marks;
  noted =
      subst (λ ns. AreNotesTo lines (place + 1) ns new.certificate.items) (sym (notes ∙ ap (λ n. old.notes.items ++ note_at place (TooMany (n + 1)) ∷ []) come.counted))
      (subst (λ t. AreNotesTo lines (place + 1) (old.notes.items ++ plan_notes lines place None) t) (ap (λ v. v.items) (sym certificate))
      (AreNotesTo-more lines place old.notes.items old.certificate.items None come.noted is tt));
}

-- the plan of the last mark is closed, after a step for each pair
pub HaveCome-closed : (lines : List Line) (above barrier pages : ℕ) (pairs : List (SpanId × SpanId)) (steps : List TakenStep) (old new : Minutes)
    → HaveCome lines above (Some pairs) old → map taken_pair steps ≡ pairs
    → barrier ≡ barrier_from lines above → new.marks ≡ old.marks → new.notes.items ≡ old.notes.items ++ note_at barrier (Closed (record { mark = old.marks; steps = steps; pages = pages })) ∷ []
    → new.certificate ≡ old.certificate → HaveCome lines above None new
HaveCome-closed lines above barrier pages pairs steps old new come taken begins marks notes certificate =
    let last = come.noted in
    let plan : PlanMade = record { certificate = last.certificate; pages = last.pages; steps = steps; pages_left = pages } in
    let place = last.place in
    let number : old.marks ≡ mark_number lines place =
    come.counted ∙ ap (λ p. length (marks_above lines p)) last.next_is ∙ ap length (marks_above-mark lines place last.is_mark) ∙ length-append (marks_above lines place) (place ∷ []) in
    let whole : new.notes.items ≡ last.notes_before ++ plan_notes lines place (Some plan) =
    notes
    ∙ ap (λ b. old.notes.items ++ note_at b (Closed (record { mark = old.marks; steps = steps; pages = pages })) ∷ []) (begins ∙ ap (barrier_from lines) last.next_is)
    ∙ ap (λ n. old.notes.items ++ note_at (barrier_from lines (place + 1)) (Closed (record { mark = n; steps = steps; pages = pages })) ∷ []) number
    ∙ ap (λ ns. ns ++ note_closed lines place steps pages ∷ []) last.notes_are
    ∙ append_assoc last.notes_before (note_planned lines place last.certificate last.pages ∷ []) (note_closed lines place steps pages ∷ []) in
    record {
      counted = marks ∙ come.counted;
      noted =
          subst (λ p. AreNotesTo lines p new.notes.items new.certificate.items) (sym last.next_is)
          (subst (λ ns. AreNotesTo lines (place + 1) ns new.certificate.items) (sym whole)
          (subst (λ t. AreNotesTo lines (place + 1) (last.notes_before ++ plan_notes lines place (Some plan)) t) (sym (ap (λ v. v.items) certificate ∙ last.text_is))
          (AreNotesTo-more lines place last.notes_before last.text_before (Some plan) last.before last.is_mark (last.is_shown, taken ∙ last.pairs_are))));
    }

-- a plan that is open is closed, after all its steps
pub HaveCome-ended : (lines : List Line) (above barrier pages : ℕ) (before plan : Option OpenPlan) (steps : List TakenStep) (old new : Minutes) → HaveCome lines above (plan_pairs before) old
    → plan_pairs plan ≡ plan_pairs before → is_some plan ≡ true → map taken_pair steps ≡ pairs_done plan → next_pair plan ≡ None → barrier ≡ barrier_from lines above
    → new.marks ≡ old.marks → new.notes.items ≡ old.notes.items ++ note_at barrier (Closed (record { mark = old.marks; steps = steps; pages = pages })) ∷ []
    → new.certificate ≡ old.certificate → HaveCome lines above None new
HaveCome-ended lines above barrier pages before None steps old new come same some underway none = absurd cc
HaveCome-ended lines above barrier pages before (Some plan) steps old new come same some underway none =
    HaveCome-closed lines above barrier pages plan.pairs steps old new (subst (λ p. HaveCome lines above p old) (sym same) come) (underway ∙ pairs_done-all plan none)

-- where none is, all is told
pub HaveCome-closed_before : (lines : List Line) (above : ℕ) (before plan : Option OpenPlan) (minutes : Minutes) → HaveCome lines above (plan_pairs before) minutes
    → plan_pairs plan ≡ plan_pairs before → is_some plan ≡ false → HaveCome lines above None minutes
HaveCome-closed_before lines above before None minutes come same none = subst (λ p. HaveCome lines above p minutes) (sym same) come
HaveCome-closed_before lines above before (Some plan) minutes come same none = absurd cc

-- ---- barriers

module _ (lines : List Line) (place : ℕ) (line : Line) (here : slice_get lines place ≡ Some line) where
  drop_here : drop place lines ≡ line ∷ drop (place + 1) lines
  drop_here = let next : suc place ≡ place + 1 = omega arith in drop_step lines place line here ∙ ap (λ n. line ∷ drop n lines) next

  before_here : take_while (λ l. not (is_barrier l)) (drop place lines) ≡ cond (not (is_barrier line)) (line ∷ take_while (λ l. not (is_barrier l)) (drop (place + 1) lines)) []
  before_here = ap (take_while (λ l. not (is_barrier l))) drop_here ∙ take_while-cons (λ l. not (is_barrier l)) line (drop (place + 1) lines)

  -- a line that is of no barrier is passed
  pub barrier_from-other : is_barrier line ≡ false → barrier_from lines place ≡ barrier_from lines (place + 1)
  barrier_from-other other =
      let rest = take_while (λ l. not (is_barrier l)) (drop (place + 1) lines) in
      let one : length (take_while (λ l. not (is_barrier l)) (drop place lines)) ≡ suc (length rest) = ap length (before_here ∙ ap (λ b. cond (not b) (line ∷ rest) []) other) in
      omega arith

  -- a line of a barrier begins it
  pub barrier_from-here : is_barrier line ≡ true → barrier_from lines place ≡ place
  barrier_from-here begins =
      let rest = take_while (λ l. not (is_barrier l)) (drop (place + 1) lines) in
      let none : length (take_while (λ l. not (is_barrier l)) (drop place lines)) ≡ 0 = ap length (before_here ∙ ap (λ b. cond (not b) (line ∷ rest) []) begins) in
      omega arith

-- where an element fails the test, no more than those before it are taken
take_while-stop : {X : Type 0} (test : X → Bool) (xs : List X) (k : ℕ) (x : X) → slice_get xs k ≡ Some x → test x ≡ false → length (take_while test xs) ≤ k
take_while-stop test [] k x here stops = absurd cc
take_while-stop test (y ∷ xs) zero x here stops =
    let same : y ≡ x = cc in
    let none : length (take_while test (y ∷ xs)) ≡ 0 = ap length (take_while-cons test y xs ∙ ap (λ b. cond b (y ∷ take_while test xs) []) (ap test same ∙ stops)) in
    omega arith
take_while-stop test (y ∷ xs) (suc k) x here stops = rw (take_while-cons test y xs) (by_test (test y) (take_while-stop test xs k x here stops))
  where
    by_test : (b : Bool) → length (take_while test xs) ≤ k → length (cond b (y ∷ take_while test xs) []) ≤ suc k
    by_test true rest = omega (arith, rest)
    by_test false rest = omega arith

is_barrier-mark : (l : Line) → is_mark l ≡ true → is_barrier l ≡ true
is_barrier-mark l is = search rules

-- no barrier begins below the next mark
pub barrier_from-mark : (lines : List Line) (from place : ℕ) (l : Line) → slice_get lines place ≡ Some l → is_mark l ≡ true → from ≤ place → barrier_from lines from ≤ place
barrier_from-mark lines from place l here is within =
    let there : slice_get lines (from + (place - from)) ≡ Some l = subst (λ n. slice_get lines n ≡ Some l) (omega arith) here in
    let few = take_while-stop (λ m. not (is_barrier m)) (drop from lines) (place - from) l (slice_get-drop lines from (place - from) l there) (ap not (is_barrier-mark l is)) in
    omega arith

-- whether a mark stands at the place of a line
pub is_mark_at-here : (lines : List Line) (place : ℕ) (line : Line) → slice_get lines place ≡ Some line → is_mark_at lines place ≡ is_mark line
is_mark_at-here lines place line here = ap (λ o. option_map_or is_mark o false) here

-- the same minutes, with the same open pairs
pub HaveCome-same : (lines : List Line) (above other : ℕ) (before after : Option OpenPlan) (old new : Minutes) → other ≡ above → plan_pairs after ≡ plan_pairs before → new ≡ old
    → HaveCome lines above (plan_pairs before) old → HaveCome lines other (plan_pairs after) new
HaveCome-same lines above other before after old new here pairs minutes come =
    subst (λ p. HaveCome lines p (plan_pairs after) new) (sym here) (subst (λ ps. HaveCome lines above ps new) (sym pairs) (subst (HaveCome lines above (plan_pairs before)) (sym minutes) come))
