-- One more line is run.
use Rattle.trace_runner.proofs.Names.{◌≡◌, ℕ, ◌+◌, ◌<◌, ◌≤◌, ◌==◌, ◌&&◌, ◌||◌, nat_lt, nat_le, not, Bool, true, false, filter, List, [], ◌∷◌, ◌++◌, length, take, Some, None, slice_get, refl, sym, ap, ap₂, subst, ◌∙◌, arith, inl, inr, append_assoc, length-append, add-zero, take-length, flat_map, range_with_len, option_map_or, and_parts, cases_Bool, eqb-true, not-true, nat_tests, flat_map-append, filter-append, append-nil, length-map, length_push, and-true, CoreState, Limits, limits-CoreRun, each-append, begins, begins_again, comes_early, ends, has_ended, first_cause, is_abandoned, is_adopt, is_call, is_call_of, reads_early, thread_of, CanLeave, Carries, TurnsBelow, HasCome, IsReady, KnowsPlan, MakesLine, Serves, news_at, settling_with, AreHome, FindsAt, IsHome, Kept, keeping, kept_none, keys_of, place_at, told_of, Did, all_made, asked_of, made_by, News, news_of, no_news, with_all_made, with_answers, with_line, DoLines, Does, IsRun, asked_by, calls_at, calls_in, ends_asked, plan_end_asked, pairs_left_of, planning_at, rings_asked, settling_at, Plans, Header, Line, all_fine, rules}
use Rattle.std.specs.Option.{option_map}
use Rattle.trace_runner.specs.Barrier.{leavers}
use Rattle.trace_text.specs.Barrier.{is_barrier, open_lines}
use Rattle.trace_text.specs.declared.line.Call.TheVariants.{End}
use Rattle.trace_text.specs.declared.line.Line.TheVariants as line
use Rattle.trace_text.proofs.Barriers.{begins-ending, has_ended-open, has_ended-open-push, has_ended-push}
use Rattle.trace_text.proofs.Knowing.{keys_in-push}
use Rattle.trace_runner.proofs.Making.{IsAnswered-append, IsAnswered-none}
use Rattle.trace_runner.proofs.Homes.{AreHome-answered}
use Rattle.trace_runner.proofs.Told.{news_of-push, replies-all_made}
use Rattle.trace_runner.proofs.Recalling.{FindsAt-fine, Keyed-asked, Recalls-none, Recalls-push, kept_of-none, kept_of-push, length-Keyed, take_line}

DoLines-push : (shards : ℕ) (all : List Line) (start : CoreState) (lines : List Line) (line : Line) (done after : List Did) (did : Did)
    → DoLines shards all start lines done after → Does shards all start after line did
    → DoLines shards all start (lines ++ line ∷ []) done (after ++ did ∷ [])
DoLines-push shards all start [] line done after did is does = (did, subst (λ (d : List Did). Does shards all start d line did) is does, ap (λ d. d ++ did ∷ []) is)
DoLines-push shards all start (first ∷ lines) line done after did (here, does_here, later) does = (here, does_here, DoLines-push shards all start lines line (done ++ here ∷ []) after did later does)

all_made-push : (done : List Did) (did : Did) → all_made (done ++ did ∷ []) ≡ all_made done ++ made_by did
all_made-push done did = flat_map-append made_by done (did ∷ []) ∙ ap (λ l. all_made done ++ l) (append-nil (made_by did))

and_false : (b : Bool) → (b && not true) ≡ false
and_false b = search rules

-- a shard has ended where its thread ended above and does not wait, one line later
flags : (above waits ends barrier : Bool) → (barrier ≡ true → ends ≡ false) → (waits ≡ true → above ≡ true) → (ends ≡ true → above ≡ false)
    → ((barrier && waits) || (above && not waits)) ≡ ((ends || above) && not (not barrier && (ends || waits)))
flags above waits true true bound waiting fresh = let bad = bound refl in cc
flags false true ends barrier bound waiting fresh = let bad = waiting refl in cc
flags true waits true false bound waiting fresh = let bad = fresh refl in cc
flags true true false true bound waiting fresh = refl
flags above waits false true bound waiting fresh = refl
flags above waits ends barrier bound waiting fresh = refl

-- the same where a thread that begins again has neither ended nor waits
flags_turned : (above waits ends barrier begins : Bool) → (barrier ≡ true → ends ≡ false) → (waits ≡ true → above ≡ true) → (ends ≡ true → above ≡ false)
    → (not begins && ((barrier && waits) || (above && not waits))) ≡ ((not begins && (ends || above)) && not (not barrier && (not begins && (ends || waits))))
flags_turned above waits ends barrier true bound waiting fresh = refl
flags_turned above waits ends barrier false bound waiting fresh = flags above waits ends barrier bound waiting fresh

waits_turned : (waits ends begins : Bool) → (ends ≡ true → begins ≡ false) → (begins ≡ true → waits ≡ false) → (ends || waits) ≡ (not begins && (ends || waits))
waits_turned waits ends begins apart rests = search (rules, cases_Bool)

-- a call that begins again and comes in time is of a thread that rests
in_time : (begins rests reads : Bool) → ((begins && not rests) || reads) ≡ false → begins ≡ true → rests ≡ true
in_time begins rests reads e is = search rules

-- a line of a barrier ends no thread
ends-barrier : (l : Line) (t : ℕ) → is_barrier l ≡ true → ends t l ≡ false
ends-barrier l t e = search rules

module _ (h : Header) (above : List Line) (l : Line) (fine : first_cause h above l ≡ None) where
  -- the thread of a line has not ended above it, and is one of the header's
  running_above : (t : ℕ) → thread_of l ≡ Some t → is_call begins_again l ≡ false → has_ended above t ≡ false
  running_above t is runs = sym (and-true (has_ended above t)) ∙ sym (ap₂ (λ o b. option_map_or (has_ended above) o false && not b) is runs) ∙ (all_fine h above l fine).ended

  -- that of a line by which it begins again rests
  resting_above : (t : ℕ) → thread_of l ≡ Some t → is_call begins_again l ≡ true → is_abandoned above t ≡ true
  resting_above t is again = by_line l (all_fine h above l fine).in_time is again
    where
      by_line : (m : Line) → is_call_of (comes_early above) m ≡ false → thread_of m ≡ Some t → is_call begins_again m ≡ true → is_abandoned above t ≡ true
      by_line (line.Call thread call) late of again =
          let same : thread ≡ t = cc of in
          subst (λ n. is_abandoned above n ≡ true) same (in_time (begins_again call) (is_abandoned above thread) (reads_early above thread call) late again)
      by_line m late of again = cc

  thread_below : (t : ℕ) → thread_of l ≡ Some t → t < h.shards
  thread_below t is = let e : nat_le h.shards t ≡ false = sym (ap (λ o. option_map_or (nat_le h.shards) o false) is) ∙ (all_fine h above l fine).thread in grind (arith, nat_tests)

-- a thread that a line ends is the line's
ends-thread : (l : Line) (t : ℕ) → ends t l ≡ true → thread_of l ≡ Some t
ends-thread (line.Call thread End) t e = ap Some (eqb-true thread t e)
ends-thread l t e = cc

-- and that line does not let it begin again
ends-runs : (l : Line) (t : ℕ) → ends t l ≡ true → is_call begins_again l ≡ false
ends-runs l t e = search rules

-- a thread that a line lets begin again is the line's
begins-thread : (l : Line) (t : ℕ) → begins t l ≡ true → (thread_of l ≡ Some t) × (is_call begins_again l ≡ true)
begins-thread (line.Call thread call) t e = let parts = and_parts (begins_again call) (thread == t) e in (ap Some (eqb-true thread t parts.1), parts.0)
begins-thread l t e = cc

-- the answers of a line, as many as it is a thread's and one more for an adoption
calls_of_line : (shards : ℕ) (all : List Line) (start : CoreState) (done : List Did) (l : Line) (did : Did) → Does shards all start done l did
    → length did.calls ≡ calls_at l did + length (filter is_adopt (l ∷ []))
calls_of_line shards all start done l did does = by_line l (sym (length-map did.calls asked_of) ∙ ap length does.calls)
  where
    by_line : (l : Line) → length did.calls ≡ length (asked_by shards all done l) → length did.calls ≡ calls_at l did + length (filter is_adopt (l ∷ []))
    by_line (line.Call t c) e = sym (add-zero (length did.calls))
    by_line l e = e

adopts-cons : (l : Line) (ls : List Line) → length (filter is_adopt (l ∷ ls)) ≡ length (filter is_adopt (l ∷ [])) + length (filter is_adopt ls)
adopts-cons l ls = ap length (filter-append is_adopt (l ∷ []) ls) ∙ length-append (filter is_adopt (l ∷ [])) (filter is_adopt ls)

DoLines-rest : (shards : ℕ) (all : List Line) (start : CoreState) (lines : List Line) (done after : List Did) → DoLines shards all start lines done after
    → (rest : List Did) × (after ≡ done ++ rest) × (length (flat_map (λ (did : Did). did.calls) rest) ≡ calls_in lines rest + length (filter is_adopt lines))
DoLines-rest shards all start [] done after is = ([], is ∙ sym (append-nil done), refl)
DoLines-rest shards all start (l ∷ ls) done after (did, does, later) =
    let more = DoLines-rest shards all start ls (done ++ did ∷ []) after later in (
      did ∷ more.0,
      more.1 ∙ append_assoc done (did ∷ []) more.0,
      length-append did.calls (flat_map (λ (d : Did). d.calls) more.0) ∙ omega (arith, more.2, calls_of_line shards all start done l did does, adopts-cons l ls),
    )

module _ (h : Header) (replies : Bool) (lines : List Line) (count : ℕ) (old core : CoreState) (kept : Kept) (leaving : ℕ
    → Bool) (plans : Plans) (come : HasCome replies h.shards lines count old core kept leaving plans) where
  -- the next line finds its keys
  pub HasCome-finds : (l : Line) → first_cause h (take count lines) l ≡ None → FindsAt lines come.done kept.keys (place_at (take count lines) l) l
  HasCome-finds = FindsAt-fine h lines count come.done kept.keys come.recalls

  -- a thread that begins again does not wait
  resting_waits : (l : Line) → first_cause h (take count lines) l ≡ None → (t : ℕ) → thread_of l ≡ Some t → is_call begins_again l ≡ true → has_ended (open_lines (take count lines)) t ≡ false
  resting_waits l fine t is again =
      not-true (has_ended (open_lines (take count lines)) t)
      (and_parts (has_ended (take count lines) t) (not (has_ended (open_lines (take count lines)) t)) (resting_above h (take count lines) l fine t is again)).1

  pub HasCome-CanLeave : CanLeave h.shards core leaving
  HasCome-CanLeave t below leaves = record {
    within = omega (arith, below, come.enough);
    running = come.ended_are t below ∙ rw (sym (come.leaving_are t) ∙ leaves) (and_false (has_ended (take count lines) t));
  }

  -- the next line may be run
  pub HasCome-IsReady : (l : Line) → first_cause h (take count lines) l ≡ None → IsReady h.shards core leaving l
  HasCome-IsReady l fine = record {
    within = (take count lines, (all_fine h (take count lines) l fine).within);
    running = λ t is runs. record {
      within = omega (arith, thread_below h (take count lines) l fine t is, come.enough);
      running = come.ended_are t (thread_below h (take count lines) l fine t is) ∙ rw (running_above h (take count lines) l fine t is runs) refl;
    };
    resting = λ t is again. record {
      within = omega (arith, thread_below h (take count lines) l fine t is, come.enough);
      ended = come.ended_are t (thread_below h (take count lines) l fine t is) ∙ resting_above h (take count lines) l fine t is again;
    };
    stays = λ t is. elim (cases_Bool (is_call begins_again l)) [
      | inl again ↦ come.leaving_are t ∙ resting_waits l fine t is again
      | inr runs ↦ elim (cases_Bool (leaving t)) [
        | inl leaves ↦
            let bad : true ≡ false = sym (has_ended-open (take count lines) t (sym (come.leaving_are t) ∙ leaves)) ∙ running_above h (take count lines) l fine t is runs in cc
        | inr stays ↦ stays
      ]
    ];
    leavers = HasCome-CanLeave;
    enough = come.enough;
  }

  leaving_is : leaving ≡ has_ended (open_lines (take count lines))
  leaving_is = λ i t. come.leaving_are t i

  -- once the next line was run
  pub HasCome-more : (l : Line) (new : CoreState) (after : Kept) (now : ℕ → Bool) (plans_now : Plans) → slice_get lines count ≡ Some l → first_cause h (take count lines) l ≡ None
      → MakesLine (count + 6) (settling_with h.shards (filter leaving (range_with_len 0 h.shards)) core l) (asked_by h.shards lines come.done l) l core kept
      (news_at kept plans) new after (news_at after plans_now)
      → TurnsBelow core h.shards (λ t. is_barrier l && leaving t) (λ t. begins t l) new → ((t : ℕ) → now t ≡ (not (is_barrier l) && (ends t l || leaving t)))
      → KnowsPlan plans_now new → plans_now.marks ≤ plans.marks + 1
      → HasCome replies h.shards lines (count + 1) old new after now plans_now
  HasCome-more l new after now plans_now here fine makes ended left knows marks =
      let (settled, asks_settled, answered_settled, news_settled) = makes.settles in
      let (made, asks, answered, more) = makes.makes in
      let (planned, asks_planned, answered_planned, news_planned) = makes.plans in
      let did : Did = record { settled = settled; calls = made; plans = planned } in
      let next = take_line lines count l here in
      let above : take (length come.done) lines ≡ take count lines = ap (λ n. take n lines) come.count_is in
      let called = IsAnswered-append core makes.settled_core makes.called_core settled made answered_settled answered in
      let called_all = IsAnswered-append old core makes.called_core (all_made come.done) (settled ++ made) come.answered called in
      let does : Does h.shards lines old come.done l did = record {
        settled = asks_settled ∙ ap (λ (f : ℕ → Bool). settling_with h.shards (filter f (range_with_len 0 h.shards)) core l) leaving_is
            ∙ ap (λ ls. settling_at h.shards ls core l) (sym above) ∙ ap (λ c. settling_at h.shards (take (length come.done) lines) c l) come.answered.steps.last;
        calls = asks;
        plans = asks_planned ∙ ap (λ c. planning_at c l) called_all.steps.last;
      } in
      let keyed = Keyed-asked h.shards lines come.done l made asks in
      let keys : after.keys ≡ kept.keys ++ keys_of made = ap (λ (k : Kept). k.keys) makes.rest ∙ ap (λ (k : Kept). k.keys) more in
      let number : count + 6 ≡ 6 + length come.done = omega (arith, come.count_is) in
      let asks_replies : makes.news.replies ≡ kept.asked = ap (λ (n : News). n.replies) news_settled ∙ replies-all_made (news_at kept plans) settled in
      let replied : makes.called.asked ≡ makes.news.replies = ap (λ (k : Kept). k.asked) more ∙ sym asks_replies in
      let answered_text : makes.called.text ≡ makes.news.text ++ told_of makes.news.replies (count + 6) made =
      ap (λ (k : Kept). k.text) more ∙ ap (λ b. makes.news.text ++ told_of b (count + 6) made) (sym asks_replies) in
      let news : news_at after plans_now ≡ news_of replies (come.done ++ did ∷ []) =
      news_planned ∙ ap₂ (λ b text. with_all_made (record makes.news { replies = b; text = text }) planned) replied answered_text
      ∙ ap (λ n. with_all_made (with_answers (count + 6) made n) planned) (news_settled ∙ ap (λ n. with_all_made n settled) come.news_are)
      ∙ ap (λ k. with_line k (news_of replies come.done) did) number ∙ sym (news_of-push replies come.done did) in
      let waits : (t : ℕ) → has_ended (open_lines (take (count + 1) lines)) t ≡ (not (is_barrier l) && (not (begins t l) && (ends t l || has_ended (open_lines (take count lines)) t))) =
      λ t. ap (λ ls. has_ended (open_lines ls) t) next.0 ∙ has_ended-open-push (take count lines) l t in
      record {
        done = come.done ++ did ∷ [];
        count_is = length_push come.done did ∙ ap (λ n. n + 1) come.count_is;
        lines_do = subst (λ (some : List Line). DoLines h.shards lines old some [] (come.done ++ did ∷ [])) (sym next.0)
            (DoLines-push h.shards lines old (take count lines) l [] come.done did come.lines_do does);
        answered = rw all_made-push (IsAnswered-append old core new (all_made come.done) (made_by did) come.answered
            (IsAnswered-append core makes.called_core new (settled ++ made) planned called answered_planned));
        kept_is = kept_of-push replies come.done did (count + 6) makes.news.text makes.called after
            (more ∙ ap (λ (k : Kept). keeping (count + 6) (record k { text = makes.news.text }) made) come.kept_is) makes.rest
            (ap (λ (n : News). n.text) news);
        recalls = rw (next.0, keys) (Recalls-push (take count lines) l come.done did kept.keys come.recalls (come.count_is ∙ sym next.1) come.long keyed);
        long = rw next.0 (ap length keys ∙ length-append kept.keys (keys_of made) ∙ ap₂ (λ a b. a + b) come.long (length-Keyed l made keyed) ∙ sym (keys_in-push (take count lines) l));
        news_are = news;
        knows = knows;
        marks = omega (arith, marks, come.marks);
        enough = rw ended.limits come.enough;
        home = rw (ended.limits, keys) (each-append (IsHome core.limits.shards) kept.keys (keys_of made) come.home
            (subst (λ (limits : Limits). AreHome limits.shards (keys_of made)) (limits-CoreRun core makes.settled_core _ _ answered_settled.steps.core)
            (AreHome-answered makes.settled_core makes.called_core made answered)));
        leaving_are = λ t. left t ∙ ap (λ b. not (is_barrier l) && (ends t l || b)) (come.leaving_are t)
            ∙ ap (λ b. not (is_barrier l) && b) (waits_turned (has_ended (open_lines (take count lines)) t) (ends t l) (begins t l) (begins-ending t l)
            (λ again. let of = begins-thread l t again in resting_waits l fine t of.0 of.1))
            ∙ sym (waits t);
        ended_are = λ t below.
            let less : nat_lt t h.shards ≡ true = grind (arith, nat_tests, below) in
            ended.ended t ∙ rw less (ap₂ (λ a b. not (begins t l) && ((is_barrier l && a) || b)) (come.leaving_are t) (come.ended_are t below))
            ∙ flags_turned (has_ended (take count lines) t) (has_ended (open_lines (take count lines)) t) (ends t l) (is_barrier l) (begins t l)
            (ends-barrier l t) (has_ended-open (take count lines) t) (λ ends_here. running_above h (take count lines) l fine t (ends-thread l t ends_here) (ends-runs l t ends_here))
            ∙ ap₂ (λ a b. a && not b) (sym (ap (λ ls. has_ended ls t) next.0 ∙ has_ended-push t (take count lines) l)) (sym (waits t));
      }

  -- how many of the answers are those of threads' lines
  pub HasCome-calls : count ≡ length lines → kept.count ≡ calls_in lines come.done + length (filter is_adopt lines)
  HasCome-calls all =
      let whole : take count lines ≡ lines = ap (λ n. take n lines) all ∙ take-length lines in
      let rest = DoLines-rest h.shards lines old lines [] come.done (subst (λ (some : List Line). DoLines h.shards lines old some [] come.done) whole come.lines_do) in
      ap (λ (k : Kept). k.count) come.kept_is ∙ subst (λ (d : List Did). length (flat_map (λ (did : Did). did.calls) d) ≡ calls_in lines d + length (filter is_adopt lines)) (sym rest.1) rest.2

  -- once the last section is settled, the run is whole
  pub HasCome-IsRun : (new : CoreState) (calls : ℕ) (news : News) → count ≡ length lines
      → Carries (plan_end_asked core.plan ++ (ends_asked (filter leaving (range_with_len 0 h.shards)) ++ rings_asked h.shards)) core (news_at kept plans) new news
      → calls ≡ calls_in lines come.done
      → IsRun h.shards replies lines old new calls news
  HasCome-IsRun new calls news all (made, asks, answered, told) calls_are =
      let whole : take count lines ≡ lines = ap (λ n. take n lines) all ∙ take-length lines in record {
        done = come.done;
        last = made;
        lines_do = subst (λ (some : List Line). DoLines h.shards lines old some [] come.done) whole come.lines_do;
        settled = asks ∙ ap (λ (f : ℕ → Bool). plan_end_asked core.plan ++ (ends_asked (filter f (range_with_len 0 h.shards)) ++ rings_asked h.shards)) leaving_is
            ∙ ap (λ ls. plan_end_asked core.plan ++ (ends_asked (leavers h.shards ls) ++ rings_asked h.shards)) whole
            ∙ ap (λ (c : CoreState). plan_end_asked c.plan ++ (ends_asked (leavers h.shards lines) ++ rings_asked h.shards)) come.answered.steps.last;
        answered = IsAnswered-append old core new (all_made come.done) made come.answered answered;
        calls_are = calls_are;
        news_are = told ∙ ap (λ n. with_all_made n made) come.news_are;
      }

-- before the first line
pub HasCome-start : (h : Header) (replies : Bool) (lines : List Line) (core : CoreState) (leaving : ℕ → Bool) (plans : Plans) → Serves h.shards core
    → ((t : ℕ) → leaving t ≡ false) → news_at (kept_none replies) plans ≡ no_news replies → plans.left ≡ None
    → HasCome replies h.shards lines 0 core core (kept_none replies) leaving plans
HasCome-start h replies lines core leaving plans serves none news left = record {
  done = [];
  count_is = refl;
  lines_do = refl;
  answered = IsAnswered-none core;
  kept_is = kept_of-none replies;
  recalls = Recalls-none [];
  long = refl;
  enough = serves.enough;
  home = tt;
  leaving_are = none;
  ended_are = serves.running;
  news_are = news;
  knows = left ∙ sym (ap (option_map pairs_left_of) serves.unplanned);
  marks = let e : plans.marks ≡ 0 = ap (λ (n : News). n.marks) news in omega (arith, e);
}
