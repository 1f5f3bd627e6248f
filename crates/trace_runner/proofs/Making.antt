-- Calls that are made one after another.
use Rattle.trace_runner.proofs.Names.{◌≡◌, ℕ, Bool, cond, length, arith, List, [], ◌∷◌, ◌++◌, map, refl, sym, ap, subst, ◌∙◌, flat_map-append, map-append, length-map, limits-CoreRun, each-append, CoreState, shown, Limits, CoreStep, CoreRun, ErasedStep, PlainRun, erased, is_plain, IsSound, Asked, Calls, CalledEvent, Called, Made, IsAsAsked, all_called, asked_of, core_called, event_called, events_of, no_call, one_call, replies_of, reply_called, News, with_all_made, with_called, with_made, Kept, keeping, Carries, Makes, MakesLine, news_at, settling_with, AreSteps, Happens, IsAnswered, IsCallTold, IsTold, ends_asked, plan_end_asked, rings_asked, stepping, Plans, Event, End, Adopt, Mark, ShardEnded, Reply, PlainMap, rules}
use Rattle.std.proofs.lemmas.List.Sums.{fold-append}
use Rattle.trace_runner.proofs.Recalling.{keeping-append, keeping-none}
use Rattle.trace_text.specs.declared.line.Call.{Call}
use Rattle.trace_text.specs.declared.line.Line.TheVariants as line

CoreRun-append : (a b c : CoreState) (es fs : List Event) (rs ss : List Reply) → CoreRun a es rs b → CoreRun b fs ss c → CoreRun a (es ++ fs) (rs ++ ss) c
CoreRun-append a b c [] fs [] ss first second = subst (λ (s : CoreState). CoreRun s fs ss c) first second
CoreRun-append a b c (e ∷ es) fs (r ∷ rs) ss (mid, step, sound, first) second = (mid, step, sound, CoreRun-append mid b c es fs rs ss first second)
CoreRun-append a b c es fs rs ss first second = absurd first

PlainRun-append : (limits : Limits) (a b c : PlainMap) (first second : List (Event × Reply)) → PlainRun limits a first b → PlainRun limits b second c → PlainRun limits a (first ++ second) c
PlainRun-append limits a b c [] second before after = subst (λ (s : PlainMap). PlainRun limits s second c) before after
PlainRun-append limits a b c (step ∷ first) second (mid, here, before) after = (mid, here, PlainRun-append limits mid b c first second before after)

-- what is erased of a list that goes on
cond-append : (b : Bool) (step : Event × Reply) (first second : List (Event × Reply)) → cond b (step ∷ (first ++ second)) (first ++ second) ≡ cond b (step ∷ first) first ++ second
cond-append b step first second = search rules

erased-append : (es fs : List Event) (rs ss : List Reply) → length es ≡ length rs → erased (es ++ fs) (rs ++ ss) ≡ erased es rs ++ erased fs ss
erased-append [] fs [] ss same = refl
erased-append (e ∷ es) fs (r ∷ rs) ss same =
    ap (λ more. cond (is_plain e) ((e, r) ∷ more) more) (erased-append es fs rs ss (omega arith)) ∙ cond-append (is_plain e) (e, r) (erased es rs) (erased fs ss)
erased-append es fs rs ss same = absurd (omega arith)

-- each event has its reply
replies-length : (called : List CalledEvent) → length (events_of called) ≡ length (replies_of called)
replies-length called = length-map called event_called ∙ sym (length-map called reply_called)

-- the core that two lists leave, one after the other
pub core_called-append : (core : CoreState) (first second : List CalledEvent) → core_called core (first ++ second) ≡ core_called (core_called core first) second
core_called-append core [] second = refl
core_called-append core (Called event reply after ∷ first) second = core_called-append after first second

Happens-append : (core : CoreState) (first second : List CalledEvent) → Happens core first → Happens (core_called core first) second → Happens core (first ++ second)
Happens-append core [] second before after = after
Happens-append core (Called event reply next ∷ first) second before after = (before.0, Happens-append next first second before.1 after)

pub all_called-append : (first second : List Made) → all_called (first ++ second) ≡ all_called first ++ all_called second
all_called-append first second = flat_map-append (λ (m : Made). m.called) first second

-- one event, as the plain map has it
erased-one : (limits : Limits) (a b : PlainMap) (event : Event) (reply : Reply) → ErasedStep limits a event reply b → PlainRun limits a (erased (event ∷ []) (reply ∷ [])) b
erased-one limits a b event reply step = search rules

pub AreSteps-none : (core : CoreState) → AreSteps core [] core
AreSteps-none core = record { each = tt; last = refl; core = refl; plain = refl; told = tt }

pub AreSteps-one : (event : Event) (reply : Reply) (old new : CoreState) → CoreStep old event reply new → IsSound new → ErasedStep old.limits (shown old) event reply (shown new) → IsTold event reply
    → AreSteps old (Called event reply new ∷ []) new
AreSteps-one event reply old new step sound plain told = record {
  each = (step, tt);
  last = refl;
  core = (new, step, sound, refl);
  plain = erased-one old.limits (shown old) (shown new) event reply plain;
  told = (told, tt);
}

pub AreSteps-append : (a b c : CoreState) (first second : List CalledEvent) → AreSteps a first b → AreSteps b second c → AreSteps a (first ++ second) c
AreSteps-append a b c first second before after =
    let events = map-append event_called first second in
    let replies = map-append reply_called first second in
    record {
      each = Happens-append a first second before.each (subst (λ (core : CoreState). Happens core second) before.last after.each);
      last = after.last ∙ ap (λ core. core_called core second) before.last ∙ sym (core_called-append a first second);
      core = rw (events, replies) (CoreRun-append a b c (events_of first) (events_of second) (replies_of first) (replies_of second) before.core after.core);
      plain = rw (events, replies, erased-append (events_of first) (events_of second) (replies_of first) (replies_of second) (replies-length first))
          (PlainRun-append a.limits (shown a) (shown b) (shown c) (erased (events_of first) (replies_of first))
          (erased (events_of second) (replies_of second)) before.plain
          (subst (λ limits. PlainRun limits (shown b) (erased (events_of second) (replies_of second)) (shown c)) (limits-CoreRun a b (events_of first) (replies_of first) before.core) after.plain));
      told = each-append IsCallTold first second before.told after.told;
    }

pub IsAnswered-none : (core : CoreState) → IsAnswered core [] core
IsAnswered-none core = record { steps = AreSteps-none core; asked = tt }

-- nothing was called
pub IsAnswered-no_call : (asked : Asked) (core : CoreState) → IsAsAsked (no_call asked) → IsAnswered core (no_call asked ∷ []) core
IsAnswered-no_call asked core fits = record { steps = AreSteps-none core; asked = (fits, tt) }

pub IsAnswered-one : (event : Event) (reply : Reply) (old new : CoreState) → CoreStep old event reply new → IsSound new → ErasedStep old.limits (shown old) event reply (shown new) → IsTold event reply
    → IsAnswered old (one_call event reply new ∷ []) new
IsAnswered-one event reply old new step sound plain told = record { steps = AreSteps-one event reply old new step sound plain told; asked = ((refl, tt), tt) }

pub IsAnswered-append : (a b c : CoreState) (first second : List Made) → IsAnswered a first b → IsAnswered b second c → IsAnswered a (first ++ second) c
IsAnswered-append a b c first second before after = record {
  steps = subst (λ (called : List CalledEvent). AreSteps a called c) (sym (all_called-append first second)) (AreSteps-append a b c (all_called first) (all_called second) before.steps after.steps);
  asked = each-append IsAsAsked first second before.asked after.asked;
}

-- one call, of which the answer is kept
pub Makes-called : (number : ℕ) (event : Event) (reply : Reply) (old new : CoreState) (before after : Kept)
    → CoreStep old event reply new → IsSound new → ErasedStep old.limits (shown old) event reply (shown new) → IsTold event reply → after ≡ keeping number before (one_call event reply new ∷ [])
    → Makes number (Calls event ∷ []) old before new after
Makes-called number event reply old new before after step sound plain told kept =
    (one_call event reply new ∷ [], refl, IsAnswered-one event reply old new step sound plain told, kept)

-- no call, since its key was never given out, or the thread ends
pub Makes-no_call : (number : ℕ) (asked : Asked) (core : CoreState) (before after : Kept) → IsAsAsked (no_call asked) → after ≡ keeping number before (no_call asked ∷ [])
    → Makes number (asked ∷ []) core before core after
Makes-no_call number asked core before after fits kept = (no_call asked ∷ [], refl, IsAnswered-no_call asked core fits, kept)

pub Makes-none : (number : ℕ) (core : CoreState) (kept : Kept) → Makes number [] core kept core kept
Makes-none number core kept = ([], refl, IsAnswered-none core, sym (keeping-none number kept))

pub Makes-append : (number : ℕ) (first second : List Asked) (a b c : CoreState) (x y z : Kept)
    → Makes number first a x b y → Makes number second b y c z → Makes number (first ++ second) a x c z
Makes-append number first second a b c x y z (made, asks, answers, after) (more, asks_more, answers_more, after_more) = (
  made ++ more,
  map-append asked_of made more ∙ ap (λ l. l ++ map asked_of more) asks ∙ ap (λ l. first ++ l) asks_more,
  IsAnswered-append a b c made more answers answers_more,
  after_more ∙ ap (λ k. keeping number k more) after ∙ keeping-append number x made more,
)

-- ---- what is done about plans and at barriers

pub Carries-none : (core : CoreState) (news : News) → Carries [] core news core news
Carries-none core news = ([], refl, IsAnswered-none core, refl)

-- one event, and the news with what it tells
pub Carries-one : (event : Event) (reply : Reply) (old new : CoreState) (before after : News) → CoreStep old event reply new → IsSound new
    → ErasedStep old.limits (shown old) event reply (shown new) → IsTold event reply
    → after ≡ with_called before (Called event reply new) → Carries (Calls event ∷ []) old before new after
Carries-one event reply old new before after step sound plain told news = (one_call event reply new ∷ [], refl, IsAnswered-one event reply old new step sound plain told, news)

pub Carries-append : (first second : List Asked) (a b c : CoreState) (x y z : News) → Carries first a x b y → Carries second b y c z → Carries (first ++ second) a x c z
Carries-append first second a b c x y z (made, asks, answered, news) (more, asks_more, answered_more, news_more) = (
  made ++ more,
  map-append asked_of made more ∙ ap (λ l. l ++ map asked_of more) asks ∙ ap (λ l. first ++ l) asks_more,
  IsAnswered-append a b c made more answered answered_more,
  news_more ∙ ap (λ n. with_all_made n more) news ∙ sym (fold-append with_made x made more),
)

-- the end of a shard, which tells nothing
pub Carries-end : (shard : ℕ) (old new : CoreState) (news : News) → CoreStep old (End shard) ShardEnded new → IsSound new → ErasedStep old.limits (shown old) (End shard) ShardEnded (shown new)
    → Carries (ends_asked (shard ∷ [])) old news new news
Carries-end shard old new news step sound plain = Carries-one (End shard) ShardEnded old new news news step sound plain tt refl

-- ---- what a line asks for, by its kind

module _ (number shards : ℕ) (threads : List ℕ) (old : CoreState) (before : Kept) (plans : Plans) where
  pub MakesLine-silent : MakesLine number (settling_with shards threads old line.Silent) [] line.Silent old before (news_at before plans) old before (news_at before plans)
  MakesLine-silent = record {
    settled_core = old;
    called_core = old;
    news = news_at before plans;
    called = before;
    settles = Carries-none old _;
    makes = Makes-none number old before;
    plans = Carries-none old _;
    rest = refl;
  }

  pub MakesLine-call : (thread : ℕ) (call : Call) (asked : List Asked) (mid new : CoreState) (after : Kept) (plans_after : Plans)
      → Makes number asked old before mid after → Carries (stepping mid.plan) mid (news_at after plans) new (news_at after plans_after)
      → MakesLine number (settling_with shards threads old (line.Call thread call)) asked (line.Call thread call) old before (news_at before plans) new after (news_at after plans_after)
  MakesLine-call thread call asked mid new after plans_after makes follows = record {
    settled_core = old;
    called_core = mid;
    news = news_at before plans;
    called = after;
    settles = Carries-none old _;
    makes = makes;
    plans = follows;
    rest = refl;
  }

  module _ (mid : CoreState) (middle : Kept) (settled : Plans)
      (settles : Carries (plan_end_asked old.plan ++ (ends_asked threads ++ rings_asked shards)) old (news_at before plans) mid (news_at middle settled))
      (told : middle ≡ record before { text = middle.text }) where
    pub MakesLine-adopt : (shard : ℕ) (asked : List Asked) (new : CoreState) (after : Kept) → Makes number asked mid middle new after
        → MakesLine number (settling_with shards threads old (line.Adopt shard)) asked (line.Adopt shard) old before (news_at before plans) new after (news_at after settled)
    MakesLine-adopt shard asked new after makes = record {
      settled_core = mid;
      called_core = new;
      news = news_at middle settled;
      called = after;
      settles = settles;
      makes = subst (λ (kept : Kept). Makes number asked mid kept new after) told makes;
      plans = Carries-none new _;
      rest = refl;
    }

    pub MakesLine-mark : (new : CoreState) (after : Kept) (plans_after : Plans) → after ≡ record middle { text = after.text }
        → Carries (Calls Mark ∷ []) mid (news_at middle settled) new (news_at after plans_after)
        → MakesLine number (settling_with shards threads old line.Mark) [] line.Mark old before (news_at before plans) new after (news_at after plans_after)
    MakesLine-mark new after plans_after rest marks = record {
      settled_core = mid;
      called_core = mid;
      news = news_at middle settled;
      called = middle;
      settles = settles;
      makes = subst (λ (kept : Kept). Makes number [] mid kept mid middle) told (Makes-none number mid middle);
      plans = marks;
      rest = rest;
    }
