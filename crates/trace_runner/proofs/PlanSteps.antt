-- Plans that are carried out, closed and made.
use Rattle.trace_runner.proofs.Names.{◌≡◌, ◌+◌, ◌<◌, ℕ, List, [], ◌∷◌, ◌++◌, map, replicate, nat_lt, Option, Some, None, option_map, refl, sym, ap, subst, rules, nat_tests, slice_get-map, replicate_next, SpanId, ShardState, PoolState, CoreState, CoreStep, Asked, Calls, News, Carries, KeepsShards, plan_end_asked, pairs_left_of, stepping}
use Rattle.certificate.specs.declared.certificate.Certificate.{Certificate}
use Rattle.fold.specs.Folds.{Folds}
use Rattle.fold.specs.declared.step.Step.{Step}
use Rattle.fold.specs.declared.step.Step.TheVariants.{Emptied, Folded}
use Rattle.marks.specs.Closings.{closed_onto, reopened}
use Rattle.marks.specs.Plans.{OpenPlan}
use Rattle.arena_core.specs.declared.event.Event.TheVariants as event
use Rattle.arena_core.specs.declared.reply.Reply.TheVariants as reply
use Rattle.trace_runner.proofs.Making.{Carries-append}
use Rattle.trace_runner.proofs.Serving.{KeepsShards-with_shard, ended_in}

-- ---- the shards, which none of these ends

ended-Folds : (pool pool_new : PoolState) (old new : ShardState) (abandoned owned : SpanId) → Folds pool old abandoned owned pool_new new → new.ended ≡ old.ended
ended-Folds pool pool_new old new abandoned owned folds = ap (λ (s : ShardState). s.ended) folds.grafts.after

ended_in-map : (f : ShardState → ShardState) → ((shard : ShardState) → (f shard).ended ≡ shard.ended) → (shards : List ShardState) (number : ℕ)
    → ended_in (map f shards) number ≡ ended_in shards number
ended_in-map f same shards number = search (rules, slice_get-map, option_map)

pub KeepsShards-stepped : (old new : CoreState) (abandoned owned : SpanId) (outcome : Step) → CoreStep old event.Step (reply.Stepped abandoned owned outcome) new → KeepsShards old new
KeepsShards-stepped old new abandoned owned Folded step =
    let keeps = KeepsShards-with_shard old step.number step.before step.after step.here (ended-Folds old.pool step.pool step.before step.after abandoned owned step.folds) in
    subst (KeepsShards old) (sym step.rest) (record { limits = keeps.limits; ended = keeps.ended })
KeepsShards-stepped old new abandoned owned Emptied step = subst (KeepsShards old) (sym step.rest) (record { limits = refl; ended = λ number. refl })
KeepsShards-stepped old new abandoned owned outcome step = absurd step

pub KeepsShards-closed : (old new : CoreState) → CoreStep old event.Close reply.Closed new → KeepsShards old new
KeepsShards-closed old new step = subst (KeepsShards old) (sym step.1) (record { limits = refl; ended = ended_in-map reopened (λ shard. refl) old.shards })

pub KeepsShards-marked : (old new : CoreState) (c : Certificate) → CoreStep old event.Mark (reply.Marked c) new → KeepsShards old new
KeepsShards-marked old new c step = subst (KeepsShards old) (sym step.after) (record { limits = refl; ended = ended_in-map (closed_onto c.plan) (λ shard. refl) old.shards })

-- ---- what was asked and done

-- one step more
pub Carries-next : (taken : ℕ) (a b c : CoreState) (x y z : News) → Carries (replicate taken (Calls event.Step)) a x b y
    → Carries (Calls event.Step ∷ []) b y c z → Carries (replicate (taken + 1) (Calls event.Step)) a x c z
Carries-next taken a b c x y z before more =
    subst (λ (asked : List Asked). Carries asked a x c z) (sym (replicate_next taken (Calls event.Step)))
    (Carries-append (replicate taken (Calls event.Step)) (Calls event.Step ∷ []) a b c x y z before more)

-- ---- the open plan, of which the run knows how many pairs are left

pub stepping-some : (plan : Option OpenPlan) (left : ℕ) → Some left ≡ option_map pairs_left_of plan → 0 < left → stepping plan ≡ Calls event.Step ∷ []
stepping-some plan left knows some = search (rules, nat_lt, nat_tests)

pub plan_end_asked-some : (plan : Option OpenPlan) (left : ℕ) → Some left ≡ option_map pairs_left_of plan → plan_end_asked plan ≡ replicate left (Calls event.Step) ++ Calls event.Close ∷ []
plan_end_asked-some None left knows = cc
plan_end_asked-some (Some plan) left knows =
    let is : pairs_left_of plan ≡ left = cc in
    ap (λ count. replicate count (Calls event.Step) ++ Calls event.Close ∷ []) is

-- ---- the news

pub News-same : (a b : News) → a.replies ≡ b.replies → a.marks ≡ b.marks → a.taken ≡ b.taken → a.text ≡ b.text → a.certificate ≡ b.certificate → a ≡ b
News-same a b replies marks taken text certificate = λ i. record { replies = replies i; marks = marks i; taken = taken i; text = text i; certificate = certificate i }
