-- Which shards have ended, one step later.
use Rattle.trace_runner.proofs.Names.{◌≡◌, ◌==◌, ℕ, zero, suc, Bool, true, false, cond, List, [], ◌∷◌, Some, refl, sym, ap, subst, ◌∙◌, arith, inl, inr, is_some, slice_get, set, Result, Ok, Err, MatchResult, rules, option_map_or, nat_tests, cases_Bool, eqb-true, PoolState, ShardState, begun, Puts, Frees, Sets, class_of, Value, Class, Key, CoreState, with_shard, CoreStep, EndsOne, IsOpen, IsPutServed, IsServed, IsSetServed, KeepsPlan, KeepsShards, MayCall, MeetsPlan, Resumes, ended_at, reply_to_put, Event, Put, Get, Set, Free, Later, End, Begin, Retire, Trim, Adopt, Reply, Issued, Found, Replaced, Freed, Sent, ShardEnded, ShardBegun, Retired, Trimmed, Adopted, Refused, Refusal, true≢false}
use Rattle.pool.specs.Calls.{with_rooms}
use Rattle.pool.specs.Retires.{MovesSparse, Retires}
use Rattle.shard.specs.declared.shard.Freed.TheVariants.{Yes}
use Rattle.shard.specs.declared.shard.replacing.Replaced.TheVariants as replaced
use Rattle.arena_core.specs.declared.reply.Refusal.TheVariants.{OutOfMemory, PlanOpen, RingFull, Config}

-- the shard of this number is there and has ended
abbrev pub ended_in : List ShardState → ℕ → Bool
ended_in shards number = option_map_or (λ shard. shard.ended) (slice_get shards number) false

zero_other : (other : ℕ) → (zero == suc other) ≡ false
zero_other other = grind (arith, nat_tests)

other_zero : (number : ℕ) → (suc number == zero) ≡ false
other_zero number = grind (arith, nat_tests)

ended_in-set : (shards : List ShardState) (number : ℕ) (before after : ShardState) → slice_get shards number ≡ Some before → (other : ℕ)
    → ended_in (set shards number after) other ≡ cond (number == other) after.ended (ended_in shards other)
ended_in-set [] number before after here other = cc here
ended_in-set (shard ∷ shards) zero before after here zero = refl
ended_in-set (shard ∷ shards) zero before after here (suc other) = ap (λ b. cond b after.ended (ended_in shards other)) (sym (zero_other other))
ended_in-set (shard ∷ shards) (suc number) before after here zero = ap (λ b. cond b after.ended shard.ended) (sym (other_zero number))
ended_in-set (shard ∷ shards) (suc number) before after here (suc other) =
    let same : (suc number == suc other) ≡ (number == other) = grind (arith, nat_tests) in
    ended_in-set shards number before after here other ∙ ap (λ b. cond b after.ended (ended_in shards other)) (sym same)

module _ (old : CoreState) (number : ℕ) (before after : ShardState) (here : slice_get old.shards number ≡ Some before) where
  pub KeepsShards-with_shard : after.ended ≡ before.ended → KeepsShards old (with_shard old number after)
  KeepsShards-with_shard same = search (rules, ended_in-set, cases_Bool, eqb-true)

  KeepsPlan-with_shard : (new : CoreState) → new ≡ with_shard old number after → after.ended ≡ before.ended → KeepsPlan old new
  KeepsPlan-with_shard new is same = subst (KeepsPlan old) (sym is) (record { shards = KeepsShards-with_shard same; plan = refl })

  EndsOne-with_shard : after.ended ≡ true → EndsOne old number (with_shard old number after)
  EndsOne-with_shard ended = search (rules, ended_in-set, cases_Bool)

  Resumes-with_shard : after.ended ≡ false → Resumes old (λ other. number == other) (with_shard old number after)
  Resumes-with_shard runs = search (rules, ended_in-set, cases_Bool)

KeepsShards-same : (old new : CoreState) → new ≡ old → KeepsShards old new
KeepsShards-same old new same = record { limits = ap (λ (c : CoreState). c.limits) same; ended = λ number. ap (λ c. ended_at c number) same }

pub KeepsPlan-same : (old new : CoreState) → new ≡ old → KeepsPlan old new
KeepsPlan-same old new same = record { shards = KeepsShards-same old new same; plan = ap (λ (c : CoreState). c.plan) same }

ended-Puts : (old new : ShardState) (class : Class) (value : Value) (key : Key) (at : ℕ) → Puts old class value key at new → new.ended ≡ old.ended
ended-Puts old new class value key at (running, inl (index, group, room, span, generation, count, is)) = ap (λ (s : ShardState). s.ended) is
ended-Puts old new class value key at (running, inr (full, pages, opened, (shard, serial, slot, generation, count, (index, place, is)))) = ap (λ (s : ShardState). s.ended) is

ended-Sets : (old new : ShardState) (key : Key) (value : Value) (at : ℕ) → Sets old key value (replaced.Yes at) new → new.ended ≡ old.ended
ended-Sets old new key value at (index, place, group, span, here, settable, count, is) = ap (λ (s : ShardState). s.ended) is

ended-Frees : (old new : ShardState) (key : Key) (at : ℕ) → Frees old key (Yes at) new → new.ended ≡ old.ended
ended-Frees old new key at (index, place, group, span, here, holds, count, is) = ap (λ (s : ShardState). s.ended) is

ended-MovesSparse : (count : ℕ) (old new : PoolState) (shard left : ShardState) → MovesSparse count old shard new left → left.ended ≡ shard.ended
ended-MovesSparse zero old new shard left moves = ap (λ (s : ShardState). s.ended) moves.1
ended-MovesSparse (suc count) old new shard left (mid, others, moves, last) = ap (λ (s : ShardState). s.ended) last.after ∙ ended-MovesSparse count old mid shard others moves

ended-Retires : (old new : PoolState) (shard left : ShardState) (most count : ℕ) → Retires old shard most count new left → left.ended ≡ shard.ended
ended-Retires old new shard left most count retires = ended-MovesSparse count (with_rooms old retires.group_room retires.span_room) new shard left retires.moved

-- what holds of both answers of a put holds of the reply that its answer stands for
pub reply_to_put-each : (P : Reply → Type 0) (put : Result Key Refusal) → MatchResult put (λ key. P (Issued key)) (λ refusal. P (Refused refusal)) → P (reply_to_put put)
reply_to_put-each P put is = search rules

-- a call of a line ends no shard, and leaves the plan
pub KeepsPlan-step : (old new : CoreState) (event : Event) (reply : Reply) → MayCall old event → CoreStep old event reply new → KeepsPlan old new
KeepsPlan-step old new (Put shard value) (Issued key) may step =
    KeepsPlan-with_shard old shard step.before step.after step.here new step.rest (ended-Puts step.before step.after (class_of value) value key step.at step.puts)
KeepsPlan-step old new (Set key value) (Replaced true) may (inl step) =
    KeepsPlan-with_shard old step.number step.before step.after step.here new step.rest (ended-Sets step.before step.after key value step.at step.sets)
KeepsPlan-step old new (Set key value) (Replaced true) may (inr step) = subst (KeepsPlan old) (sym step.rest) (record { shards = record { limits = refl; ended = λ number. refl }; plan = refl })
KeepsPlan-step old new (Free key) (Freed true) may (inl step) =
    KeepsPlan-with_shard old step.number step.before step.after step.here new step.rest (ended-Frees step.before step.after key step.at step.frees)
KeepsPlan-step old new (Free key) (Freed true) may (inr step) = subst (KeepsPlan old) (sym step.rest) (record { shards = record { limits = refl; ended = λ number. refl }; plan = refl })
KeepsPlan-step old new (Later worker key) Sent may step = subst (KeepsPlan old) (sym step.rest) (record { shards = record { limits = refl; ended = λ number. refl }; plan = refl })
KeepsPlan-step old new (Retire shard most) (Retired count) may step =
    let keeps = KeepsShards-with_shard old shard step.before step.after step.here (ended-Retires old.pool step.pool step.before step.after most count step.retires) in
    subst (KeepsPlan old) (sym step.rest) (record { shards = record { limits = keeps.limits; ended = keeps.ended }; plan = refl })
KeepsPlan-step old new (Trim shard) (Trimmed count) may step =
    KeepsPlan-with_shard old shard step.before step.after step.here new step.rest (ap (λ (s : ShardState). s.ended) step.trims.after)
KeepsPlan-step old new (Adopt shard) (Adopted head) may step =
    let adopted = ap (λ (s : ShardState). s.ended) step.adopts.takes_in.after in
    let keeps = KeepsShards-with_shard old shard step.before step.after step.here adopted in
    subst (KeepsPlan old) (sym step.rest) (record { shards = record { limits = keeps.limits; ended = keeps.ended }; plan = refl })
KeepsPlan-step old new (Put shard value) (Refused Config) may step = KeepsPlan-same old new step.1
KeepsPlan-step old new (Get key) (Found value) may step = KeepsPlan-same old new step.1
KeepsPlan-step old new (Set key value) (Refused OutOfMemory) may step = KeepsPlan-same old new step.1
KeepsPlan-step old new (Later worker key) (Refused RingFull) may step = KeepsPlan-same old new step.1
KeepsPlan-step old new (Retire shard most) (Refused Config) may step = KeepsPlan-same old new step.1
KeepsPlan-step old new (Trim shard) (Refused Config) may step = KeepsPlan-same old new step.1
KeepsPlan-step old new (Adopt shard) (Refused Config) may step = KeepsPlan-same old new step.3
KeepsPlan-step old new event reply may step = search KeepsPlan-same

-- the end of a shard is its own alone
pub EndsOne-step : (old new : CoreState) (shard : ℕ) → CoreStep old (End shard) ShardEnded new → EndsOne old shard new
EndsOne-step old new shard step =
    let ends = EndsOne-with_shard old shard step.before step.after step.here (ap (λ (s : ShardState). s.ended) step.receives.after) in
    subst (EndsOne old shard) (sym step.rest) (record { limits = ends.limits; ended = ends.ended })

-- and it leaves the plan
pub plan-end : (old new : CoreState) (shard : ℕ) → CoreStep old (End shard) ShardEnded new → new.plan ≡ old.plan
plan-end old new shard step = ap (λ (core : CoreState). core.plan) step.rest

has_ended-clash : (core : CoreState) (number : ℕ) (shard : ShardState) → IsOpen core number → slice_get core.shards number ≡ Some shard → shard.ended ≡ true → ⊥
has_ended-clash core number shard is_open here ended = true≢false (sym ended ∙ sym (ap (λ o. option_map_or (λ (s : ShardState). s.ended) o false) here) ∙ is_open.running)

pub IsServed-step : (old new : CoreState) (event : Event) (reply : Reply) → MayCall old event → CoreStep old event reply new → IsServed reply
IsServed-step old new event reply may step = search (rules, has_ended-clash)

-- an open plan is in the way of no other call of a line than a retirement
pub MeetsPlan-step : (old new : CoreState) (event : Event) (reply : Reply) → MayCall old event → CoreStep old event reply new → MeetsPlan event reply
MeetsPlan-step old new (Adopt shard) (Refused PlanOpen) may step = true≢false (sym step.1 ∙ ap is_some may.1)
MeetsPlan-step old new event (Refused PlanOpen) may step = search
MeetsPlan-step old new event reply may step = tt

-- ---- a shard that begins again

pub Resumes-begin : (old new : CoreState) (shard : ℕ) → CoreStep old (Begin shard) ShardBegun new → Resumes old (λ other. shard == other) new
Resumes-begin old new shard step = subst (Resumes old (λ other. shard == other)) (sym step.rest) (Resumes-with_shard old shard step.before (begun step.before) step.here refl)

-- ---- the core's own call of a put

-- of a put only these refusals come where its shard is there and runs
pub IsPutServed-step : (old new : CoreState) (shard : ℕ) (value : Value) (put : Result Key Refusal) → IsOpen old shard → CoreStep old (Put shard value) (reply_to_put put) new → IsPutServed put
IsPutServed-step old new shard value put may step = search (rules, IsServed-step)

pub CoreStep-put : (old new : CoreState) (shard : ℕ) (value : Value) (put : Result Key Refusal)
    → MatchResult put (λ key. CoreStep old (Put shard value) (Issued key) new) (λ refusal. CoreStep old (Put shard value) (Refused refusal) new)
    → CoreStep old (Put shard value) (reply_to_put put) new
CoreStep-put old new shard value put = reply_to_put-each (λ reply. CoreStep old (Put shard value) reply new) put

pub KeepsPlan-put : (old new : CoreState) (shard : ℕ) (value : Value) (put : Result Key Refusal) → IsOpen old shard
    → MatchResult put (λ key. CoreStep old (Put shard value) (Issued key) new) (λ refusal. CoreStep old (Put shard value) (Refused refusal) new)
    → KeepsPlan old new
KeepsPlan-put old new shard value put may step = KeepsPlan-step old new (Put shard value) (reply_to_put put) may (CoreStep-put old new shard value put step)

-- ---- the core's own call of a set

-- of a set only this refusal comes
pub IsSetServed-step : (old new : CoreState) (key : Key) (value : Value) (answer : Result Bool Refusal)
    → MatchResult answer (λ done. CoreStep old (Set key value) (Replaced done) new) (λ refusal. CoreStep old (Set key value) (Refused refusal) new)
    → IsSetServed answer
IsSetServed-step old new key value answer step = search rules

pub KeepsPlan-set : (old new : CoreState) (key : Key) (value : Value) (answer : Result Bool Refusal)
    → MatchResult answer (λ done. CoreStep old (Set key value) (Replaced done) new) (λ refusal. CoreStep old (Set key value) (Refused refusal) new)
    → KeepsPlan old new
KeepsPlan-set old new key value (Ok done) step = KeepsPlan-step old new (Set key value) (Replaced done) tt step
KeepsPlan-set old new key value (Err refusal) step = KeepsPlan-step old new (Set key value) (Refused refusal) tt step
