-- Which shards have ended, after several steps.
use Rattle.trace_runner.proofs.Names.{◌≡◌, ◌&&◌, ◌||◌, ◌+◌, ℕ, Bool, true, false, not, cond, nat_lt, List, [], ◌∷◌, ◌++◌, filter, refl, sym, ap, ap₂, subst, ◌∙◌, zero-add, rules, Err, Ok, OnOk, Result, map-append, range_with_len, filter_of_map_range_with_len_more, nat_tests, cases_Bool, and-false, CoreState, CanLeave, Carries, EndsBelow, EndsOne, IsOpen, KeepsPlan, KeepsShards, Resumes, TurnsBelow, ended_at, Asked, Calls, News, ends_asked, End, map-id}
use Rattle.std.proofs.Common.{append-nil}
use Rattle.trace_runner.proofs.Making.{Carries-append}

-- what holds in any case holds where a call is done
pub on_ok_always : {A E P : Type 0} (result : Result A E) → P → OnOk result P
on_ok_always (Ok a) p = p
on_ok_always (Err e) p = tt

pub KeepsShards-trans : (a b c : CoreState) → KeepsShards a b → KeepsShards b c → KeepsShards a c
KeepsShards-trans a b c first second = record { limits = second.limits ∙ first.limits; ended = λ number. second.ended number ∙ first.ended number }

pub KeepsPlan-trans : (a b c : CoreState) → KeepsPlan a b → KeepsPlan b c → KeepsPlan a c
KeepsPlan-trans a b c first second = record { shards = KeepsShards-trans a b c first.shards second.shards; plan = second.plan ∙ first.plan }

pub IsOpen-kept : (old new : CoreState) (number : ℕ) → KeepsShards old new → IsOpen old number → IsOpen new number
IsOpen-kept old new number keeps is_open = record { within = rw keeps.limits is_open.within; running = keeps.ended number ∙ is_open.running }

pub CanLeave-kept : (shards : ℕ) (old new : CoreState) (leaving : ℕ → Bool) → KeepsShards old new → CanLeave shards old leaving → CanLeave shards new leaving
CanLeave-kept shards old new leaving keeps can thread below leaves = IsOpen-kept old new thread keeps (can thread below leaves)

pub EndsBelow-after : (old mid new : CoreState) (bound : ℕ) (test : ℕ → Bool) → KeepsShards old mid → EndsBelow mid bound test new → EndsBelow old bound test new
EndsBelow-after old mid new bound test keeps ended = record {
  limits = ended.limits ∙ keeps.limits;
  ended = λ number. ended.ended number ∙ ap (λ b. (nat_lt number bound && test number) || b) (keeps.ended number);
}

pub EndsBelow-before : (old mid new : CoreState) (bound : ℕ) (test : ℕ → Bool) → EndsBelow old bound test mid → KeepsShards mid new → EndsBelow old bound test new
EndsBelow-before old mid new bound test ended keeps = record { limits = keeps.limits ∙ ended.limits; ended = λ number. keeps.ended number ∙ ended.ended number }

-- where nothing begins again, shards turn as they end
pub TurnsBelow-ends : (old new : CoreState) (bound : ℕ) (test : ℕ → Bool) → EndsBelow old bound test new → TurnsBelow old bound test (λ number. false) new
TurnsBelow-ends old new bound test ended = record { limits = ended.limits; ended = ended.ended }

-- and where none ends, as they begin
pub TurnsBelow-begins : (old mid new : CoreState) (bound : ℕ) (test : ℕ → Bool) → Resumes old test mid → KeepsShards mid new → TurnsBelow old bound (λ number. false) test new
TurnsBelow-begins old mid new bound test resumes keeps = record {
  limits = keeps.limits ∙ resumes.limits;
  ended = λ number. keeps.ended number ∙ resumes.ended number ∙ ap (λ b. not (test number) && (b || ended_at old number)) (sym (and-false (nat_lt number bound)));
}

pub TurnsBelow-none : (core : CoreState) (bound : ℕ) → TurnsBelow core bound (λ number. false) (λ number. false) core
TurnsBelow-none core bound = record { limits = refl; ended = λ number. ap (λ b. b || ended_at core number) (sym (and-false (nat_lt number bound))) }

module _ (old mid : CoreState) (bound : ℕ) (test : ℕ → Bool) (below : EndsBelow old bound test mid) where
  -- a shard that passes no test is open as before
  pub IsOpen-others : (number : ℕ) → test number ≡ false → IsOpen old number → IsOpen mid number
  IsOpen-others number fails is_open = record {
    within = rw below.limits is_open.within;
    running = below.ended number ∙ ap (λ b. b || ended_at old number) (ap (λ b. nat_lt number bound && b) fails ∙ and-false (nat_lt number bound)) ∙ is_open.running;
  }

  -- the shard of this number passes no test, and stays
  pub EndsBelow-skip : test bound ≡ false → EndsBelow old (bound + 1) test mid
  EndsBelow-skip fails = search (rules, nat_lt, cases_Bool, nat_tests, and-false)

  -- or it passes, and ends
  pub EndsBelow-end : (new : CoreState) → test bound ≡ true → EndsOne mid bound new → EndsBelow old (bound + 1) test new
  EndsBelow-end new passes ends = search (rules, nat_lt, cases_Bool, nat_tests, ap₂)

-- the numbers below one more that pass the test
pub filter-range_with_len_more : (test : ℕ → Bool) (n : ℕ) → filter test (range_with_len 0 (n + 1)) ≡ filter test (range_with_len 0 n) ++ cond (test n) (n ∷ []) []
filter-range_with_len_more test n =
    ap (filter test) (sym (map-id (range_with_len 0 (n + 1)))) ∙ filter_of_map_range_with_len_more test (λ k. k) 0 n n (zero-add n)
    ∙ ap (λ ks. filter test ks ++ cond (test n) (n ∷ []) []) (map-id (range_with_len 0 n))

module _ (old mid : CoreState) (bound : ℕ) (test : ℕ → Bool) (news : News) (ends : Carries (ends_asked (filter test (range_with_len 0 bound))) old news mid news) where
  pub Carries-skip : test bound ≡ false → Carries (ends_asked (filter test (range_with_len 0 (bound + 1)))) old news mid news
  Carries-skip fails = subst (λ (ts : List ℕ). Carries (ends_asked ts) old news mid news)
      (sym (filter-range_with_len_more test bound ∙ ap (λ b. filter test (range_with_len 0 bound) ++ cond b (bound ∷ []) []) fails
      ∙ append-nil (filter test (range_with_len 0 bound)))) ends

  pub Carries-more : (new : CoreState) → test bound ≡ true → Carries (ends_asked (bound ∷ [])) mid news new news → Carries (ends_asked (filter test (range_with_len 0 (bound + 1)))) old news new news
  Carries-more new passes more =
      let both = map-append (λ thread. Calls (End thread)) (filter test (range_with_len 0 bound)) (bound ∷ []) in
      subst (λ (ts : List ℕ). Carries (ends_asked ts) old news new news) (sym (filter-range_with_len_more test bound ∙ ap (λ b. filter test (range_with_len 0 bound) ++ cond b (bound ∷ []) []) passes))
      (subst (λ (asked : List Asked). Carries asked old news new news) (sym both)
      (Carries-append (ends_asked (filter test (range_with_len 0 bound))) (ends_asked (bound ∷ [])) old mid new news news news ends more))
