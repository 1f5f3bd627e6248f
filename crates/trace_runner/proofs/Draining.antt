-- Keys that are freed from rings, one after another.
use Rattle.trace_runner.proofs.Names.{◌≡◌, ◌∙◌, ◌+◌, ◌++◌, ◌∷◌, [], ℕ, true, false, List, map, length, filter, Some, None, refl, sym, ap, subst, arith, append_assoc, length-append, fold, range_with_len, append-nil, filter-append, Key, with_keys, with_ring_at, CoreState, with_rings, CoreStep, Free, Settle, Freed, Settled, Kept, keeping, AreAsRequested, CalledEvent, Called, Made, Once, Request, Tends, UntilNone, keys_taken, requests_of, takes_key, News, with_called, Carries, Drains, KeepsPlan, Makes, SettlesNext, AreSteps, IsAnswered}
use Rattle.trace_runner.proofs.Making.{AreSteps-append}
use Rattle.trace_runner.proofs.Serving.{KeepsPlan-step}

-- ---- one key

-- a settling ends no shard, and leaves the plan
pub KeepsPlan-settled : (worker shard : ℕ) (old new : CoreState) (key : Key) → CoreStep old (Settle worker shard) (Settled (Some key)) new → KeepsPlan old new
KeepsPlan-settled worker shard old new key settles =
    let mid : CoreState = with_rings old (with_ring_at old.rings worker shard (with_keys settles.ring settles.left)) in
    let keeps = KeepsPlan-step mid new (Free key) (Freed settles.freed) tt settles.frees in
    record { shards = record { limits = keeps.shards.limits; ended = keeps.shards.ended }; plan = keeps.plan }

-- ---- all keys of a ring

-- the keys so far, after which a settling is asked for again
pub record IsDraining (worker shard : ℕ) (old new : CoreState) (count : ℕ) : Type 0 where
  pub called : List CalledEvent
  pub more : (rest : List CalledEvent) → AreAsRequested (UntilNone (Settle worker shard) ∷ []) rest → AreAsRequested (UntilNone (Settle worker shard) ∷ []) (called ++ rest)
  pub steps : AreSteps old called new
  pub count_is : count ≡ keys_taken called

keys_taken-append : (first second : List CalledEvent) → keys_taken (first ++ second) ≡ keys_taken first + keys_taken second
keys_taken-append first second = ap length (filter-append takes_key first second) ∙ length-append (filter takes_key first) (filter takes_key second)

module _ (worker shard : ℕ) (old mid new : CoreState) (count : ℕ) (drains : IsDraining worker shard old mid count) where
  pub IsDraining-next : SettlesNext worker shard mid true new → IsDraining worker shard old new (count + 1)
  IsDraining-next (key, steps) =
      let one = Called (Settle worker shard) (Settled (Some key)) new in
      record {
        called = drains.called ++ one ∷ [];
        more = λ rest is. subst (AreAsRequested (UntilNone (Settle worker shard) ∷ [])) (sym (append_assoc drains.called (one ∷ []) rest)) (drains.more (one ∷ rest) (refl, is));
        steps = AreSteps-append old mid new drains.called (one ∷ []) drains.steps steps;
        count_is = ap (λ n. n + 1) drains.count_is ∙ sym (keys_taken-append drains.called (one ∷ []));
      }

  pub Drains-last : SettlesNext worker shard mid false new → Drains (UntilNone (Settle worker shard) ∷ []) old new count
  Drains-last steps =
      let none = Called (Settle worker shard) (Settled None) new in
      record {
        called = drains.called ++ none ∷ [];
        asked = drains.more (none ∷ []) (refl, tt);
        steps = AreSteps-append old mid new drains.called (none ∷ []) drains.steps steps;
        count_is = drains.count_is ∙ sym (keys_taken-append drains.called (none ∷ []) ∙ omega arith);
      }

-- ---- several rings

AreAsRequested-append : (requests more : List Request) (first second : List CalledEvent) → AreAsRequested requests first → AreAsRequested more second
    → AreAsRequested (requests ++ more) (first ++ second)
AreAsRequested-append [] more [] second before after = after
AreAsRequested-append (Once event ∷ requests) more (Called done reply core ∷ first) second before after = (before.0, AreAsRequested-append requests more first second before.1 after)
AreAsRequested-append (UntilNone event ∷ requests) more (Called done (Settled None) core ∷ first) second before after = (before.0, AreAsRequested-append requests more first second before.1 after)
AreAsRequested-append (UntilNone event ∷ requests) more (Called done (Settled (Some key)) core ∷ first) second before after =
    (before.0, AreAsRequested-append (UntilNone event ∷ requests) more first second before.1 after)
AreAsRequested-append requests more first second before after = absurd before

pub Drains-append : (requests more : List Request) (a b c : CoreState) (m n : ℕ) → Drains requests a b m → Drains more b c n → Drains (requests ++ more) a c (m + n)
Drains-append requests more a b c m n first second = record {
  called = first.called ++ second.called;
  asked = AreAsRequested-append requests more first.called second.called first.asked second.asked;
  steps = AreSteps-append a b c first.called second.called first.steps second.steps;
  count_is = omega (arith, first.count_is, second.count_is, keys_taken-append first.called second.called);
}

-- ---- what a line or a barrier makes of it

module _ (workers shard : ℕ) (old new : CoreState) (count : ℕ) (drains : Drains (requests_of (Tends workers shard)) old new count) where
  abbrev pub tended : Made
  tended = record { asked = Tends workers shard; called = drains.called }

  pub IsAnswered-tended : IsAnswered old (tended ∷ []) new
  IsAnswered-tended = record {
    steps = subst (λ (called : List CalledEvent). AreSteps old called new) (sym (append-nil drains.called)) drains.steps;
    asked = (drains.asked, tt);
  }

  pub Makes-tended : (number : ℕ) (before after : Kept) → after ≡ keeping number before (tended ∷ []) → Makes number (Tends workers shard ∷ []) old before new after
  Makes-tended number before after kept = (tended ∷ [], refl, IsAnswered-tended, kept)

-- settlings tell nothing of plans
with_called-drained : (shard : ℕ) (workers : List ℕ) (called : List CalledEvent) (news : News)
    → AreAsRequested (map (λ worker. UntilNone (Settle worker shard)) workers) called → fold with_called news called ≡ news
with_called-drained shard [] [] news asked = refl
with_called-drained shard (worker ∷ workers) (Called done (Settled None) core ∷ called) news asked =
    subst (λ event. fold with_called (with_called news (Called event (Settled None) core)) called ≡ news) (sym asked.0) (with_called-drained shard workers called news asked.1)
with_called-drained shard (worker ∷ workers) (Called done (Settled (Some key)) core ∷ called) news asked =
    subst (λ event. fold with_called (with_called news (Called event (Settled (Some key)) core)) called ≡ news) (sym asked.0) (with_called-drained shard (worker ∷ workers) called news asked.1)
with_called-drained shard workers called news asked = absurd asked

pub Carries-tended : (workers shard : ℕ) (old new : CoreState) (count : ℕ) (news : News) → Drains (requests_of (Tends workers shard)) old new count
    → Carries (Tends workers shard ∷ []) old news new news
Carries-tended workers shard old new count news drains =
    (tended workers shard old new count drains ∷ [], refl, IsAnswered-tended workers shard old new count drains, sym (with_called-drained shard (range_with_len 0 workers) drains.called news drains.asked))
