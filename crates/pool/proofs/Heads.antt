-- The heads of groups that are left by a test ascend.
use Rattle.std.proofs.Common.{zero, suc, ◌≡◌, ℕ, ◌<◌, Bool, true, false, cond, List, [], ◌∷◌, slice_get, Some, arith, filter}
use Rattle.span.specs.Ids.{rank}
use Rattle.pool.specs.State.{PooledState}
use Rattle.groups.specs.Group.{Ascend}

-- a group that is left by a test stood before, and above all that it stood above
module _ (p : PooledState → Bool) where
  was_kept : (groups : List PooledState) (at : ℕ) (group : PooledState) → slice_get (filter p groups) at ≡ Some group → (was : ℕ) × (slice_get groups was ≡ Some group)
  was_kept [] at group there = absurd cc
  was_kept (first ∷ groups) at group there = by_test (p first) at there (λ later it. let found = was_kept groups later group it in (suc found.0, found.1))
    where
      by_test : (b : Bool) (at : ℕ) → slice_get (cond b (first ∷ filter p groups) (filter p groups)) at ≡ Some group
          → ((later : ℕ) → slice_get (filter p groups) later ≡ Some group → (was : ℕ) × (slice_get (first ∷ groups) was ≡ Some group))
          → (was : ℕ) × (slice_get (first ∷ groups) was ≡ Some group)
      by_test true zero there rest = (0, there)
      by_test true (suc at) there rest = rest at there
      by_test false at there rest = rest at there

  pub Ascend-filter : (groups : List PooledState) → Ascend groups → Ascend (filter p groups)
  Ascend-filter [] ascend low high a b less at_low at_high = absurd cc
  Ascend-filter (first ∷ groups) ascend low high a b less at_low at_high =
      by_test (Ascend-filter groups (λ low high a b less at_low at_high. ascend (suc low) (suc high) a b (omega arith) at_low at_high)) (p first) low high less at_low at_high
    where
      by_test : Ascend (filter p groups) → (b' : Bool) (low high : ℕ) → low < high
          → slice_get (cond b' (first ∷ filter p groups) (filter p groups)) low ≡ Some a
          → slice_get (cond b' (first ∷ filter p groups) (filter p groups)) high ≡ Some b → rank a.head.id < rank b.head.id
      by_test rest false low high less at_low at_high = rest low high a b less at_low at_high
      by_test rest true low zero less at_low at_high = absurd (omega arith)
      by_test rest true zero (suc high) less at_low at_high = let found = was_kept groups high b at_high in ascend 0 (suc found.0) a b (omega arith) at_low found.1
      by_test rest true (suc low) (suc high) less at_low at_high = rest low high a b (omega arith) at_low at_high
