-- What rings keep, and what a core shows of them, where one of them changes.
use Rattle.std.proofs.Common.{◌≡◌, ◌≢◌, ℕ, zero, suc, ◌≤◌, ◌==◌, ◌&&◌, ◌⊎◌, inl, inr, Bool, true, false, cond, List, [], length, replicate, refl, sym, ap, subst, ◌∙◌, arith, Option, None, Some, set, slice_get, eq-eqb}
use Rattle.std.proofs.Math.ListN.{length-set}
use Rattle.std.proofs.lemmas.Bool.{cases_eq, ne_eqb}
use Rattle.std.proofs.lemmas.List.{length-replicate}
use Rattle.std.proofs.lemmas.Option.{get_or_from_slice_get, slice_get_cases}
use Rattle.span.specs.PlainMap.{with_pending}
use Rattle.groups.proofs.Lists.{same_some}
use Rattle.groups.proofs.Logged.{same_plain_map}
use Rattle.arena_core.specs.Plain.{IsOutside}
use Rattle.arena_core.specs.Rings.{RingState, keys_of, new_ring, new_rings, pending_at, ring_at, ring_in, with_ring_at}
use Rattle.arena_core.specs.Sound.{AreRings, IsSound}
use Rattle.arena_core.specs.State.{CoreState, shown, with_rings}
use Rattle.marks.specs.Numbers.{Limits}
use Rattle.arena_core.proofs.Changes.{HasSoundGroups-retold}
use Rattle.arena_core.proofs.Lists.{each-set}
use Rattle.marks.proofs.Lists.{slice_get-set_other, slice_get-set_same}
use Rattle.arena_core.proofs.PlanKept.{KeepsAllClosed-same, KeepsPooled-same}
use Rattle.arena_core.proofs.PlanSteps.{HasSoundPlan-kept}
use Rattle.std.proofs.Math.Bool.{and-true, and-false}

-- new rings

slice_get-replicate : {X : Type 0} (n : ℕ) (x : X) (i : ℕ) (y : X) → slice_get (replicate n x) i ≡ Some y → x ≡ y
slice_get-replicate zero x i y here = absurd cc
slice_get-replicate (suc n) x zero y here = same_some here
slice_get-replicate (suc n) x (suc i) y here = slice_get-replicate n x i y here

-- the row of a ring that is there
ring_at-row : (rings : List (List RingState)) (worker shard : ℕ) (ring : RingState) → ring_at rings worker shard ≡ Some ring
    → (row : List RingState) × (slice_get rings shard ≡ Some row) × (slice_get row worker ≡ Some ring)
ring_at-row rings worker shard ring here = by_row (slice_get rings shard) refl here
  where
    by_row : (o : Option (List RingState)) → slice_get rings shard ≡ o → ring_in o worker ≡ Some ring → (row : List RingState) × (slice_get rings shard ≡ Some row) × (slice_get row worker ≡ Some ring)
    by_row None is there = absurd cc
    by_row (Some row) is there = (row, is, there)

ring_at-new : (shards capacity worker shard : ℕ) (ring : RingState) → ring_at (new_rings shards capacity) worker shard ≡ Some ring → new_ring capacity ≡ ring
ring_at-new shards capacity worker shard ring here =
    let (row, is, there) = ring_at-row (new_rings shards capacity) worker shard ring here in
    slice_get-replicate shards (new_ring capacity) worker ring (ap (λ r. slice_get r worker) (slice_get-replicate shards (replicate shards (new_ring capacity)) shard row is) ∙ there)

pub pending_at-new : (shards capacity worker shard : ℕ) → pending_at (new_rings shards capacity) worker shard ≡ []
pending_at-new shards capacity worker shard = by_ring (ring_at (new_rings shards capacity) worker shard) refl
  where
    by_ring : (o : Option RingState) → ring_at (new_rings shards capacity) worker shard ≡ o → keys_of o ≡ []
    by_ring None is = refl
    by_ring (Some ring) is = ap (λ (r : RingState). r.keys) (sym (ring_at-new shards capacity worker shard ring is))

pub AreRings-new : (limits : Limits) → AreRings limits (new_rings limits.shards limits.ring_capacity)
AreRings-new limits = record {
  shards = length-replicate limits.shards (replicate limits.shards (new_ring limits.ring_capacity));
  workers = λ shard row here. ap length (sym (slice_get-replicate limits.shards (replicate limits.shards (new_ring limits.ring_capacity)) shard row here))
      ∙ length-replicate limits.shards (new_ring limits.ring_capacity);
  each = λ worker shard ring here. subst (λ (r : RingState). (r.capacity ≡ limits.ring_capacity) × (length r.keys ≤ limits.ring_capacity))
      (ring_at-new limits.shards limits.ring_capacity worker shard ring here) (refl, omega arith);
}

-- another ring

module _ (rings : List (List RingState)) (worker shard : ℕ) (ring now : RingState) (here : ring_at rings worker shard ≡ Some ring) where
  abbrev row : List RingState
  row = (ring_at-row rings worker shard ring here).0

  row_is : slice_get rings shard ≡ Some row
  row_is = (ring_at-row rings worker shard ring here).1

  with_ring_at-row : with_ring_at rings worker shard now ≡ set rings shard (set row worker now)
  with_ring_at-row = ap (λ r. set rings shard (set r worker now)) (get_or_from_slice_get rings shard row [] row_is)

  in_row : (other : ℕ) → slice_get (set row worker now) other ≡ cond (other == worker) (Some now) (slice_get row other)
  in_row other = elim (cases_eq other worker) [
    | inl same ↦ rw (same, eq-eqb worker worker refl) (slice_get-set_same row worker ring now (ring_at-row rings worker shard ring here).2)
    | inr differ ↦ rw (ne_eqb other worker differ) (slice_get-set_other row worker other now differ)
  ]

  -- all other rings are as they were
  pub ring_at-with : (other_worker other_shard : ℕ)
      → ring_at (with_ring_at rings worker shard now) other_worker other_shard
      ≡ cond ((other_worker == worker) && (other_shard == shard)) (Some now) (ring_at rings other_worker other_shard)
  ring_at-with other_worker other_shard = ap (λ r. ring_at r other_worker other_shard) with_ring_at-row ∙ by_shard (cases_eq other_shard shard)
    where
      by_shard : (other_shard ≡ shard) ⊎ (other_shard ≢ shard)
          → ring_at (set rings shard (set row worker now)) other_worker other_shard
          ≡ cond ((other_worker == worker) && (other_shard == shard)) (Some now) (ring_at rings other_worker other_shard)
      by_shard (inl same) =
          rw (same, eq-eqb shard shard refl)
          (ap (λ o. ring_in o other_worker) (slice_get-set_same rings shard row (set row worker now) row_is)
          ∙ in_row other_worker ∙ ap (λ b. cond b (Some now) (slice_get row other_worker)) (sym (and-true (other_worker == worker)))
          ∙ ap (λ o. cond ((other_worker == worker) && true) (Some now) (ring_in o other_worker)) (sym row_is))
      by_shard (inr differ) =
          rw (ne_eqb other_shard shard differ)
          (ap (λ o. ring_in o other_worker) (slice_get-set_other rings shard other_shard (set row worker now) differ)
          ∙ ap (λ b. cond b (Some now) (ring_at rings other_worker other_shard)) (sym (and-false (other_worker == worker))))

  pub pending_at-with : (other_worker other_shard : ℕ)
      → pending_at (with_ring_at rings worker shard now) other_worker other_shard
      ≡ cond ((other_worker == worker) && (other_shard == shard)) now.keys (pending_at rings other_worker other_shard)
  pending_at-with other_worker other_shard = ap keys_of (ring_at-with other_worker other_shard) ∙ by_test ((other_worker == worker) && (other_shard == shard)) (ring_at rings other_worker other_shard)
    where
      by_test : (b : Bool) (o : Option RingState) → keys_of (cond b (Some now) o) ≡ cond b now.keys (keys_of o)
      by_test true o = refl
      by_test false o = refl

  pub AreRings-with : (limits : Limits) → AreRings limits rings → now.capacity ≡ ring.capacity → length now.keys ≤ limits.ring_capacity → AreRings limits (with_ring_at rings worker shard now)
  AreRings-with limits are capacity few = record {
    shards = ap length with_ring_at-row ∙ length-set rings shard (set row worker now) ∙ are.shards;
    workers = subst (λ r. (s : ℕ) (other : List RingState) → slice_get r s ≡ Some other → length other ≡ limits.shards) (sym with_ring_at-row)
        (each-set (λ s other. length other ≡ limits.shards) rings shard (set row worker now) (length-set row worker now ∙ are.workers shard row row_is) are.workers);
    each = λ other_worker other_shard other at. by_test other_worker other_shard other ((other_worker == worker) && (other_shard == shard)) (sym (ring_at-with other_worker other_shard) ∙ at);
  }
    where
      by_test : (other_worker other_shard : ℕ) (other : RingState) (b : Bool) → cond b (Some now) (ring_at rings other_worker other_shard) ≡ Some other
          → (other.capacity ≡ limits.ring_capacity) × (length other.keys ≤ limits.ring_capacity)
      by_test other_worker other_shard other true at = subst (λ (r : RingState). (r.capacity ≡ limits.ring_capacity) × (length r.keys ≤ limits.ring_capacity))
          (same_some at) (capacity ∙ (are.each worker shard ring here).0, few)
      by_test other_worker other_shard other false at = are.each other_worker other_shard other at

-- a ring that is not there is outside of the numbers
pub IsOutside-none : (limits : Limits) (rings : List (List RingState)) (worker shard : ℕ) → AreRings limits rings → ring_at rings worker shard ≡ None → IsOutside limits worker shard
IsOutside-none limits rings worker shard are none = elim (slice_get_cases rings shard).1 [
  | inl row ↦ elim (slice_get_cases row.0 worker).1 [
    | inl there ↦ absurd (let both : None ≡ Some there.0 = sym none ∙ ap (λ o. ring_in o worker) row.2 ∙ there.2 in cc)
    | inr past ↦ inl (omega (arith, are.workers shard row.0 row.2, past.0))
  ]
  | inr past ↦ inr (omega (arith, are.shards, past.0))
]

-- a core with other rings

pub IsSound-with_rings : (core : CoreState) (rings : List (List RingState)) → IsSound core → AreRings core.limits rings → IsSound (with_rings core rings)
IsSound-with_rings core rings sound are = record {
  groups = HasSoundGroups-retold core core.pool.has_plan core.plan rings sound.groups;
  plan = HasSoundPlan-kept core (with_rings core rings) sound.plan refl refl (KeepsPooled-same core.pool.groups) (KeepsAllClosed-same core.shards) sound.plan.closed;
  rings = are;
}

pub shown-with_ring : (core : CoreState) (worker shard : ℕ) (ring now : RingState) → ring_at core.rings worker shard ≡ Some ring
    → shown (with_rings core (with_ring_at core.rings worker shard now)) ≡ with_pending (shown core) worker shard now.keys
shown-with_ring core worker shard ring now here = same_plain_map _ _ (λ key. refl) (λ key. refl) (pending_at-with core.rings worker shard ring now here)
