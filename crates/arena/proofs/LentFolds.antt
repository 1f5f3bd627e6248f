-- A step in one of the shards that are lent.
use Rattle.std.proofs.Common.{◌≡◌, ℕ, ◌<◌, List, Option, Some, None, Result, Ok, Err, IfOk, OnErr, inl, length, map, get_or, set, slice_get, option_map, refl, ap, sym, ◌∙◌, subst}
use Rattle.std.proofs.lemmas.List.{map-set, set-get_or}
use Rattle.std.proofs.lemmas.Option.{get_or_from_slice_get, slice_get-map, slice_get_read}
use Rattle.std.specs.declared.alloc.AllocError.{AllocError}
use Rattle.fold.specs.Folds.{MayFold, Steps}
use Rattle.fold.specs.declared.step.Step.{Step}
use Rattle.pool.specs.State.{PoolState}
use Rattle.shard.specs.State.{ShardState}
use Rattle.span.specs.declared.id.SpanId.{SpanId}
use Rattle.arena.specs.LentFolds.{HasItAt, MayFoldLent, StepsLent}
use Rattle.arena.specs.Locked.{HasGroup}

module _ {X : Type 0} (f : X → Option ShardState) (xs : List X) (number : ℕ) (x : X) (shard : ShardState) (owned : SpanId) where
  -- the shard that is read at its number, and found to have the span
  pub HasItAt-read : number < length xs → x ≡ get_or xs number x → f x ≡ Some shard → HasGroup owned (get_or (map f xs) number None) → HasItAt (map f xs) owned number shard
  HasItAt-read below here is has =
      let got : slice_get (map f xs) number ≡ Some (Some shard) = slice_get-map f xs number ∙ ap (option_map f) (slice_get_read xs (length xs) number x refl below here) ∙ ap Some is in
      (got, subst (HasGroup owned) (get_or_from_slice_get (map f xs) number (Some shard) None got) has)

  -- what a step does there it does in all that is lent
  pub StepsLent-at : (pool pool_new : PoolState) (after : X) (new : ShardState) (abandoned : SpanId) (made : Result Step AllocError) → HasItAt (map f xs) owned number shard → f after ≡ Some new
      → IfOk made (λ step. Steps pool shard abandoned owned step pool_new new) → IfOk made (λ step. StepsLent pool (map f xs) abandoned owned step pool_new (map f (set xs number after)))
  StepsLent-at pool pool_new after new abandoned (Ok step) has is steps = inl (number, shard, new, has, steps, map-set f xs number after ∙ ap (set (map f xs) number) is)
  StepsLent-at pool pool_new after new abandoned (Err error) has is steps = tt

  -- a step for which there is no memory could be made
  pub MayFoldLent-at : (pool : PoolState) (abandoned : SpanId) (made : Result Step AllocError) → HasItAt (map f xs) owned number shard
      → OnErr made (MayFold pool shard abandoned owned) → OnErr made (MayFoldLent pool (map f xs) abandoned owned)
  MayFoldLent-at pool abandoned (Ok step) has may = tt
  MayFoldLent-at pool abandoned (Err error) has may = (number, shard, has, may)

  -- and leaves all as it was
  pub stays-at : (pool pool_new : PoolState) (after : X) (new : ShardState) (made : Result Step AllocError) → x ≡ get_or xs number x → f x ≡ Some shard → f after ≡ Some new
      → OnErr made ((pool_new ≡ pool) × (new ≡ shard)) → OnErr made ((pool_new ≡ pool) × (map f (set xs number after) ≡ map f xs))
  stays-at pool pool_new after new (Ok step) here is after_is err = tt
  stays-at pool pool_new after new (Err error) here is after_is err = (
    err.0,
    map-set f xs number after
        ∙ ap (set (map f xs) number) (after_is ∙ ap Some err.1 ∙ sym is ∙ ap f here)
        ∙ sym (map-set f xs number (get_or xs number x))
        ∙ ap (map f) (set-get_or xs number x),
  )
