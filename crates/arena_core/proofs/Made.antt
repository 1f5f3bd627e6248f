-- Lists that show a filling in each place behind their end, and the shards that a core has made.
use Rattle.std.proofs.Common.{◌≡◌, ℕ, zero, suc, ◌+◌, ◌<◌, ◌≤◌, ◌++◌, List, [], ◌∷◌, false, true, length, map, refl, ap, arith, Some, get_or, set, slice_get, sym, ◌∙◌, sum_by}
use Rattle.std.specs.List.{AllByRecursion, Contains, flat_map, range_with_len}
use Rattle.std.proofs.lemmas.List.Sums.{sum_by-cons}
use Rattle.std.proofs.lemmas.Option.{get_or_from_slice_get, slice_get-get_or, slice_get_within}
use Rattle.span.specs.declared.id.SpanId.{SpanId}
use Rattle.groups.proofs.Lists.{same_some}
use Rattle.shard.specs.Sound.{IsSound as IsSoundShard}
use Rattle.shard.specs.State.{ShardState}
use Rattle.shard.proofs.Start.{IsSound-new}
use Rattle.marks.specs.Numbers.{AreWithin, Limits}
use Rattle.arena_core.specs.Made.{all_shards, completed, new_shard_of}
use Rattle.arena_core.specs.Moved.{StandsIn}
use Rattle.arena_core.specs.State.{has_span}
use Rattle.arena_core.proofs.Lists.{not_below}

-- an item that was made
pub completed-get : {T : Type 0} (from n : ℕ) (filling : ℕ → T) (items : List T) (i : ℕ) (item : T) → slice_get items i ≡ Some item → slice_get (completed from n filling items) i ≡ Some item
completed-get from zero filling items i item here = here
completed-get from (suc n) filling [] i item here = absurd cc
completed-get from (suc n) filling (first ∷ items) zero item here = here
completed-get from (suc n) filling (first ∷ items) (suc i) item here = completed-get (from + 1) n filling items i item here

-- an item behind those
pub completed-new : {T : Type 0} (from n : ℕ) (filling : ℕ → T) (items : List T) (i : ℕ) (item : T) → length items ≤ i → slice_get (completed from n filling items) i ≡ Some item
    → (i < n) × (filling (from + i) ≡ item)
completed-new from zero filling items i item past here = absurd (let within = slice_get_within items i item here in omega arith)
completed-new from (suc n) filling [] zero item past here =
    let is : filling from ≡ item = cc in
    (omega arith, ap filling (omega arith) ∙ is)
completed-new from (suc n) filling [] (suc i) item past here =
    let rest = completed-new (from + 1) n filling [] i item (omega arith) here in
    (omega (arith, rest.0), ap filling (omega arith) ∙ rest.1)
completed-new from (suc n) filling (first ∷ items) zero item past here = absurd (omega arith)
completed-new from (suc n) filling (first ∷ items) (suc i) item past here =
    let rest = completed-new (from + 1) n filling items i item (omega arith) here in
    (omega (arith, rest.0), ap filling (omega arith) ∙ rest.1)

pub completed-past : {T : Type 0} (from n : ℕ) (filling : ℕ → T) (items : List T) (i : ℕ) → length items ≤ i → i < n → slice_get (completed from n filling items) i ≡ Some (filling (from + i))
completed-past from zero filling items i past within = absurd (omega arith)
completed-past from (suc n) filling [] zero past within = ap (λ k. Some (filling k)) (omega arith)
completed-past from (suc n) filling [] (suc i) past within = completed-past (from + 1) n filling [] i (omega arith) (omega arith) ∙ ap (λ k. Some (filling k)) (omega arith)
completed-past from (suc n) filling (first ∷ items) zero past within = absurd (omega arith)
completed-past from (suc n) filling (first ∷ items) (suc i) past within = completed-past (from + 1) n filling items i (omega arith) (omega arith) ∙ ap (λ k. Some (filling k)) (omega arith)

pub completed-longer : {T : Type 0} (from n : ℕ) (filling : ℕ → T) (items : List T) → length items ≤ length (completed from n filling items)
completed-longer from zero filling items = omega arith
completed-longer from (suc n) filling [] = omega arith
completed-longer from (suc n) filling (first ∷ items) = let rest = completed-longer (from + 1) n filling items in omega (arith, rest)

pub completed-set : {T : Type 0} (from n : ℕ) (filling : ℕ → T) (items : List T) (i : ℕ) (item : T) → i < length items
    → completed from n filling (set items i item) ≡ set (completed from n filling items) i item
completed-set from zero filling items i item within = refl
completed-set from (suc n) filling [] i item within = absurd (omega arith)
completed-set from (suc n) filling (first ∷ items) zero item within = refl
completed-set from (suc n) filling (first ∷ items) (suc i) item within = ap (◌∷◌ first) (completed-set (from + 1) n filling items i item (omega arith))

-- one more is made
pub completed-push : {T : Type 0} (from n : ℕ) (filling : ℕ → T) (items : List T) → length items < n
    → completed from n filling (items ++ filling (from + length items) ∷ []) ≡ completed from n filling items
completed-push from zero filling items some = absurd (omega arith)
completed-push from (suc n) filling [] some = ap (λ k. filling k ∷ completed (from + 1) n filling []) (omega arith)
completed-push from (suc n) filling (first ∷ items) some =
    ap (λ k. first ∷ completed (from + 1) n filling (items ++ filling k ∷ [])) (omega arith)
    ∙ ap (◌∷◌ first) (completed-push (from + 1) n filling items (omega arith))

pub completed-empty : {T : Type 0} (from n : ℕ) (filling : ℕ → T) → completed from n filling [] ≡ map filling (range_with_len from n)
completed-empty from zero filling = refl
completed-empty from (suc n) filling = ap (◌∷◌ (filling from)) (completed-empty (from + 1) n filling)

-- a change that leaves each filling as it is
pub completed-map : {T : Type 0} (from n : ℕ) (filling : ℕ → T) (change : T → T) → ((k : ℕ) → change (filling k) ≡ filling k) → (items : List T)
    → completed from n filling (map change items) ≡ map change (completed from n filling items)
completed-map from zero filling change same items = refl
completed-map from (suc n) filling change same [] = λ i. sym (same from) i ∷ completed-map (from + 1) n filling change same [] i
completed-map from (suc n) filling change same (first ∷ items) = ap (◌∷◌ (change first)) (completed-map (from + 1) n filling change same items)

pub completed-sum : {T : Type 0} (from n : ℕ) (filling : ℕ → T) (w : T → ℕ) → ((k : ℕ) → w (filling k) ≡ 0) → (items : List T) → sum_by w (completed from n filling items) ≡ sum_by w items
completed-sum from zero filling w none items = refl
completed-sum from (suc n) filling w none [] = omega (arith, none from, sum_by-cons w (filling from) (completed (from + 1) n filling []), completed-sum (from + 1) n filling w none [])
completed-sum from (suc n) filling w none (first ∷ items) =
    omega (arith, sum_by-cons w first (completed (from + 1) n filling items), sum_by-cons w first items, completed-sum (from + 1) n filling w none items)

pub completed-flat_map : {T X : Type 0} (from n : ℕ) (filling : ℕ → T) (f : T → List X) → ((k : ℕ) → f (filling k) ≡ []) → (items : List T) → flat_map f (completed from n filling items) ≡ flat_map f items
completed-flat_map from zero filling f none items = refl
completed-flat_map from (suc n) filling f none [] = ap (λ xs. xs ++ flat_map f (completed (from + 1) n filling [])) (none from) ∙ completed-flat_map (from + 1) n filling f none []
completed-flat_map from (suc n) filling f none (first ∷ items) = ap (λ xs. f first ++ xs) (completed-flat_map (from + 1) n filling f none items)

pub completed-all : {T : Type 0} (from n : ℕ) (filling : ℕ → T) (P : T → Type 0) → ((k : ℕ) → P (filling k)) → (items : List T) → AllByRecursion P items → AllByRecursion P (completed from n filling items)
completed-all from zero filling P new items all = all
completed-all from (suc n) filling P new [] all = (new from, completed-all (from + 1) n filling P new [] tt)
completed-all from (suc n) filling P new (first ∷ items) all = (all.0, completed-all (from + 1) n filling P new items all.1)

-- the shards of a core

module _ (limits : Limits) (made : List ShardState) where
  pub made-get : (number : ℕ) (shard : ShardState) → slice_get made number ≡ Some shard → slice_get (all_shards limits made) number ≡ Some shard
  made-get = completed-get 0 limits.shards (new_shard_of limits) made

  pub made-set : (number : ℕ) (after : ShardState) → number < length made → all_shards limits (set made number after) ≡ set (all_shards limits made) number after
  made-set = completed-set 0 limits.shards (new_shard_of limits) made

  -- behind those that were made each is new
  pub unmade-new : (number : ℕ) (shard : ShardState) → length made ≤ number → slice_get (all_shards limits made) number ≡ Some shard → new_shard_of limits number ≡ shard
  unmade-new number shard past here =
      let is = completed-new 0 limits.shards (new_shard_of limits) made number shard past here in
      ap (new_shard_of limits) (omega arith) ∙ is.1

  pub unmade-get : (number : ℕ) → length made ≤ number → number < limits.shards → slice_get (all_shards limits made) number ≡ Some (new_shard_of limits number)
  unmade-get number past within = completed-past 0 limits.shards (new_shard_of limits) made number past within ∙ ap (λ k. Some (new_shard_of limits k)) (omega arith)

  pub made-few : length (all_shards limits made) ≡ limits.shards → length made ≤ limits.shards
  made-few count = omega (arith, count, completed-longer 0 limits.shards (new_shard_of limits) made)

  -- a span stands in none of them
  pub unmade-standing : (id : SpanId) (number : ℕ) → length made ≤ number → StandsIn (all_shards limits made) id number → ⊥
  unmade-standing id number past (shard, here, has) =
      let never : false ≡ true = ap (has_span id) (unmade-new number shard past here) ∙ has in cc

  -- so the shard in which a span stands was made
  pub standing-made : (id : SpanId) (number : ℕ) → StandsIn (all_shards limits made) id number → number < length made
  standing-made id number stands = not_below (length made) (suc number) (λ past. unmade-standing id number (omega arith) stands)

  -- and it stands among those
  pub standing-in_made : (id : SpanId) (number : ℕ) → StandsIn (all_shards limits made) id number → StandsIn made id number
  standing-in_made id number (shard, here, has) =
      let there = slice_get-get_or made number shard (standing-made id number (shard, here, has)) in
      let same : get_or made number shard ≡ shard = same_some (sym (made-get number (get_or made number shard) there) ∙ here) in
      (shard, there ∙ ap Some same, has)

  pub made-Contains : (shard : ShardState) → Contains made shard → Contains (all_shards limits made) shard
  made-Contains shard (at, within, is) =
      let here : slice_get (all_shards limits made) at ≡ Some shard = made-get at shard (slice_get-get_or made at shard within ∙ ap Some is) in
      (at, slice_get_within (all_shards limits made) at shard here, get_or_from_slice_get (all_shards limits made) at shard shard here)

pub IsSound-new_shard : (limits : Limits) (number : ℕ) → AreWithin limits → IsSoundShard (new_shard_of limits number)
IsSound-new_shard limits number within = IsSound-new number limits.page_limit limits.span_limit limits.slot_limit limits.gens within.span_limit.1 within.gens.0
