-- What a fold does to the spans of pool and shard.
use Rattle.std.proofs.Common.{◌≡◌, ℕ, ◌+◌, ◌++◌, true, Bool, length, length-set, Some, ◌∙◌, ap, sym, arith, is_some, cond, set, rules}
use Rattle.std.specs.Prelude.{remove, sum_by}
use Rattle.std.proofs.lemmas.List.Sums.{length-filter, sum_by-append}
use Rattle.span.specs.State.{SpanState}
use Rattle.span.specs.declared.id.SpanId.{SpanId}
use Rattle.groups.specs.Group.{paged_in, spans_in}
use Rattle.shard.specs.Moves.{Grafts, with_guests, with_room}
use Rattle.groups.specs.Whole.{WholeState, spans_moved}
use Rattle.shard.specs.Sound.{IsSound as IsSoundShard}
use Rattle.shard.specs.State.{ShardState}
use Rattle.groups.proofs.Lists.{count-set}
use Rattle.shard.proofs.HeadsHere.{same_group}
use Rattle.pool.specs.Calls.{Lifts}
use Rattle.pool.specs.State.{PoolState, PooledState, paged_groups}
use Rattle.groups.proofs.Removed.{count-remove}
use Rattle.pool.proofs.Together.{spans_in-Lifts}
use Rattle.fold.specs.Folds.{Folds}
use Rattle.shard.specs.Closes.{HasPagedHead}
use Rattle.shard.proofs.Grafted.{spans_in-Grafts}

-- sums over the spans

pub sum_by-Lifts : (w : SpanState → ℕ) (old new : PoolState) (head : SpanId) (whole : WholeState) → Lifts old head (Some whole) new
    → sum_by w (spans_in new.groups) + sum_by w (spans_moved whole) ≡ sum_by w (spans_in old.groups)
sum_by-Lifts w old new head whole lifts =
    let out = spans_in-Lifts old new head whole lifts in
    omega (arith, ap (sum_by w) out.2, ap (sum_by w) out.3, sum_by-append w out.0 out.1, sum_by-append w out.0 (spans_moved whole ++ out.1), sum_by-append w (spans_moved whole) out.1)

pub sum_by-Grafts : (w : SpanState → ℕ) (old new : ShardState) (head : SpanId) (whole : WholeState) → Grafts old head whole new
    → sum_by w (spans_in new.groups) ≡ sum_by w (spans_in old.groups) + sum_by w (spans_moved whole)
sum_by-Grafts w old new head whole grafts =
    let into = spans_in-Grafts old new head whole grafts in
    omega (arith, sum_by-append, ap (sum_by w) into.with_is, ap (sum_by w) into.without_is)

module _ (pool : PoolState) (shard : ShardState) (a b : SpanId) (pool_new : PoolState) (shard_new : ShardState) (folds : Folds pool shard a b pool_new shard_new) where
  -- the shard has the spans of a's group more
  pub sum_by-Folds_shard : (w : SpanState → ℕ) → sum_by w (spans_in shard_new.groups) ≡ sum_by w (spans_in shard.groups) + sum_by w (spans_moved folds.whole)
  sum_by-Folds_shard w = sum_by-Grafts w (with_room shard (Some b) (length (spans_moved folds.whole))) shard_new b folds.whole folds.grafts

  -- and the pool has them less
  pub sum_by-Folds_pool : (w : SpanState → ℕ) → sum_by w (spans_in pool_new.groups) + sum_by w (spans_moved folds.whole) ≡ sum_by w (spans_in pool.groups)
  sum_by-Folds_pool w = sum_by-Lifts w pool pool_new a folds.whole folds.lifts

  -- so that both together have the same
  pub sum_by-Folds : (w : SpanState → ℕ) → sum_by w (spans_in shard_new.groups) + sum_by w (spans_in pool_new.groups) ≡ sum_by w (spans_in shard.groups) + sum_by w (spans_in pool.groups)
  sum_by-Folds w = omega (arith, sum_by-Folds_shard w, sum_by-Folds_pool w)

  pub number-Folds : shard_new.number ≡ shard.number
  number-Folds = ap (λ (s : ShardState). s.number) folds.grafts.after

  pub page_limit-Folds : shard_new.page_limit ≡ shard.page_limit
  page_limit-Folds = ap (λ (s : ShardState). s.page_limit) folds.grafts.after

  pub span_limit-Folds : shard_new.span_limit ≡ shard.span_limit
  span_limit-Folds = ap (λ (s : ShardState). s.span_limit) folds.grafts.after

  pub slot_limit-Folds : shard_new.slot_limit ≡ shard.slot_limit
  slot_limit-Folds = ap (λ (s : ShardState). s.slot_limit) folds.grafts.after

  pub gens-Folds : shard_new.gens ≡ shard.gens
  gens-Folds = ap (λ (s : ShardState). s.gens) folds.grafts.after

  pub opened-Folds : shard_new.opened ≡ shard.opened
  opened-Folds = ap (λ (s : ShardState). s.opened) folds.grafts.after

  pub ended-Folds : shard_new.ended ≡ shard.ended
  ended-Folds = ap (λ (s : ShardState). s.ended) folds.grafts.after

  -- the shard has as many groups as before
  pub length_groups-Folds : length shard_new.groups ≡ length shard.groups
  length_groups-Folds = ap (λ (s : ShardState). length s.groups) folds.grafts.after
      ∙ length-set shard.groups folds.grafts.index (with_guests folds.grafts.group (spans_moved folds.whole) folds.grafts.words)

  -- and as many with a page, where the one that takes the spans has one
  pub length_shard_pages-Folds : IsSoundShard shard → HasPagedHead shard.groups b → length (paged_in shard_new.groups) ≡ length (paged_in shard.groups)
  length_shard_pages-Folds sound n = search (rules, same_group, length-filter, count-set)

  -- and the pool has one page less
  pub length_paged-Folds : length (paged_groups pool_new) + 1 ≡ length (paged_groups pool)
  length_paged-Folds =
      let (index, group, at, whole_is, new_is) = folds.lifts in
      let some : is_some group.page ≡ true = ap is_some (ap (λ (w : WholeState). w.words) (sym whole_is) ∙ folds.grafts.words_are) in
      omega (
        arith,
        ap (λ (p : PoolState). length (paged_groups p)) new_is,
        length-filter is_paged (remove pool.groups index),
        length-filter is_paged pool.groups,
        count-remove is_paged pool.groups index group at.here,
        ap (λ b. cond {A = ℕ} b 1 0) some,
      )
    where
      is_paged : PooledState → Bool
      is_paged group = is_some group.page
