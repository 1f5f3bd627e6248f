-- That the room which is made for notes is enough for the spans that come.
use Rattle.std.proofs.Common.{◌≡◌, ◌≤◌, ◌+◌, ◌++◌, ℕ, ap, arith, length, slice_get, sym, ◌∙◌, is_some, IsSome, length-append}
use Rattle.span.specs.declared.id.SpanId.{SpanId}
use Rattle.groups.specs.Group.{IsHeadOf, spans_of}
use Rattle.groups.specs.Whole.{WholeState, spans_moved}
use Rattle.shard.specs.Group.{GroupState}
use Rattle.shard.specs.Moves.{with_guests}
use Rattle.shard.specs.Sound.{IsSound as IsSoundShard}
use Rattle.shard.specs.State.{ShardState}
use Rattle.shard.proofs.HeadsHere.{same_group}
use Rattle.pool.specs.Calls.{Adopts, IsHeadOfLowest}
use Rattle.pool.specs.Sound.{IsSound as IsSoundPool}
use Rattle.pool.specs.State.{PoolState, PooledState}
use Rattle.pool.proofs.Adopted.{one_head, one_lowest}
use Rattle.fold.specs.Folds.{Folds, MayFold, Steps}
use Rattle.fold.specs.declared.step.Step.{Step as Outcome}
use Rattle.fold.specs.declared.step.Step.TheVariants.{Absent, Clash, Emptied, Folded}
use Rattle.arena_core.specs.Moved.{HasAtMost}
use Rattle.arena_core.proofs.Noted.{adopted, adopted-here, grafted-here}
use Rattle.std.proofs.option.Match.{None-if_not_some}
use Rattle.std.proofs.lemmas.Bool.{true_from_ne_false}

-- the group of the head has that many spans, where it has a page
abbrev pub CountsPaged : PoolState → SpanId → ℕ → Type 0
CountsPaged pool head spans = (index : ℕ) (group : PooledState) → IsHeadOf pool.groups head index group → IsSome group.page → spans ≡ length (spans_of group)

module _ (pool : PoolState) (sound : IsSoundPool pool) (before after : ShardState) (sound_after : IsSoundShard after) (spans most : ℕ) (enough : spans ≤ most) where
  -- the group that was to come, by this head, is the one that came
  pub HasAtMost-Adopts : (coming head : SpanId) (pool_after : PoolState) → IsHeadOfLowest pool coming → Adopts pool before head pool_after after
      → CountsPaged pool coming spans → HasAtMost after.groups head 0 most
  HasAtMost-Adopts coming head pool_after (place, lowest, is_lowest, coming_is) adopts counts index group here =
      let known : adopts.group ≡ lowest = one_lowest pool sound.ascending adopts.index place adopts.group lowest adopts.lowest is_lowest in
      let (at, pooled, head_of, whole_is, rest) = adopts.lifts in
      let one : pooled ≡ adopts.group = one_head pool sound at adopts.index pooled adopts.group head_of.here adopts.lowest.here (head_of.head_is ∙ adopts.head_is) in
      let counted : spans ≡ length (spans_of adopts.group) = counts adopts.index adopts.group
      (record { here = adopts.lowest.here; head_is = ap (λ (g : PooledState). g.head.id) known ∙ coming_is }) adopts.lowest.paged in
      let same : group ≡ adopted adopts.whole = same_group after.groups sound_after.ascending head index adopts.takes_in.index group (adopted adopts.whole) here
      (adopted-here before after pool pool_after head adopts) in
      omega (arith, enough, counted, ap (λ (g : GroupState). length (spans_of g)) same, ap (λ (w : WholeState). length (spans_moved w)) whole_is, ap (λ (g : PooledState). length (spans_of g)) one)

  HasAtMost-same : (head : SpanId) (first : ℕ) → ((index : ℕ) (group : GroupState) → IsHeadOf before.groups head index group → first ≡ length (spans_of group))
      → after ≡ before → HasAtMost after.groups head first most
  HasAtMost-same head first count same index group here =
      omega (arith, count index group (record { here = ap (λ (s : ShardState). slice_get s.groups index) (sym same) ∙ here.here; head_is = here.head_is }))

  paged_if_folded : (a b : SpanId) (index : ℕ) (group : PooledState) → MayFold pool before a b → IsHeadOf pool.groups a index group → IsSome group.page
  paged_if_folded a b index group may here = true_from_ne_false (is_some group.page) (λ none. may.paged (may.present, (index, group, here, None-if_not_some _ none)))

  HasAtMost-Folds : (a b : SpanId) (pool_after : PoolState) (first : ℕ)
      → ((index : ℕ) (group : GroupState) → IsHeadOf before.groups b index group → first ≡ length (spans_of group)) → CountsPaged pool a spans
      → MayFold pool before a b → Folds pool before a b pool_after after → HasAtMost after.groups b first most
  HasAtMost-Folds a b pool_after first count counts may folds index group here =
      let (at, pooled, head_of, whole_is, rest) = folds.lifts in
      let counted : spans ≡ length (spans_of pooled) = counts at pooled head_of (paged_if_folded a b at pooled may head_of) in
      let onto = with_guests folds.grafts.group (spans_moved folds.whole) folds.grafts.words in
      let same : group ≡ onto = same_group after.groups sound_after.ascending b index folds.grafts.index group onto here (grafted-here pool before a b pool_after after folds) in
      let guests : length (folds.grafts.group.guests ++ spans_moved folds.whole) ≡ length folds.grafts.group.guests
      + length (spans_moved folds.whole) = length-append folds.grafts.group.guests (spans_moved folds.whole) in
      let was : first ≡ length (spans_of folds.grafts.group) = count folds.grafts.index folds.grafts.group (record { here = folds.grafts.here.here; head_is = folds.grafts.here.head_is }) in
      omega (arith, enough, counted, was, guests, ap (λ (g : GroupState). length (spans_of g)) same, ap (λ (w : WholeState). length (spans_moved w)) whole_is)

  pub HasAtMost-Steps : (a b : SpanId) (pool_after : PoolState) (first : ℕ) (step : Outcome)
      → ((index : ℕ) (group : GroupState) → IsHeadOf before.groups b index group → first ≡ length (spans_of group)) → CountsPaged pool a spans
      → Steps pool before a b step pool_after after → HasAtMost after.groups b first most
  HasAtMost-Steps a b pool_after first Absent count counts steps = HasAtMost-same b first count steps.2
  HasAtMost-Steps a b pool_after first Emptied count counts steps = HasAtMost-same b first count steps.2
  HasAtMost-Steps a b pool_after first Clash count counts steps = HasAtMost-same b first count steps.2
  HasAtMost-Steps a b pool_after first Folded count counts steps = HasAtMost-Folds a b pool_after first count counts steps.0 steps.1
