-- What the groups that a running shard gives to the pool leave: of the shard, of the pool, and of sums over spans.
use Rattle.std.proofs.Common.{◌≡◌, ℕ, zero, suc, ◌+◌, ◌++◌, List, sym, ap, ◌∙◌, arith, Some, slice_get, sum_by}
use Rattle.std.proofs.lemmas.List.Sums.{sum_by-append}
use Rattle.span.specs.State.{SpanState}
use Rattle.groups.specs.Group.{spans_of}
use Rattle.groups.proofs.GroupSpans.{taken_out}
use Rattle.groups.proofs.Removed.{before-remove}
use Rattle.shard.specs.Group.{GroupState}
use Rattle.shard.specs.State.{ShardState}
use Rattle.pool.specs.Calls.{with_rooms}
use Rattle.pool.specs.Retires.{MovesSparse, MovesSparsest, Retires}
use Rattle.pool.specs.State.{PoolState}
use Rattle.arena_core.proofs.Groups.{IsMove, numbers_of, sum_moved, sum_pooled-TakesIn}
use Rattle.arena_core.proofs.PlanKept.{HasStill, HasStill-TakesIn, has_plan-TakesIn}
use Rattle.arena_core.proofs.Spans.{sum_in, sum_pooled}

-- each group of the one list stands in the other
abbrev pub IsPartOf : List GroupState → List GroupState → Type 0
IsPartOf left groups = (index : ℕ) (group : GroupState) → slice_get left index ≡ Some group → (at : ℕ) × (slice_get groups at ≡ Some group)

-- what the moves leave
pub record HasGone (pool_before : PoolState) (before : ShardState) (pool_after : PoolState) (after : ShardState) : Type 0 where
  pub numbers_are : numbers_of after ≡ numbers_of before
  pub opened_is : after.opened ≡ before.opened
  pub sums : (w : SpanState → ℕ) → sum_in w after + sum_pooled w pool_after ≡ sum_in w before + sum_pooled w pool_before
  pub part : IsPartOf after.groups before.groups
  pub still : HasStill pool_before.groups pool_after.groups
  pub has_plan_is : pool_after.has_plan ≡ pool_before.has_plan

HasGone-one : (old : PoolState) (shard : ShardState) (new : PoolState) (left : ShardState) → MovesSparsest old shard new left → HasGone old shard new left
HasGone-one old shard new left moves = record {
  numbers_are = ap numbers_of moves.after;
  opened_is = ap (λ (s : ShardState). s.opened) moves.after;
  sums = λ w.
      let out = taken_out spans_of shard.groups moves.index moves.group moves.sparsest.here in
      let came = sum_pooled-TakesIn w old new moves.whole moves.takes in
      omega (
        arith,
        came,
        ap (sum_moved w) moves.whole_is,
        ap (λ (s : ShardState). sum_in w s) moves.after,
        ap (sum_by w) out.after,
        ap (sum_by w) out.whole,
        sum_by-append w out.left (spans_of moves.group ++ out.right),
        sum_by-append w (spans_of moves.group) out.right,
        sum_by-append w out.left out.right,
      );
  part = λ index group at.
      let (was, apart, there) = before-remove shard.groups moves.index index group (ap (λ (s : ShardState). slice_get s.groups index) (sym moves.after) ∙ at) in
      (was, there);
  still = HasStill-TakesIn old new moves.whole moves.takes;
  has_plan_is = has_plan-TakesIn old new moves.whole moves.takes;
}

HasGone-sparse : (count : ℕ) (old : PoolState) (shard : ShardState) (new : PoolState) (left : ShardState) → MovesSparse count old shard new left → HasGone old shard new left
HasGone-sparse zero old shard new left (new_is, left_is) = record {
  numbers_are = ap numbers_of left_is;
  opened_is = ap (λ (s : ShardState). s.opened) left_is;
  sums = λ w. omega (arith, ap (λ (s : ShardState). sum_in w s) left_is, ap (λ (p : PoolState). sum_pooled w p) new_is);
  part = λ index group at. (index, ap (λ (s : ShardState). slice_get s.groups index) (sym left_is) ∙ at);
  still = λ index group at. (index, ap (λ (p : PoolState). slice_get p.groups index) new_is ∙ at);
  has_plan_is = ap (λ (p : PoolState). p.has_plan) new_is;
}
HasGone-sparse (suc count) old shard new left (mid, others, rest, last) =
    let first = HasGone-sparse count old shard mid others rest in
    let then = HasGone-one mid others new left last in
    record {
      numbers_are = then.numbers_are ∙ first.numbers_are;
      opened_is = then.opened_is ∙ first.opened_is;
      sums = λ w. then.sums w ∙ first.sums w;
      part = λ index group at. let (was, there) = then.part index group at in first.part was group there;
      still = λ index group at. let (now, there) = first.still index group at in then.still now group there;
      has_plan_is = then.has_plan_is ∙ first.has_plan_is;
    }

pub HasGone-Retires : (old : PoolState) (shard : ShardState) (most count : ℕ) (new : PoolState) (left : ShardState) → (retires : Retires old shard most count new left)
    → HasGone (with_rooms old retires.group_room retires.span_room) shard new left
HasGone-Retires old shard most count new left retires = HasGone-sparse count (with_rooms old retires.group_room retires.span_room) shard new left retires.moved

pub IsMove-Retires : (before after : ShardState) (pool_before pool_after : PoolState) (most count : ℕ) → Retires pool_before before most count pool_after after
    → IsMove before after pool_before pool_after
IsMove-Retires before after pool_before pool_after most count retires =
    let gone = HasGone-Retires pool_before before most count pool_after after retires in
    record { numbers_are = gone.numbers_are; opened_is = gone.opened_is; running = retires.running; sums = gone.sums }
