use Rattle.std.proofs.Common.{◌∙◌, ◌≡◌, List, ap, arith, drop, length, subst, sym}
use Rattle.shard.specs.Shown.{shown as shown_by_shard}
use Rattle.shard.specs.State.{ShardState}
use Rattle.shard.specs.declared.shard.retiring.LiveGroup.{LiveGroup}
use Rattle.pool.specs.Calls.{with_rooms}
use Rattle.pool.specs.Handover.{AreReady, span_count}
use Rattle.pool.specs.Retires.{HasRetired, MovesSparse}
use Rattle.pool.specs.Shown.{shown, together}
use Rattle.pool.specs.State.{PoolState}
use Rattle.pool.proofs.Retiring.{AreReady-going, HasNoLive-fewer, HasRetired-with_rooms, length-going, span_count-going}
use Rattle.pool.proofs.pool.Pool.retire_some.Goals as goal

pub span_count-requires : goal.span_count-requires
span_count-requires g c = span_count-going c.args.shard.now c.in_ok-going.ensures.told.0 c.as_slice.result.now c.args.most c.requires.sound_shard
    c.in_ok-going.ensures.told.1 (c.as_slice.ensures.value ∙ c.in_ok-going.ensures.told.2)

-- those that are to go are ready
ready_with : (pool made : PoolState) (shard : ShardState) (going rest : List LiveGroup) → made ≡ pool → AreReady pool shard going rest → AreReady made shard going rest
ready_with pool made shard going rest made_is ready = subst (λ (p : PoolState). AreReady p shard going rest) (sym made_is) ready

pub move_going-requires : goal.move_going-requires
move_going-requires g c = rw c.in_ok-going.ensures.same (record {
  ready = (
    drop c.args.most c.in_ok-going.ensures.told.0,
    ready_with (with_rooms c.args.self.now c.len.result c.span_count.result) _ c.args.shard.now c.as_slice-2.result.now
        (drop c.args.most c.in_ok-going.ensures.told.0) (c.in_ok-reserve.ensures {u = tt}).ok
        (AreReady-going c.args.self.now c.args.shard.now c.in_ok-going.ensures.told.0 c.as_slice-2.result.now c.args.most c.len.result c.span_count.result
        c.requires.sound c.requires.sound_shard c.requires.apart c.in_ok-going.ensures.told.1
        (c.as_slice-2.ensures.value ∙ c.in_ok-going.ensures.told.2) (omega (arith, c.len.ensures, c.as_slice-2.ensures.len))
        (c.span_count.ensures ∙ ap span_count (c.as_slice.ensures.value ∙ sym c.as_slice-2.ensures.value))),
  );
  unclosed = c.requires.open;
})

pub returns-clause-ok : goal.returns-clause-ok
returns-clause-ok g c =
    let told = c.in_ok-going.ensures.told.0 in
    let going = c.as_slice-2.result.now in
    let is = c.as_slice-2.ensures.value ∙ c.in_ok-going.ensures.told.2 in
    let count : length going ≡ c.len-2.result = omega (arith, c.len-2.ensures, c.as_slice-2.ensures.len) in
    let at_most = length-going told going c.args.most is in
    let made = with_rooms c.args.self.now c.len.result c.span_count.result in
    record {
      group_room = c.len.result;
      span_room = c.span_count.result;
      running = c.requires.running;
      moved = subst (λ n. MovesSparse n made c.args.shard.now c.move_going.new.self c.move_going.new.shard) count
          (subst (λ (p : PoolState). MovesSparse (length going) p c.args.shard.now c.move_going.new.self c.move_going.new.shard)
          (c.in_ok-reserve.ensures {u = tt}).ok (rw (← c.in_ok-going.ensures.same) c.move_going.ensures.moved));
      at_most = omega arith;
      all = λ fewer. HasNoLive-fewer c.move_going.new.shard.groups told going c.args.most is
          (c.move_going.ensures.left (drop c.args.most told) (rw c.in_ok-going.ensures.same (ready_with made _ c.args.shard.now going (drop c.args.most told) (c.in_ok-reserve.ensures {u = tt}).ok
          (AreReady-going c.args.self.now c.args.shard.now told going c.args.most c.len.result c.span_count.result c.requires.sound c.requires.sound_shard c.requires.apart c.in_ok-going.ensures.told.1
          is (omega (arith, c.len.ensures, c.as_slice-2.ensures.len)) (c.span_count.ensures ∙ ap span_count (c.as_slice.ensures.value ∙ sym c.as_slice-2.ensures.value))))))
          (omega arith);
    }

pub returns-clause-whole : goal.returns-clause-whole
returns-clause-whole g c =
    let going = c.as_slice-2.result.now in
    let count : length going ≡ c.len-2.result = omega (arith, c.len-2.ensures, c.as_slice-2.ensures.len) in
    subst (λ n. HasRetired c.args.self.now c.args.shard.now n c.move_going.new.self c.move_going.new.shard) count
    (HasRetired-with_rooms c.args.self.now c.len.result c.span_count.result c.args.shard.now (length going) c.move_going.new.self c.move_going.new.shard
    (subst (λ (p : PoolState). HasRetired p c.args.shard.now (length going) c.move_going.new.self c.move_going.new.shard)
    (c.in_ok-reserve.ensures {u = tt}).ok (rw (← c.in_ok-going.ensures.same) c.move_going.ensures.whole)))

pub returns-clause-kept : goal.returns-clause-kept
returns-clause-kept g c =
    c.move_going.ensures.kept
    ∙ ap (λ (s : ShardState). together (shown c.reserve.new.self) (shown_by_shard s)) c.in_ok-going.ensures.same
    ∙ ap (λ (p : PoolState). together (shown p) (shown_by_shard c.args.shard.now)) (c.in_ok-reserve.ensures {u = tt}).ok
