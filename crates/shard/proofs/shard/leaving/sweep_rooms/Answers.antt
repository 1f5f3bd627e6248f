use Rattle.std.proofs.Common.{◌≡◌, ◌∙◌, Some, slice_get, ap, arith, refl, sym}
use Rattle.std.proofs.lemmas.Option.{slice_get_read}
use Rattle.shard.specs.Rooms.{room_of, rooms_of}
use Rattle.shard.proofs.SweptRooms.{HasRooms-swept, sweep-left, sweep-stayed}
use Rattle.shard.proofs.shard.leaving.sweep_rooms.Goals as goal

pub loop-index-preserved-then-has_left : goal.loop-index-preserved-then-has_left
loop-index-preserved-then-has_left g c =
    let here : slice_get c.args.groups.now.items c.loop-index.index ≡ Some c.index-place.result.now =
    slice_get_read c.args.groups.now.items _ c.loop-index.index c.index-place.result.now refl (omega (arith, c.loop-index-test.true, c.len-index-end.ensures)) c.index-place.ensures in (
      λ slot_limit has. sweep-left c.args.groups.now.items c.args.rooms.now c.loop-index.rooms has c.loop-index.index c.loop-index.next (c.loop-index.invariant.0 slot_limit has)
          c.index-place.result.now here c.class-class.result c.class-class.ensures c.remove_all.new.self c.remove_all.ensures.this c.remove_all.ensures.same c.remove_all.ensures.others
          (sym c.has_left.ensures ∙ c.if-has_left.true),
      omega (arith, c.loop-index.invariant.1),
      λ class. c.remove_all.ensures.room class ∙ c.loop-index.invariant.2 class,
    )

pub loop-index-preserved : goal.loop-index-preserved
loop-index-preserved g c =
    let here : slice_get c.args.groups.now.items c.loop-index.index ≡ Some c.index-place.result.now =
    slice_get_read c.args.groups.now.items _ c.loop-index.index c.index-place.result.now refl (omega (arith, c.loop-index-test.true, c.len-index-end.ensures)) c.index-place.ensures in (
      λ slot_limit has. sweep-stayed c.args.groups.now.items c.args.rooms.now c.loop-index.rooms has c.loop-index.index c.loop-index.next (c.loop-index.invariant.0 slot_limit has)
          c.index-place.result.now here c.class-class.result c.class-class.ensures
          (sym c.has_left.ensures ∙ c.if-has_left.false) c.move_to.new.self c.move_to.ensures.this c.move_to.ensures.gone c.move_to.ensures.same c.move_to.ensures.others,
      omega (arith, c.loop-index.invariant.1),
      λ class. c.move_to.ensures.room class ∙ c.loop-index.invariant.2 class,
    )

pub move_to-requires-clause-room : goal.move_to-requires-clause-room
move_to-requires-clause-room g c =
    omega (
      arith,
      c.loop-index.invariant.2 c.class-class.result,
      c.requires.room c.loop-index.index c.index-place.result.now
          (slice_get_read c.args.groups.now.items _ c.loop-index.index c.index-place.result.now refl (omega (arith, c.loop-index-test.true, c.len-index-end.ensures)) c.index-place.ensures),
      ap (room_of c.args.rooms.now) c.class-class.ensures,
      c.loop-index-test.true,
      c.len-index-end.ensures,
    )

pub remove_all-requires-clause-room : goal.remove_all-requires-clause-room
remove_all-requires-clause-room g c =
    omega (
      arith,
      c.loop-index.invariant.2 c.class-class.result,
      c.requires.room c.loop-index.index c.index-place.result.now
          (slice_get_read c.args.groups.now.items _ c.loop-index.index c.index-place.result.now refl (omega (arith, c.loop-index-test.true, c.len-index-end.ensures)) c.index-place.ensures),
      ap (room_of c.args.rooms.now) c.class-class.ensures,
      c.loop-index-test.true,
      c.len-index-end.ensures,
    )

pub overflow_add-next : goal.overflow_add-next
overflow_add-next g c = omega (arith, c.loop-index.invariant.1, c.loop-index-test.true, c.len-index-end.ensures, c.loop-index.auto.index-end)

pub returns-clause-has : goal.returns-clause-has
returns-clause-has g c slot_limit has class =
    HasRooms-swept class c.args.groups.now.items (rooms_of c.args.rooms.now class) (rooms_of c.loop-index.rooms class) (has class) c.loop-index.index c.loop-index.next
    (omega (arith, c.loop-index-test.false, c.len-index-end.ensures)) (c.loop-index.invariant.0 slot_limit has class)
