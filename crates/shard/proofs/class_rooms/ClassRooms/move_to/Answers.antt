use Rattle.std.proofs.Common.{◌≡◌, ◌<◌, ◌+◌, ◌*◌, ◌/◌, ◌-◌, ◌∙◌, ℕ, ap, arith}
use Rattle.std.specs.FinSet.{contains}
use Rattle.shard.specs.Rooms.{rooms_of}
use Rattle.shard.proofs.GroupNumbers.{AreMoved, AreMoved-first, AreMoved-next}
use Rattle.shard.proofs.class_rooms.ClassRooms.move_to.Goals as goal

-- another group's place is below
before : (c : goal.After-move_number-4) → c.args.to < c.args.from
before c = omega (arith, c.requires.order, c.if-to-from.false)

-- all four have moved
moved : (c : goal.After-move_number-4) → AreMoved c.args.from c.args.to 4 (rooms_of c.args.self.now c.args.class) (rooms_of c.move_number-4.new.self c.args.class)
moved c =
    let first = AreMoved-first c.args.from c.args.to (before c) (rooms_of c.args.self.now c.args.class) (rooms_of c.move_number.new.self c.args.class) c.move_number.ensures.moved in
    let second = AreMoved-next c.args.from c.args.to 1 (before c) (omega arith) (rooms_of c.args.self.now c.args.class) (rooms_of c.move_number.new.self c.args.class) (rooms_of c.move_number-2.new.self c.args.class) first c.move_number-2.ensures.moved in
    let third = AreMoved-next c.args.from c.args.to 2 (before c) (omega arith) (rooms_of c.args.self.now c.args.class) (rooms_of c.move_number-2.new.self c.args.class) (rooms_of c.move_number-3.new.self c.args.class) second c.move_number-3.ensures.moved in
    AreMoved-next c.args.from c.args.to 3 (before c) (omega arith) (rooms_of c.args.self.now c.args.class) (rooms_of c.move_number-3.new.self c.args.class) (rooms_of c.move_number-4.new.self c.args.class) third c.move_number-4.ensures.moved

pub returns-clause-this : goal.returns-clause-this
returns-clause-this c n few = (moved c).this n few

pub returns-clause-gone : goal.returns-clause-gone
returns-clause-gone c less n at = ap (contains (rooms_of c.move_number-4.new.self c.args.class)) (parts c.args.from n at)
    ∙ (moved c).gone (n - 4 * c.args.from) (omega (arith, at))
  where
    parts : (from n : ℕ) → n / 4 ≡ from → n ≡ 4 * from + (n - 4 * from)
    parts from n at = omega (arith, at)

pub returns-clause-same : goal.returns-clause-same
returns-clause-same c n apart other = (moved c).same n (λ k few. (λ e. apart (omega (arith, e, few)), λ e. other (omega (arith, e, few))))

pub returns-clause-others : goal.returns-clause-others
returns-clause-others c other differs = c.move_number-4.ensures.others other differs ∙ c.move_number-3.ensures.others other differs ∙ c.move_number-2.ensures.others other differs ∙ c.move_number.ensures.others other differs

pub returns-clause-room : goal.returns-clause-room
returns-clause-room c other = c.move_number-4.ensures.room other ∙ c.move_number-3.ensures.room other ∙ c.move_number-2.ensures.room other ∙ c.move_number.ensures.room other

pub move_number-requires-clause-order : goal.move_number-requires-clause-order
move_number-requires-clause-order c = omega (arith, c.requires.order, c.if-to-from.false)

pub move_number-requires-clause-room : goal.move_number-requires-clause-room
move_number-requires-clause-room c = omega (arith, c.requires.room)

pub move_number-requires-2-clause-order : goal.move_number-requires-2-clause-order
move_number-requires-2-clause-order c = omega (arith, c.requires.order, c.if-to-from.false)

pub move_number-requires-2-clause-room : goal.move_number-requires-2-clause-room
move_number-requires-2-clause-room c = omega (arith, c.requires.room, c.move_number.ensures.room c.args.class)

pub move_number-requires-3-clause-order : goal.move_number-requires-3-clause-order
move_number-requires-3-clause-order c = omega (arith, c.requires.order, c.if-to-from.false)

pub move_number-requires-3-clause-room : goal.move_number-requires-3-clause-room
move_number-requires-3-clause-room c = omega (arith, c.requires.room, c.move_number.ensures.room c.args.class, c.move_number-2.ensures.room c.args.class)

pub move_number-requires-4-clause-order : goal.move_number-requires-4-clause-order
move_number-requires-4-clause-order c = omega (arith, c.requires.order, c.if-to-from.false)

pub move_number-requires-4-clause-room : goal.move_number-requires-4-clause-room
move_number-requires-4-clause-room c = omega (arith, c.requires.room, c.move_number.ensures.room c.args.class, c.move_number-2.ensures.room c.args.class, c.move_number-3.ensures.room c.args.class)
