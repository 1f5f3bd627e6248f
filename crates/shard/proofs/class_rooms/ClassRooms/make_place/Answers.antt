use Rattle.std.proofs.Common.{◌≡◌, ◌≤◌, ◌+◌, ◌/◌, ℕ, ◌∙◌, false, sym, arith}
use Rattle.std.specs.FinSet.{contains}
use Rattle.std.proofs.lemmas.Bool.{false_from_ne_true}
use Rattle.shard.specs.Rooms.{rooms_of}
use Rattle.span.specs.declared.class.Class.{Class}
use Rattle.shard.proofs.class_rooms.ClassRooms.make_place.Goals as goal

-- there is no number of the last group or above
none_from : (c : goal.Then-index-count) → (class : Class) (n : ℕ) → c.args.index ≤ n / 4 → contains (rooms_of c.args.self.now class) n ≡ false
none_from c class n from = false_from_ne_true _ (λ member. absurd (let had = c.requires.had class n member in omega (arith, had.0, from, c.if-index-count.true)))

pub returns-then-index-count-clause-this : goal.returns-then-index-count-clause-this
returns-then-index-count-clause-this c class n at = none_from c class n (omega (arith, at))

pub returns-then-index-count-clause-above : goal.returns-then-index-count-clause-above
returns-then-index-count-clause-above c class n from = none_from c class (n + 4) (omega (arith, from)) ∙ sym (none_from c class n from)

pub shift_up-requires-clause-room : goal.shift_up-requires-clause-room
shift_up-requires-clause-room c class n member =
    let had = c.requires.had class n member in
    (omega (arith, had.1, c.if-index-count.false), omega (arith, had.0, had.1))
