use Rattle.std.proofs.Common.{◌≡◌, ◌+◌, ◌/◌, ℕ, ◌∙◌, ap, inl, inr, sym, arith}
use Rattle.std.specs.FinSet.{contains}
use Rattle.shard.specs.Rooms.{rooms_of}
use Rattle.span.specs.declared.class.Class.{Class}
use Rattle.shard.proofs.Classes.{cases_class}
use Rattle.shard.proofs.class_rooms.ClassRooms.note_arrival.Goals as goal

-- the numbers of another group stay as they were
apart_from : (c : goal.After-insert_all) → (other : Class) (n : ℕ) → (n / 4 ≡ c.args.index → ⊥) → contains (rooms_of c.insert_all.new.self other) n ≡ contains (rooms_of c.make_place.new.self other) n
apart_from c other n apart = elim (cases_class other c.args.class) [
  | inl same ↦ ap (λ k. contains (rooms_of c.insert_all.new.self k) n) same ∙ c.insert_all.ensures.same n apart
      ∙ ap (λ k. contains (rooms_of c.make_place.new.self k) n) (sym same)
  | inr differs ↦ ap (λ s. contains s n) (c.insert_all.ensures.others other differs)
]

pub returns-clause-below : goal.returns-clause-below
returns-clause-below c other n less = apart_from c other n (λ e. absurd (omega (arith, e, less))) ∙ c.make_place.ensures.below other n less

pub returns-clause-others : goal.returns-clause-others
returns-clause-others c other differs n at = ap (λ s. contains s n) (c.insert_all.ensures.others other differs) ∙ c.make_place.ensures.this other n at

pub returns-clause-above : goal.returns-clause-above
returns-clause-above c other n from = apart_from c other (n + 4) (λ e. absurd (omega (arith, e, from))) ∙ c.make_place.ensures.above other n from

pub insert_all-requires-clause-room : goal.insert_all-requires-clause-room
insert_all-requires-clause-room c = omega (arith, c.make_place.ensures.room c.args.class, c.requires.room, c.requires.within)
