use Rattle.std.proofs.Common.{◌∙◌, List, ap, sym, subst, inl, inr}
use Rattle.shard.specs.Group.{GroupState}
use Rattle.shard.specs.Rooms.{HasRooms, rooms_of}
use Rattle.groups.proofs.Lists.{set-same}
use Rattle.shard.proofs.Classes.{cases_class}
use Rattle.shard.proofs.RoomBits.{HasRooms-open, HasRooms-other}
use Rattle.shard.proofs.shard.folds.open_at.Goals as goal

pub returns-clause-has : goal.returns-clause-has
returns-clause-has g c groups here slot_limit noted class =
    let has = noted class in
    elim (cases_class class c.class.result) [
      | inl same ↦ rw same
          (HasRooms-open c.class.result groups (rooms_of c.args.rooms.now c.class.result) (rw (← same) has) c.args.index c.reopen.new.self c.args.group.now here
          (ap (λ (g : GroupState). g.head.class) c.reopen.ensures) (sym c.class.ensures) (rooms_of c.insert_all.new.self c.class.result) c.insert_all.ensures.same c.insert_all.ensures.this)
      | inr apart ↦ rw (c.insert_all.ensures.others class apart)
          (HasRooms-other class groups (rooms_of c.args.rooms.now class) has c.args.index c.reopen.new.self c.args.group.now here
          (ap (λ (g : GroupState). g.head.class) c.reopen.ensures) (λ e. apart (sym e ∙ sym c.class.ensures)))
    ]

pub returns-then-not-is_closed-clause-has : goal.returns-then-not-is_closed-clause-has
returns-then-not-is_closed-clause-has g c groups here slot_limit noted class =
    subst (λ (gs : List GroupState). HasRooms slot_limit class gs (rooms_of c.args.rooms.now class)) (sym (set-same groups c.args.index c.args.group.now here)) (noted class)
