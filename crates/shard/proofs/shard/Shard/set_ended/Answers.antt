use Rattle.std.proofs.Common.{◌≡◌, ◌∙◌, [], None, true, ap, arith, length, sym}
use Rattle.shard.specs.Kept.{state_of}
use Rattle.shard.specs.State.{ShardState}
use Rattle.shard.proofs.ClassesHere.{HaveRoom-none}
use Rattle.shard.proofs.KnownHeads.{KnowsHeads-none}
use Rattle.groups.proofs.KnownLeast.{KnowsLeast-no_bytes}
use Rattle.shard.specs.Least.{IsLeast}
use Rattle.shard.proofs.NoGuests.{bare-none}
use Rattle.shard.proofs.NotedGuests.{KnowsNoHeads-none}
use Rattle.shard.proofs.RoomBits.{HasRooms-empty}
use Rattle.shard.proofs.Start.{IsSound-none}
use Rattle.shard.proofs.shard.Shard.set_ended.Goals as goal

pub invariant_of-self : goal.invariant_of-self
invariant_of-self g c =
    let bare = bare-none c.new.result.items c.new.ensures.items c.new-4.result c.new-4.ensures in
    record {
      number_fits = c.self.invariant.number_fits;
      pages_fit = c.self.invariant.pages_fit;
      gens_fit = c.self.invariant.gens_fit;
      sound = rw (c.new.ensures.items, c.new-4.ensures) (IsSound-none
          (record (state_of c.self.inside) {
            ended = true;
            group_room = 0;
            span_room = 0;
            onto = None;
          }) c.self.invariant.sound.opened c.self.invariant.sound.span_limit c.self.invariant.sound.gens);
      rooms = λ class. rw (c.new.ensures.items, c.new-2.ensures class) (HasRooms-empty class);
      room_for_groups = omega (arith, ap length c.new.ensures.items);
      room_for_rooms = HaveRoom-none c.new.result.items c.new.ensures.items c.new-2.result _;
      room_for_class = λ some. absurd (omega (arith, some));
      room_for_guests = bare.room;
      guests_known = bare.known;
      room_for_entries = bare.entries;
      heads_known = KnowsHeads-none _ _ _ c.new.ensures.items;
      room_for_heads = λ some. absurd (omega (arith, some));
      others_known = KnowsNoHeads-none _ _ _ _ c.new-3.ensures bare.empty;
      room_for_notes = λ head named. absurd (bare.unnamed head named);
      least_known = rw c.new-5.ensures.items (KnowsLeast-no_bytes IsLeast _);
      room_for_bytes = omega (arith, ap length c.new.ensures.items, c.new-5.result.ok.1);
    }

pub returns-clause-ended : goal.returns-clause-ended
returns-clause-ended g c =
    let none : c.self.inside.groups.items ≡ [] = ap (λ (s : ShardState). s.groups) c.self.view_is ∙ c.requires in
    rw (← c.self.view_is, c.new.ensures.items, c.new-4.ensures) (λ i. record (state_of c.self.inside) { ended = true; groups = sym none i; group_room = 0; span_room = 0; onto = None })

pub returns-clause-sound : goal.returns-clause-sound
returns-clause-sound g c = (invariant_of-self g c).sound
