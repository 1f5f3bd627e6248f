use Rattle.std.proofs.Common.{ap, arith, length}
use Rattle.shard.proofs.ClassesHere.{HaveRoom-none}
use Rattle.shard.proofs.KnownHeads.{KnowsHeads-none}
use Rattle.groups.proofs.KnownLeast.{KnowsLeast-no_bytes}
use Rattle.shard.specs.Least.{IsLeast}
use Rattle.shard.proofs.NoGuests.{IsBare, bare-none}
use Rattle.shard.proofs.NotedGuests.{KnowsNoHeads-none}
use Rattle.shard.proofs.RoomBits.{HasRooms-empty}
use Rattle.shard.proofs.Start.{IsSound-new}
use Rattle.shard.proofs.shard.Shard.with_slots.Goals as goal

bare : (g : _) (c : goal.After-new-5 g) → IsBare c.new.result.items c.new-4.result
bare g c = bare-none c.new.result.items c.new.ensures.items c.new-4.result c.new-4.ensures

pub invariant_of-result : goal.invariant_of-result
invariant_of-result g c = record {
  number_fits = omega arith;
  pages_fit = omega arith;
  gens_fit = omega arith;
  sound = rw (c.new.ensures.items, c.new-4.ensures) (IsSound-new c.args.number c.args.page_limit c.args.span_limit c.args.slot_limit c.args.gens (omega arith) (omega arith));
  rooms = λ class. rw (c.new.ensures.items, c.new-2.ensures class) (HasRooms-empty class);
  room_for_groups = omega (arith, ap length c.new.ensures.items);
  room_for_rooms = HaveRoom-none c.new.result.items c.new.ensures.items c.new-2.result _;
  room_for_class = λ some. absurd (omega (arith, some));
  room_for_guests = (bare g c).room;
  guests_known = (bare g c).known;
  room_for_entries = (bare g c).entries;
  heads_known = KnowsHeads-none _ _ _ c.new.ensures.items;
  room_for_heads = λ some. absurd (omega (arith, some));
  others_known = KnowsNoHeads-none _ _ _ _ c.new-3.ensures (bare g c).empty;
  room_for_notes = λ head named. absurd ((bare g c).unnamed head named);
  least_known = rw c.new-5.ensures.items (KnowsLeast-no_bytes IsLeast _);
  room_for_bytes = omega (arith, ap length c.new.ensures.items, c.new-5.result.ok.1);
}

pub returns-clause-sound : goal.returns-clause-sound
returns-clause-sound g c = rw (c.new.ensures.items, c.new-4.ensures) (IsSound-new c.args.number c.args.page_limit c.args.span_limit c.args.slot_limit c.args.gens (omega arith) (omega arith))
