use Rattle.std.proofs.Common.{◌<◌, ◌∙◌, ◌-◌, List, Some, ap, arith, insert, length, subst, sym}
use Rattle.std.specs.FinMap as table
use Rattle.span.specs.Ids.{rank}
use Rattle.groups.specs.Group.{HasNoHead, IsPlaceFor}
use Rattle.groups.proofs.Tables.{Sets-insert}
use Rattle.pool.specs.Groups.{GroupsState}
use Rattle.pool.specs.Noted.{AreNoted}
use Rattle.pool.specs.Ranked.{AreFound, in_order}
use Rattle.pool.specs.State.{PooledState}
use Rattle.pool.proofs.LeastLive.{KnowsLeast-push}
use Rattle.pool.proofs.NotedRanks.{AreNoted-push}
use Rattle.pool.proofs.RankedGroups.{AreFound-push, in_order-push, its}
use Rattle.pool.proofs.group_table.GroupTable.insert.Goals as goal

pub invariant_of-self : goal.invariant_of-self
invariant_of-self g c =
    let row = c.self.inside.row.items in
    let group = c.args.group in
    let new = subst (λ (s : GroupsState). HasNoHead s.groups group.head.id) (sym c.self.view_is) c.requires.new in
    let sets = its (table.get c.self.inside.places.entries) (table.get c.insert_reserved.new.self.entries) (Some c.len-place.result) _ c.rank.result _
    (c.rank.ensures.value ∙ ap rank c.head_id.ensures) (ap Some (c.len-place.ensures ∙ c.self.inside.row.ok.0))
    (Sets-insert c.self.inside.places.entries c.insert_reserved.new.self.entries c.rank.result c.len-place.result c.insert_reserved.ensures.entries) in
    let some : 0 < c.self.inside.room = subst (λ (s : GroupsState). 0 < s.room) (sym c.self.view_is) c.requires.room in
    let long = ap (λ (gs : List PooledState). length gs) c.push_reserved.ensures.items in
    record {
      kept = record {
        found = subst (λ (gs : List PooledState). AreFound gs (table.get c.insert_reserved.new.self.entries)) (sym c.push_reserved.ensures.items)
            (AreFound-push row (table.get c.self.inside.places.entries) c.self.invariant.kept.found group new (table.get c.insert_reserved.new.self.entries) sets);
        noted = subst (λ (gs : List PooledState). AreNoted gs c.note.new.paged.ranks) (sym c.push_reserved.ensures.items)
            (AreNoted-push row group c.self.inside.paged.ranks c.note.new.paged.ranks c.note.ensures.more c.note.ensures.noted c.self.invariant.kept.noted);
        in_row = omega (arith, some, c.self.invariant.kept.in_row, c.push_reserved.ensures.len, c.push_reserved.ensures.capacity, c.push_reserved.new.self.ok.0, c.self.inside.row.ok.0);
        in_table = omega (arith, c.self.invariant.kept.in_table, c.insert_reserved.ensures.room);
        in_heap = omega (arith, some, c.note.ensures.few, c.note.ensures.capacity, c.self.invariant.kept.in_heap);
        all_in_heap = omega (arith, some, c.push_reserved.ensures.len, c.push_reserved.new.self.ok.0, c.self.inside.row.ok.0, c.note.ensures.capacity, c.self.invariant.kept.all_in_heap);
      };
      few = omega (arith, c.push_reserved.ensures.len, c.push_reserved.new.self.ok.0, c.self.inside.row.ok.0, c.note.ensures.few, c.self.invariant.few);
      known = rw (c.push_reserved.ensures.items, c.push_reserved-2.ensures.items)
          (KnowsLeast-push row c.self.inside.least.items c.self.invariant.known group c.byte_of_pooled-byte.result c.self.invariant.bytes c.byte_of_pooled-byte.ensures);
      bytes = omega (
        arith,
        c.self.invariant.bytes,
        c.push_reserved.ensures.len,
        c.push_reserved.new.self.ok.0,
        c.self.inside.row.ok.0,
        c.push_reserved-2.ensures.len,
        c.push_reserved-2.new.self.ok.0,
        c.self.inside.least.ok.0,
      );
      in_bytes = omega (
        arith,
        some,
        c.self.invariant.in_bytes,
        c.push_reserved.ensures.len,
        c.push_reserved.new.self.ok.0,
        c.self.inside.row.ok.0,
        c.push_reserved-2.ensures.capacity,
      );
    }

pub returns : goal.returns
returns g c =
    let row = c.self.inside.row.items in
    let group = c.args.group in
    let new = subst (λ (s : GroupsState). HasNoHead s.groups group.head.id) (sym c.self.view_is) c.requires.new in
    let sets = its (table.get c.self.inside.places.entries) (table.get c.insert_reserved.new.self.entries) (Some c.len-place.result) _ c.rank.result _
    (c.rank.ensures.value ∙ ap rank c.head_id.ensures) (ap Some (c.len-place.ensures ∙ c.self.inside.row.ok.0))
    (Sets-insert c.self.inside.places.entries c.insert_reserved.new.self.entries c.rank.result c.len-place.result c.insert_reserved.ensures.entries) in
    let pushed = in_order-push row (table.get c.self.inside.places.entries) c.self.invariant.kept.found group new (table.get c.insert_reserved.new.self.entries) sets in (
      pushed.0,
      subst (λ (s : GroupsState). IsPlaceFor s.groups group.head.id pushed.0) c.self.view_is pushed.1,
      ap (λ (gs : List PooledState). record { groups = in_order gs; room = c.self.inside.room - 1 }) c.push_reserved.ensures.items
          ∙ ap (λ gs. record { groups = gs; room = c.self.inside.room - 1 }) pushed.2
          ∙ ap (λ (s : GroupsState). record { groups = insert s.groups pushed.0 group; room = s.room - 1 }) c.self.view_is,
    )
