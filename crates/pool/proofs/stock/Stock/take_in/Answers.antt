use Rattle.std.proofs.Common.{◌≡◌, ◌∙◌, ◌-◌, List, length, ap, arith, refl, subst, sym, insert}
use Rattle.page.specs.Words.{IsInObjects}
use Rattle.span.specs.State.{SpanState}
use Rattle.groups.specs.Directory.{DirectoryState, entered}
use Rattle.groups.specs.Group.{HasNoHead, IsPlaceFor}
use Rattle.groups.specs.Whole.{IsSoundWhole, WholeState, whole_with}
use Rattle.groups.proofs.KnownGuests.{KnowsGuests-insert}
use Rattle.pool.specs.Calls.{MayTakeIn, TakesIn}
use Rattle.pool.specs.Groups.{GroupsState}
use Rattle.pool.specs.StockKept.{state_of}
use Rattle.pool.specs.State.{PoolState, PooledState, group_of}
use Rattle.pool.proofs.TakenIn.{HasNoHead-elsewhere, IsSound-TakesIn}
use Rattle.pool.proofs.stock.Stock.take_in.Goals as goal

pub insert-requires-clause-new : goal.insert-requires-clause-new
insert-requires-clause-new g c =
    let may = subst (MayTakeIn c.args.self.now) c.into_parts-spans.ensures.parts c.requires in
    subst (λ (s : PoolState). HasNoHead s.groups c.new.result.head.id) (sym c.self.view_is)
    (subst (λ (g : PooledState). HasNoHead c.args.self.now.groups g.head.id) (sym c.new.ensures) (HasNoHead-elsewhere c.args.self.now.groups _ (may.elsewhere 0 c.into_parts-spans.result.0.head refl)))

pub invariant_of-self : goal.invariant_of-self
invariant_of-self g c =
    let spans = c.into_parts-spans.result.0 in
    let moved = whole_with spans c.into_parts-spans.result.1.page in
    let may : MayTakeIn (state_of c.self.inside) moved = subst (λ (s : PoolState). MayTakeIn s moved) (sym c.self.view_is)
    (subst (MayTakeIn c.args.self.now) c.into_parts-spans.ensures.parts c.requires) in
    let fits = subst IsSoundWhole c.into_parts-spans.ensures.parts c.into_parts-spans.ensures.sound in
    let came = c.insert.ensures in
    let group : PooledState = group_of spans c.page_in_use-page.result.page in
    let place : IsPlaceFor c.self.inside.groups.groups spans.head.id came.0 = subst (λ (g : PooledState). IsPlaceFor c.self.inside.groups.groups g.head.id came.0) c.new.ensures came.1 in
    let groups_are : c.insert.new.self.groups ≡ insert c.self.inside.groups.groups came.0 group = ap (λ (s : GroupsState). s.groups) came.2
    ∙ ap (insert c.self.inside.groups.groups came.0) c.new.ensures in
    let takes : TakesIn (state_of c.self.inside) moved
    (record (state_of c.self.inside) {
      groups = c.insert.new.self.groups;
      group_room = c.self.inside.group_room - 1;
      span_room = c.self.inside.span_room - c.len-count.result;
    }) = record {
      index = came.0;
      place = place;
      page = c.page_in_use-page.result.page;
      emptied = c.page_in_use-page.ensures.emptied;
      live = c.page_in_use-page.ensures.live;
      after = rw (groups_are, c.len-count.ensures) refl;
    } in
    let guests_are : c.guests.result.now ≡ spans.guests = c.guests.ensures in
    let entries_now : c.enter_from.new.self.entries
    ≡ entered c.self.inside.directory.entries spans.guests spans.head.id 1 = ap (λ (d : DirectoryState). d.entries) c.enter_from.ensures
    ∙ rw (guests_are, c.head_id-head.ensures) refl in
    record {
      sound = IsSound-TakesIn (state_of c.self.inside) _ moved takes c.self.invariant.sound fits may.elsewhere;
      room_for_groups = omega (arith, may.group_room, c.self.invariant.room_for_groups, ap (λ (s : GroupsState). s.room) came.2);
      guests_known = rw (groups_are, entries_now)
          (KnowsGuests-insert c.self.inside.groups.groups c.self.inside.directory.entries c.self.invariant.guests_known came.0 group place.within fits.once
          may.elsewhere);
      room_for_entries = omega (
        arith,
        c.self.invariant.room_for_entries,
        may.span_room,
        c.len-count.ensures,
        ap (λ (d : DirectoryState). d.room) c.enter_from.ensures,
        ap (λ (guests : List SpanState). length guests) guests_are,
      );
    }

pub returns-clause-takes : goal.returns-clause-takes
returns-clause-takes g c =
    let spans = c.into_parts-spans.result.0 in
    let moved = whole_with spans c.into_parts-spans.result.1.page in
    let came = c.insert.ensures in
    let group : PooledState = group_of spans c.page_in_use-page.result.page in
    let place : IsPlaceFor c.self.inside.groups.groups spans.head.id came.0 = subst (λ (g : PooledState). IsPlaceFor c.self.inside.groups.groups g.head.id came.0) c.new.ensures came.1 in
    let groups_are : c.insert.new.self.groups ≡ insert c.self.inside.groups.groups came.0 group = ap (λ (s : GroupsState). s.groups) came.2
    ∙ ap (insert c.self.inside.groups.groups came.0) c.new.ensures in
    let new : PoolState = record (state_of c.self.inside) {
      groups = c.insert.new.self.groups;
      group_room = c.self.inside.group_room - 1;
      span_room = c.self.inside.span_room - c.len-count.result;
    } in
    let takes : TakesIn (state_of c.self.inside) moved new = record {
      index = came.0;
      place = place;
      page = c.page_in_use-page.result.page;
      emptied = c.page_in_use-page.ensures.emptied;
      live = c.page_in_use-page.ensures.live;
      after = rw (groups_are, c.len-count.ensures) refl;
    } in
    subst (λ (w : WholeState). TakesIn c.args.self.now w new) (sym c.into_parts-spans.ensures.parts)
    (subst (λ (s : PoolState). TakesIn s moved new) c.self.view_is takes)

pub returns-clause-sound : goal.returns-clause-sound
returns-clause-sound g c = (invariant_of-self g c).sound

pub page_in_use-page-requires : goal.page_in_use-page-requires
page_in_use-page-requires g c = subst (λ (w : WholeState). IsInObjects w.head.class c.into_parts-spans.result.1.room) c.into_parts-spans.ensures.parts c.into_parts-spans.ensures.whole
