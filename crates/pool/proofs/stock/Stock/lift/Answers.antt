use Rattle.std.proofs.Common.{◌≡◌, ◌∙◌, ap, arith, refl, subst, sym, remove}
use Rattle.groups.specs.Directory.{DirectoryState}
use Rattle.groups.specs.Group.{IsHeadOf}
use Rattle.groups.specs.Whole.{IsSoundWhole, whole_of}
use Rattle.groups.proofs.KnownGuests.{KnowsGuests-remove}
use Rattle.pool.specs.Groups.{GroupsState}
use Rattle.pool.specs.StockKept.{state_of}
use Rattle.pool.specs.State.{PoolState, PooledState}
use Rattle.pool.proofs.Lifted.{IsSound-left_over, IsSoundWhole-whole_of}
use Rattle.pool.proofs.stock.Stock.lift.Goals as goal

pub new-requires-clause-sound : goal.new-requires-clause-sound
new-requires-clause-sound g c =
    let gone = c.in_ok-group.ensures in
    subst IsSoundWhole (ap whole_of c.into_parts-spans.ensures.parts)
    (IsSoundWhole-whole_of (state_of c.self.inside) c.self.invariant.sound gone.0 c.in_ok-group.group gone.1.here)

pub invariant_of-self-2 : goal.invariant_of-self-2
invariant_of-self-2 g c =
    let gone = c.in_ok-group.ensures in
    let groups_are : c.remove.new.self.groups ≡ remove c.self.inside.groups.groups gone.0 = ap (λ (s : GroupsState). s.groups) gone.2 in
    record {
      sound = rw groups_are (IsSound-left_over (state_of c.self.inside) c.self.invariant.sound gone.0 c.in_ok-group.group gone.1.here);
      room_for_groups = omega (arith, c.self.invariant.room_for_groups, ap (λ (s : GroupsState). s.room) gone.2);
      guests_known = rw (groups_are, c.strike_all.ensures, c.guests.ensures ∙ ap (λ (g : PooledState). g.guests) (sym c.into_parts-spans.ensures.parts))
          (KnowsGuests-remove c.self.inside.groups.groups c.self.inside.directory.entries c.self.invariant.guests_known c.self.invariant.sound.ascending gone.0
          c.in_ok-group.group gone.1.here);
      room_for_entries = omega (arith, c.self.invariant.room_for_entries, ap (λ (d : DirectoryState). d.room) c.strike_all.ensures);
    }

pub returns-clause-lifts : goal.returns-clause-lifts
returns-clause-lifts g c =
    let gone = c.in_ok-group.ensures in (
      gone.0,
      c.in_ok-group.group,
      subst (λ (s : PoolState). IsHeadOf s.groups c.args.head gone.0 c.in_ok-group.group) c.self.view_is gone.1,
      c.new.ensures ∙ ap whole_of (sym c.into_parts-spans.ensures.parts),
      rw (← c.self.view_is, gone.2) refl,
    )

pub returns-clause-sound : goal.returns-clause-sound
returns-clause-sound g c = (invariant_of-self-2 g c).sound
