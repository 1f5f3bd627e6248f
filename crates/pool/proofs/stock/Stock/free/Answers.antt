use Rattle.std.proofs.Common.{◌≡◌, ◌∙◌, ap, arith, refl, set, subst, sym, true≢false}
use Rattle.groups.specs.Group.{with_span}
use Rattle.groups.specs.Spans.{with_free}
use Rattle.pool.specs.Calls.{Leaves}
use Rattle.shard.specs.declared.shard.Freed.TheVariants.{No, NotHere, Yes}
use Rattle.pool.specs.Groups.{GroupsState}
use Rattle.pool.specs.StockKept.{state_of}
use Rattle.pool.specs.State.{PoolState}
use Rattle.pool.proofs.Freed.{IsSound-Frees, IsSound-Leaves, Leaves-FreesIn}
use Rattle.pool.proofs.Here.{IsHeadOf-here, IsHere-read, place_within}
use Rattle.pool.proofs.Released.{AreAlike-GivesUp}
use Rattle.groups.proofs.KnownGuests.{KnowsGuests-replaced}
use Rattle.pool.proofs.ShownLogs.{shown-Frees, was_freed-Frees}
use Rattle.pool.proofs.stock.Stock.free.Goals as goal

pub returns-in_default-clause-step : goal.returns-in_default-clause-step
returns-in_default-clause-step g c = (c.in_default.ensures.place, refl)

pub returns-in_default-clause-found : goal.returns-in_default-clause-found
returns-in_default-clause-found g c = was_freed-Frees c.args.self.now c.args.self.now c.args.key.now NotHere c.find.ensures.sound (c.in_default.ensures.place, refl)

pub span_at-requires : goal.span_at-requires
span_at-requires g c = let at = c.in-Some.ensures.place in place_within _ _ _ _ _ _ at.2

pub free-requires : goal.free-requires
free-requires g c =
    let at = c.in-Some.ensures.place in
    let here = IsHere-read _ _ _ _ _ _ at.2 c.span_at.result.now c.span_at.ensures in
    let head = IsHeadOf-here _ _ _ _ _ _ at.2 c.self.inside.groups.groups c.head_id-head.result (ap (λ (p : PoolState). p.groups) c.self.view_is) c.head_id-head.ensures in
    (c.in-Some.group.now, (at.0, head), place_within _ _ _ _ _ _ at.2)

pub returns-then-not-free-clause-step : goal.returns-then-not-free-clause-step
returns-then-not-free-clause-step g c =
    let at = c.in-Some.ensures.place in
    let here = IsHere-read _ _ _ _ _ _ at.2 c.span_at.result.now c.span_at.ensures in
    let head = IsHeadOf-here _ _ _ _ _ _ at.2 c.self.inside.groups.groups c.head_id-head.result (ap (λ (p : PoolState). p.groups) c.self.view_is) c.head_id-head.ensures in
    let facts = c.if-not-free.ensures {u = tt} in (
      at.0,
      c.in-Some.place,
      c.in-Some.group.now,
      c.span_at.result.now,
      here,
      (λ holds. true≢false (sym ((facts.found at.0 c.in-Some.group.now c.span_at.result.now head c.span_at.ensures).1 holds))),
      c.changes-at.ensures,
      ap (λ (s : GroupsState). record (state_of c.self.inside) { groups = s.groups }) facts.unknown ∙ c.self.view_is,
    )

pub returns-then-not-free-clause-found : goal.returns-then-not-free-clause-found
returns-then-not-free-clause-found g c = was_freed-Frees c.args.self.now _ c.args.key.now (No c.changes-at.result) c.find.ensures.sound (returns-then-not-free-clause-step g c)

pub invariant_of-self-2 : goal.invariant_of-self-2
invariant_of-self-2 g c =
    let at = c.in-Some.ensures.place in
    let here = IsHere-read _ _ _ _ _ _ at.2 c.span_at.result.now c.span_at.ensures in
    let head = IsHeadOf-here _ _ _ _ _ _ at.2 c.self.inside.groups.groups c.head_id-head.result (ap (λ (p : PoolState). p.groups) c.self.view_is) c.head_id-head.ensures in
    let facts = c.if-not-free.ensures {u = tt} in
    let holds = (facts.found at.0 c.in-Some.group.now c.span_at.result.now head c.span_at.ensures).0 refl in
    let freed = facts.freed at.0 c.in-Some.group.now c.span_at.result.now head c.span_at.ensures in
    let groups_are : c.free.new.self.groups ≡ set c.self.inside.groups.groups at.0 freed.0 = ap (λ (s : GroupsState). s.groups) freed.2 in
    record {
      sound = IsSound-Leaves (state_of c.self.inside) c.self.invariant.sound at.0 c.in-Some.place c.in-Some.group.now c.span_at.result.now c.args.key.now head.here here.span_is holds _
          (Leaves-FreesIn c.self.inside.groups c.free.new.self at.0 c.in-Some.place c.in-Some.group.now _ freed (state_of c.self.inside) refl);
      room_for_groups = omega (arith, c.self.invariant.room_for_groups, ap (λ (s : GroupsState). s.room) freed.2);
      guests_known = rw groups_are (KnowsGuests-replaced c.self.inside.groups.groups c.self.inside.directory.entries c.self.invariant.guests_known at.0
          c.in-Some.group.now freed.0 head.here
          (AreAlike-GivesUp c.in-Some.group.now freed.0 c.in-Some.place c.span_at.result.now
          (with_free c.span_at.result.now c.args.key.now) here.span_is refl freed.1));
      room_for_entries = c.self.invariant.room_for_entries;
    }

pub returns-clause-step : goal.returns-clause-step
returns-clause-step g c =
    let at = c.in-Some.ensures.place in
    let here = IsHere-read _ _ _ _ _ _ at.2 c.span_at.result.now c.span_at.ensures in
    let head = IsHeadOf-here _ _ _ _ _ _ at.2 c.self.inside.groups.groups c.head_id-head.result (ap (λ (p : PoolState). p.groups) c.self.view_is) c.head_id-head.ensures in
    let facts = c.if-not-free.ensures {u = tt} in
    let holds = (facts.found at.0 c.in-Some.group.now c.span_at.result.now head c.span_at.ensures).0 refl in
    let freed = facts.freed at.0 c.in-Some.group.now c.span_at.result.now head c.span_at.ensures in (
      at.0,
      c.in-Some.place,
      c.in-Some.group.now,
      c.span_at.result.now,
      here,
      holds,
      c.changes-at.ensures,
      subst (λ (p : PoolState). Leaves p at.0 (with_span c.in-Some.group.now c.in-Some.place (with_free c.span_at.result.now c.args.key.now))
          (record (state_of c.self.inside) { groups = c.free.new.self.groups })) c.self.view_is
          (Leaves-FreesIn c.self.inside.groups c.free.new.self at.0 c.in-Some.place c.in-Some.group.now _ freed (state_of c.self.inside) refl),
    )

pub returns-clause-found : goal.returns-clause-found
returns-clause-found g c = was_freed-Frees c.args.self.now _ c.args.key.now (Yes c.changes-at.result) c.find.ensures.sound (returns-clause-step g c)

pub returns-clause-plain : goal.returns-clause-plain
returns-clause-plain g c = shown-Frees c.args.self.now _ c.args.key.now (Yes c.changes-at.result) c.find.ensures.sound (returns-clause-step g c)

pub returns-clause-sound : goal.returns-clause-sound
returns-clause-sound g c = IsSound-Frees c.args.self.now _ c.args.key.now (Yes c.changes-at.result) c.find.ensures.sound (returns-clause-step g c)
