use Rattle.std.proofs.Common.{◌∙◌, ap, refl, sym}
use Rattle.std.proofs.lemmas.Bool.{OnFalse_at, OnTrue_at, true≢false}
use Rattle.shard.specs.declared.shard.replacing.Replaced.TheVariants.{No, NotHere, Yes}
use Rattle.pool.specs.Groups.{GroupsState}
use Rattle.pool.specs.StockKept.{state_of}
use Rattle.pool.specs.State.{PoolState}
use Rattle.groups.proofs.Maps.{at_err}
use Rattle.pool.proofs.Here.{IsHeadOf-here, IsHere-read, place_within}
use Rattle.groups.specs.Pages.{set_group}
use Rattle.groups.specs.Spans.{with_set}
use Rattle.groups.proofs.KnownGuests.{KnowsGuests-replaced}
use Rattle.groups.proofs.ReplacedGroups.{AreAlike-with_span}
use Rattle.pool.proofs.ReplacedGroup.{IsSound-set}
use Rattle.groups.proofs.ShownChanges.{may_set-settable}
use Rattle.pool.proofs.ShownLogs.{IsSound-Sets, shown-Sets, was_replaced-Sets}
use Rattle.pool.proofs.stock.Stock.set.Goals as goal

pub returns-in_default-clause-step : goal.returns-in_default-clause-step
returns-in_default-clause-step g c = (c.in_default.ensures.place, refl)

pub returns-in_default-clause-found : goal.returns-in_default-clause-found
returns-in_default-clause-found g c = was_replaced-Sets c.args.self.now c.args.self.now c.args.key.now c.args.words.now NotHere c.find.ensures.sound (c.in_default.ensures.place, refl)

pub span_at-span-requires : goal.span_at-span-requires
span_at-span-requires g c = let at = c.in-Some.ensures.place in place_within _ _ _ _ _ _ at.2

pub set-requires : goal.set-requires
set-requires g c =
    let at = c.in-Some.ensures.place in
    let head = IsHeadOf-here _ _ _ _ _ _ at.2 c.self.inside.groups.groups c.head_id-head.result (ap (λ (p : PoolState). p.groups) c.self.view_is) c.head_id-head.ensures in
    (c.in-Some.group.now, (at.0, head), place_within _ _ _ _ _ _ at.2, c.find.ensures.sound.groups at.0 c.in-Some.group.now at.2.group_is)

pub returns-in_err-set-clause-refused : goal.returns-in_err-set-clause-refused
returns-in_err-set-clause-refused g c =
    let at = c.in-Some.ensures.place in
    let here = IsHere-read _ _ _ _ _ _ at.2 c.span_at-span.result.now c.span_at-span.ensures in
    let head = IsHeadOf-here _ _ _ _ _ _ at.2 c.self.inside.groups.groups c.head_id-head.result (ap (λ (p : PoolState). p.groups) c.self.view_is) c.head_id-head.ensures in
    at_err c.from_residual.result
    (may_set-settable c.args.self.now.groups c.find.ensures.sound.groups c.find.ensures.sound.once c.args.key.now at.0 c.in-Some.place c.in-Some.group.now
    c.span_at-span.result.now here c.args.words.now
    (c.in_err-set.ensures.refused at.0 c.in-Some.group.now c.span_at-span.result.now head c.span_at-span.ensures))

pub returns-then-not-branch-clause-step : goal.returns-then-not-branch-clause-step
returns-then-not-branch-clause-step g c =
    let at = c.in-Some.ensures.place in
    let here = IsHere-read _ _ _ _ _ _ at.2 c.span_at-span.result.now c.span_at-span.ensures in
    let head = IsHeadOf-here _ _ _ _ _ _ at.2 c.self.inside.groups.groups c.head_id-head.result (ap (λ (p : PoolState). p.groups) c.self.view_is) c.head_id-head.ensures in
    let same = OnFalse_at c.if-not-branch.true c.in_ok-set.ensures.unknown in (
      at.0,
      c.in-Some.place,
      c.in-Some.group.now,
      c.span_at-span.result.now,
      here,
      (λ settable. true≢false (sym ((c.in_ok-set.ensures.found at.0 c.in-Some.group.now c.span_at-span.result.now head c.span_at-span.ensures).1 settable) ∙ c.if-not-branch.true)),
      c.changes-at.ensures,
      ap (λ (s : GroupsState). record (state_of c.self.inside) { groups = s.groups }) same ∙ c.self.view_is,
    )

pub returns-then-not-branch-clause-found : goal.returns-then-not-branch-clause-found
returns-then-not-branch-clause-found g c = was_replaced-Sets c.args.self.now _ c.args.key.now c.args.words.now (No c.changes-at.result) c.find.ensures.sound (returns-then-not-branch-clause-step g c)

pub invariant_of-self-2 : goal.invariant_of-self-2
invariant_of-self-2 g c =
    let at = c.in-Some.ensures.place in
    let group = c.in-Some.group.now in
    let span = c.span_at-span.result.now in
    let head = IsHeadOf-here _ _ _ _ _ _ at.2 c.self.inside.groups.groups c.head_id-head.result (ap (λ (p : PoolState). p.groups) c.self.view_is) c.head_id-head.ensures in
    let settable = (c.in_ok-set.ensures.found at.0 group span head c.span_at-span.ensures).0 c.if-not-branch.false in
    let groups_now = OnTrue_at c.if-not-branch.false (c.in_ok-set.ensures.set at.0 group span head c.span_at-span.ensures) in
    rw groups_now (record {
      sound = IsSound-set (state_of c.self.inside) c.self.invariant.sound at.0 group head.here c.in-Some.place span c.span_at-span.ensures c.args.key.now.slot
          c.args.key.now.generation c.args.words.now settable;
      room_for_groups = c.self.invariant.room_for_groups;
      guests_known = KnowsGuests-replaced c.self.inside.groups.groups c.self.inside.directory.entries c.self.invariant.guests_known at.0 group
          (set_group group c.in-Some.place span c.args.key.now.slot c.args.key.now.generation c.args.words.now) head.here
          (AreAlike-with_span group c.in-Some.place span (with_set span c.args.key.now c.args.words.now) c.span_at-span.ensures refl);
      room_for_entries = c.self.invariant.room_for_entries;
    })

pub returns-clause-step : goal.returns-clause-step
returns-clause-step g c =
    let at = c.in-Some.ensures.place in
    let group = c.in-Some.group.now in
    let span = c.span_at-span.result.now in
    let head = IsHeadOf-here _ _ _ _ _ _ at.2 c.self.inside.groups.groups c.head_id-head.result (ap (λ (p : PoolState). p.groups) c.self.view_is) c.head_id-head.ensures in
    let settable = (c.in_ok-set.ensures.found at.0 group span head c.span_at-span.ensures).0 c.if-not-branch.false in
    let groups_now = OnTrue_at c.if-not-branch.false (c.in_ok-set.ensures.set at.0 group span head c.span_at-span.ensures) in (
      at.0,
      c.in-Some.place,
      group,
      span,
      IsHere-read _ _ _ _ _ _ at.2 span c.span_at-span.ensures,
      settable,
      c.changes-at.ensures,
      rw (← c.self.view_is, groups_now) refl,
    )

pub returns-clause-found : goal.returns-clause-found
returns-clause-found g c = was_replaced-Sets c.args.self.now _ c.args.key.now c.args.words.now (Yes c.changes-at.result) c.find.ensures.sound (returns-clause-step g c)

pub returns-clause-plain : goal.returns-clause-plain
returns-clause-plain g c = shown-Sets c.args.self.now _ c.args.key.now c.args.words.now (Yes c.changes-at.result) c.find.ensures.sound (returns-clause-step g c)

pub returns-clause-sound : goal.returns-clause-sound
returns-clause-sound g c = IsSound-Sets c.args.self.now _ c.args.key.now c.args.words.now (Yes c.changes-at.result) c.find.ensures.sound (returns-clause-step g c)
