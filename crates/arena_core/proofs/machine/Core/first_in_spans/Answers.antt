use Rattle.std.proofs.Common.{◌≡◌, ◌*◌, ◌+◌, arith, subst}
use Rattle.span.specs.FirstLive.{HasNoneBetween}
use Rattle.span.specs.Ids.{rank}
use Rattle.span.specs.declared.limits.TheConstants.{MOST_SPANS}
use Rattle.groups.proofs.FirstLive.{HasNoneBetween-span, IsFirstLive-span}
use Rattle.arena_core.specs.State.{shown}
use Rattle.arena_core.proofs.machine.Core.first_in_spans.Goals as goal

pub returns-in-Some-first_in_span : goal.returns-in-Some-first_in_span
returns-in-Some-first_in_span g c =
    let here : MOST_SPANS * c.args.shard + c.loop-serial.serial ≡ rank c.in-Some.id = omega (arith, c.in-Some.ensures.parts.0, c.in-Some.ensures.parts.1) in
    let low = MOST_SPANS * c.args.shard + c.args.from in
    IsFirstLive-span (shown c.args.self.now) low c.in-Some.id c.in-Some-first_in_span.key (omega (arith, here, c.loop-serial.auto.serial))
    (subst (HasNoneBetween (shown c.args.self.now) low) here c.loop-serial.invariant) c.in-Some-first_in_span.ensures

pub loop-serial-preserved : goal.loop-serial-preserved
loop-serial-preserved g c =
    let here : MOST_SPANS * c.args.shard + c.loop-serial.serial ≡ rank c.in-Some.id = omega (arith, c.in-Some.ensures.parts.0, c.in-Some.ensures.parts.1) in
    let low = MOST_SPANS * c.args.shard + c.args.from in
    let next : rank c.in-Some.id + 1 ≡ MOST_SPANS * c.args.shard + (c.loop-serial.serial + 1) = omega (arith, here) in
    subst (HasNoneBetween (shown c.args.self.now) low) next
    (HasNoneBetween-span (shown c.args.self.now) low c.in-Some.id (subst (HasNoneBetween (shown c.args.self.now) low) here c.loop-serial.invariant) c.in_default-first_in_span.ensures)
