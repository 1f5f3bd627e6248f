use Rattle.std.proofs.Common.{◌∙◌, ◌<◌, arith, sym, rules}
use Rattle.span.specs.Log.{Holds}
use Rattle.span.specs.Marks.{marks_of}
use Rattle.span.proofs.Keeping.{kept-Holds}
use Rattle.span.proofs.LegalLogs.{Holds-some, puts_of-le}
use Rattle.span.proofs.LiveSlots.{few-marks, first-live, none-live}
use Rattle.span.proofs.Next.{HoldsNoneFrom-members, IsFirstHeld-lowest, no_member}
use Rattle.bitmap.specs.declared.bits.TheConstants.{SLOTS}
use Rattle.span.proofs.span.Span.first_from.Goals as goal

pub first_live-requires : goal.first_live-requires
first_live-requires g c = few-marks c.self.inside.class c.self.inside.marks c.self.invariant.fit

pub returns-then-self-eq0-clause-first : goal.returns-then-self-eq0-clause-first
returns-then-self-eq0-clause-first g c =
    let inside = c.self.inside in
    rw (← c.self.view_is) (HoldsNoneFrom-members (g.L.Log.changes inside.log) c.args.slot
    (λ slot above. no_member _ slot (sym c.self.invariant.count_is ∙ c.if-self-eq0.true)))

pub returns-in_default-clause-first : goal.returns-in_default-clause-first
returns-in_default-clause-first g c =
    let inside = c.self.inside in
    rw (← c.self.view_is) (HoldsNoneFrom-members (g.L.Log.changes inside.log) c.args.slot
    (none-live inside.class inside.gens (g.L.Log.changes inside.log) (marks_of inside.marks) c.self.invariant.of_class c.self.invariant.follows c.args.slot c.in_default.ensures))

pub generation_of-generation-requires-clause-within : goal.generation_of-generation-requires-clause-within
generation_of-generation-requires-clause-within g c = c.in-Some.ensures.within

pub generation_of-generation-requires-clause-in_range : goal.generation_of-generation-requires-clause-in_range
generation_of-generation-requires-clause-in_range g c = search (rules, few-marks, puts_of-le)

pub invariant_of-result : goal.invariant_of-result
invariant_of-result g c =
    let inside = c.self.inside in
    let log = g.L.Log.changes inside.log in
    let small : c.in-Some.slot < SLOTS = omega (arith, c.in-Some.ensures.within, few-marks inside.class inside.marks c.self.invariant.fit) in
    let held : Holds log c.in-Some.slot c.generation_of-generation.result =
    kept-Holds inside.gens log (marks_of inside.marks) c.self.invariant.follows c.in-Some.slot small c.generation_of-generation.result
    (omega (arith, c.in-Some.ensures.live, c.generation_of-generation.ensures)) in
    record { generation_in_range = Holds-some inside.gens log c.in-Some.slot c.generation_of-generation.result c.self.invariant.follows.legal held }

pub returns-clause-first : goal.returns-clause-first
returns-clause-first g c =
    let inside = c.self.inside in
    let log = g.L.Log.changes inside.log in
    let small : c.in-Some.slot < SLOTS = omega (arith, c.in-Some.ensures.within, few-marks inside.class inside.marks c.self.invariant.fit) in
    let held : Holds log c.in-Some.slot c.generation_of-generation.result =
    kept-Holds inside.gens log (marks_of inside.marks) c.self.invariant.follows c.in-Some.slot small c.generation_of-generation.result
    (omega (arith, c.in-Some.ensures.live, c.generation_of-generation.ensures)) in
    rw (← c.self.view_is) (IsFirstHeld-lowest inside.gens log c.args.slot _ c.self.invariant.follows.legal
    (first-live inside.class inside.gens log (marks_of inside.marks) c.self.invariant.of_class c.self.invariant.follows c.args.slot c.in-Some.slot small c.in-Some.ensures) held)
