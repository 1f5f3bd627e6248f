use Rattle.std.proofs.Common.{◌∙◌}
use Rattle.span.specs.Marks.{marks_of}
use Rattle.span.proofs.Keeping.{worn-are}
use Rattle.span.proofs.LiveSlots.{few-marks}
use Rattle.span.proofs.span.Span.worn.Goals as goal

pub slots_at-requires-clause-few : goal.slots_at-requires-clause-few
slots_at-requires-clause-few g c = few-marks c.self.inside.class c.self.inside.marks c.self.invariant.fit

pub returns : goal.returns
returns g c =
    let inside = c.self.inside in
    rw (← c.self.view_is)
    (c.slots_at.ensures ∙ worn-are inside.gens (g.L.Log.changes inside.log) (marks_of inside.marks) c.self.invariant.follows)
