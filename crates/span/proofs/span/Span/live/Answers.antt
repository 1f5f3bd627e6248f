use Rattle.std.proofs.Common.{rules}
use Rattle.span.proofs.LiveSlots.{few-marks, live-are, live-none}
use Rattle.span.proofs.span.Span.live.Goals as goal

pub live-requires : goal.live-requires
live-requires g c = few-marks c.self.inside.class c.self.inside.marks c.self.invariant.fit

pub returns : goal.returns
returns g c = search (rules, live-are)

pub returns-then-self-eq0 : goal.returns-then-self-eq0
returns-then-self-eq0 g c = search (rules, live-none)
