use Rattle.std.proofs.Common.{subst}
use Rattle.arena_core.specs.Kept.{state_of}
use Rattle.arena_core.proofs.RingEvents.{IsSent, IsSent-later}
use Rattle.arena_core.proofs.machine.Core.later.Goals as goal

sent : (g : _) (c : goal.After-send g) → IsSent c.args.self.now c.args.worker c.args.key c.send.result (state_of (record c.self.inside { rings = c.send.new.self }))
sent g c =
    subst (λ old. IsSent old c.args.worker c.args.key c.send.result (state_of (record c.self.inside { rings = c.send.new.self }))) c.self.view_is
    (IsSent-later (state_of c.self.inside) c.self.invariant.sound c.args.worker c.args.key c.send.result c.send.new.self c.send.ensures)

pub invariant_of-self : goal.invariant_of-self
invariant_of-self g c = record { sound = (sent g c).kept; moved = c.self.invariant.moved }

pub returns-clause-exact : goal.returns-clause-exact
returns-clause-exact g c = (sent g c).exact

pub returns-clause-plain : goal.returns-clause-plain
returns-clause-plain g c = (sent g c).plain

pub returns-clause-sound : goal.returns-clause-sound
returns-clause-sound g c = (sent g c).kept
