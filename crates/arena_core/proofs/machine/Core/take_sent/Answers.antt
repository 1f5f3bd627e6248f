use Rattle.std.proofs.Common.{subst, ap}
use Rattle.arena_core.specs.Kept.{state_of}
use Rattle.arena_core.specs.State.{with_rings}
use Rattle.arena_core.proofs.RingEvents.{IsTaken, IsTaken-take}
use Rattle.arena_core.proofs.machine.Core.take_sent.Goals as goal

taken : (g : _) (c : goal.After-take g) → IsTaken c.args.self.now c.args.worker c.args.shard c.take.result (state_of (record c.self.inside { rings = c.take.new.self }))
taken g c =
    subst (λ old. IsTaken old c.args.worker c.args.shard c.take.result (state_of (record c.self.inside { rings = c.take.new.self }))) c.self.view_is
    (IsTaken-take (state_of c.self.inside) c.self.invariant.sound c.args.worker c.args.shard c.take.result c.take.new.self c.take.ensures)

pub invariant_of-self : goal.invariant_of-self
invariant_of-self g c = record { sound = (taken g c).kept; moved = c.self.invariant.moved }

pub returns-clause-taken : goal.returns-clause-taken
returns-clause-taken g c = (taken g c).taken

pub returns-clause-rest : goal.returns-clause-rest
returns-clause-rest g c = ap (λ old. with_rings old c.take.new.self) c.self.view_is

pub returns-clause-sound : goal.returns-clause-sound
returns-clause-sound g c = (taken g c).kept
