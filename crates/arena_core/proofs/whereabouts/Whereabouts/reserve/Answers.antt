use Rattle.arena_core.proofs.whereabouts.Whereabouts.reserve.Goals as goal

pub returns-in_err-reserve-clause-entries : goal.returns-in_err-reserve-clause-entries
returns-in_err-reserve-clause-entries c = rw (← c.self.view_is) c.reserve.ensures.entries

pub returns-clause-entries : goal.returns-clause-entries
returns-clause-entries c = rw (← c.self.view_is) c.reserve.ensures.entries
