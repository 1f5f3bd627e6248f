use Rattle.std.proofs.Common.{◌∙◌, sym}
use Rattle.arena_core.proofs.Entries.{with_taken-abroad, with_taken-home}
use Rattle.arena_core.proofs.whereabouts.Whereabouts.set.Goals as goal

pub returns-then-id-from-clause-entries : goal.returns-then-id-from-clause-entries
returns-then-id-from-clause-entries c =
    rw (← c.self.view_is) (c.remove.ensures.entries ∙ rw (c.rank.ensures.value) (sym (with_taken-home _ c.args.id c.args.number (c.if-id-from.true ∙ c.from.ensures))))

pub returns-else-id-from-clause-entries : goal.returns-else-id-from-clause-entries
returns-else-id-from-clause-entries c =
    rw (← c.self.view_is) (c.insert_reserved.ensures.entries
    ∙ rw (c.rank-else-id-from.ensures.value) (sym (with_taken-abroad _ c.args.id c.args.number (λ e. c.if-id-from.false (e ∙ sym c.from.ensures)))))
