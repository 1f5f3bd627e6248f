use Rattle.std.proofs.Common.{◌∙◌, ap, subst, sym, ℕ}
use Rattle.groups.specs.LateTable.{TableState, entries_of}
use Rattle.arena_core.specs.Moved.{KeepsStanding, WhereaboutsState}
use Rattle.arena_core.proofs.Entries.{KeepsStanding-none, KeepsStanding-same}
use Rattle.arena_core.proofs.whereabouts.Whereabouts.forget.Goals as goal

pub returns-in_default : goal.returns-in_default
returns-in_default g c =
    subst (λ (w : WhereaboutsState). KeepsStanding c.args.shards.now.items w.entries c.take.new.self.entries) c.self.view_is
    (KeepsStanding-none c.args.shards.now.items c.self.inside.shards.entries c.take.new.self.entries
    (ap (λ (t : TableState ℕ). t.entries) c.in_default.ensures.taken) (ap (λ (t : TableState ℕ). t.entries) c.take.ensures.left))

pub returns : goal.returns
returns g c =
    subst (λ (w : WhereaboutsState). KeepsStanding c.args.shards.now.items w.entries c.give_back.new.self.entries) c.self.view_is
    (KeepsStanding-same c.args.shards.now.items c.self.inside.shards.entries _ _ c.give_back.new.self.entries
    (ap (λ (t : TableState ℕ). t.entries) c.in-Some.ensures.taken ∙ ap entries_of (sym c.deref_mut.ensures.value))
    (c.give_back.ensures.entries ∙ ap (λ (t : TableState ℕ). t.entries) c.put_back.ensures)
    c.keep_standing.ensures)
