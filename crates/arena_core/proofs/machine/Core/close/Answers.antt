use Rattle.std.proofs.Common.{◌≡◌, false, is_some, ap, length, map, refl, subst, sym, ◌∙◌}
use Rattle.std.proofs.lemmas.List.{length-map, with_items_is}
use Rattle.std.specs.Vec.{with_items}
use Rattle.marks.specs.Closings.{reopened}
use Rattle.arena_core.specs.Kept.{shards_of, state_of}
use Rattle.arena_core.specs.Sound.{IsSound}
use Rattle.arena_core.specs.State.{CoreState, shown}
use Rattle.arena_core.specs.Step.{with_plan_closed}
use Rattle.arena_core.specs.declared.machine.Core.TheInside.{Inside}
use Rattle.arena_core.proofs.FieldsKept.{IsKept-mapped}
use Rattle.arena_core.proofs.MarkSteps.{IsSound-closed, shown-closed, state_of-mapped}
use Rattle.arena_core.proofs.machine.Core.close.Goals as goal

-- the fields after the close
abbrev fields : (g : _) → goal.After-end g → Inside g.row.L.Denot
fields g c = record c.self.inside { shards = with_items c.self.inside.shards c.reopen_all.new.shards; pool = c.plan_closed.new.self; plan = c.end.new.self }

items_are : (g : _) (c : goal.After-end g) → (fields g c).shards.items ≡ map reopened c.self.inside.shards.items
items_are g c =
    with_items_is c.self.inside.shards c.reopen_all.new.shards (ap length c.reopen_all.ensures ∙ length-map c.deref_mut.result.now reopened ∙ c.deref_mut.ensures.len)
    ∙ c.reopen_all.ensures ∙ ap (map reopened) c.deref_mut.ensures.value

is_closed : (g : _) (c : goal.After-end g) → state_of (fields g c) ≡ with_plan_closed (state_of c.self.inside)
is_closed g c =
    state_of-mapped c.self.inside (fields g c) reopened (λ number. refl) refl refl refl (items_are g c)
    ∙ (λ i. record (state_of c.self.inside) { shards = map reopened (shards_of c.self.inside); pool = c.plan_closed.ensures.closed i; plan = c.end.ensures i })

kept : (g : _) (c : goal.After-end g) → IsSound (state_of (fields g c))
kept g c = subst IsSound (sym (is_closed g c)) (IsSound-closed (state_of c.self.inside) c.self.invariant.sound)

pub invariant_of-self : goal.invariant_of-self
invariant_of-self g c = IsKept-mapped c.self.inside (fields g c) c.self.invariant refl refl (λ group. false) (items_are g c) (kept g c)

pub returns-clause-same : goal.returns-clause-same
returns-clause-same g c = ap shown (is_closed g c) ∙ shown-closed (state_of c.self.inside) c.self.invariant.sound ∙ ap shown c.self.view_is

pub returns-clause-sound : goal.returns-clause-sound
returns-clause-sound g c = kept g c

pub returns-clause-exact : goal.returns-clause-exact
returns-clause-exact g c = (
  ap (λ (s : CoreState). is_some s.plan) (sym c.self.view_is) ∙ sym c.is_open.ensures ∙ c.if-not-is_open.false,
  is_closed g c ∙ ap with_plan_closed c.self.view_is,
)
