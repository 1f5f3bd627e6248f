use Rattle.std.proofs.Common.{◌≡◌, ap, subst, sym, ◌∙◌}
use Rattle.arena_core.specs.Made.{all_shards}
use Rattle.arena_core.specs.Moved.{KnowsMoved}
use Rattle.arena_core.specs.Rings.{new_rings}
use Rattle.arena_core.specs.Sound.{IsSound}
use Rattle.arena_core.specs.State.{CoreState, new_core, shown}
use Rattle.arena_core.proofs.FieldsKept.{KnowsMoved-new}
use Rattle.arena_core.proofs.Start.{HasSoundGroups-new_core, IsSound-new_core, new_core-fields, shown-new_core}
use Rattle.arena_core.proofs.machine.Core.with_limits.Goals as goal
use Rattle.arena_core.proofs.machine.Core.with_limits.Goals.{After-new-4}
use Rattle.arena_core.proofs.Fields.{core_of}

-- the fields show as a new core of these numbers
made : (g : _) (c : After-new-4 g)
    → core_of c.args.limits (all_shards c.args.limits c.new.result.items) c.with_log.result c.new-2.result c.new-rings.result c.new-4.result.items ≡ new_core c.args.limits
made g c = new_core-fields c.args.limits c.new.result.items c.with_log.result c.new-2.result c.new-rings.result c.new-4.result.items
    c.new.ensures.items c.with_log.ensures.empty c.new-2.ensures
    (c.new-rings.ensures ∙ (λ i. new_rings (c.shards.ensures.shards i) (c.ring_capacity.ensures.ring_capacity i)))
    c.new-4.ensures

sound : (g : _) (c : After-new-4 g) → IsSound (new_core c.args.limits)
sound g c = IsSound-new_core c.args.limits (HasSoundGroups-new_core c.args.limits c.shards.ensures.within)

pub invariant_of-result : goal.invariant_of-result
invariant_of-result g c = record {
  sound = subst IsSound (sym (made g c)) (sound g c);
  moved = subst (λ (s : CoreState). KnowsMoved s.shards c.new-3.result.entries) (sym (made g c)) (KnowsMoved-new c.args.limits c.new-3.result.entries);
}

pub returns-clause-core : goal.returns-clause-core
returns-clause-core g c = made g c

pub returns-clause-empty : goal.returns-clause-empty
returns-clause-empty g c = ap shown (made g c) ∙ shown-new_core c.args.limits

pub returns-clause-sound : goal.returns-clause-sound
returns-clause-sound g c = subst IsSound (sym (made g c)) (sound g c)
