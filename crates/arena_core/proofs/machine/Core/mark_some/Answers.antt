use Rattle.std.proofs.Common.{◌≡◌, ◌&&◌, false, is_some, Some, ap, length, map, map-id, subst, sym, ◌∙◌, refl}
use Rattle.std.proofs.lemmas.List.{length-map, with_items_is}
use Rattle.std.proofs.option.Match.{None-if_not_some}
use Rattle.std.specs.Vec.{with_items}
use Rattle.shard.specs.Group.{GroupState}
use Rattle.shard.specs.State.{ShardState}
use Rattle.marks.specs.Closings.{closed_onto, closing}
use Rattle.arena_core.specs.Kept.{shards_of, state_of}
use Rattle.arena_core.specs.Made.{all_shards}
use Rattle.marks.specs.Seen.{AreDistinct, IsLargest}
use Rattle.marks.specs.declared.sight.Sight.TheVariants.{Sparsest}
use Rattle.marks.specs.Plans.{plans_onto}
use Rattle.arena_core.specs.Sound.{IsSound}
use Rattle.arena_core.specs.State.{shown}
use Rattle.arena_core.specs.Step.{Marks}
use Rattle.arena_core.specs.declared.machine.Core.TheInside.{Inside}
use Rattle.marks.specs.Opening.{IsRefused}
use Rattle.marks.proofs.Closings.{closing-open}
use Rattle.arena_core.proofs.FieldsKept.{IsKept-mapped, IsKept-unchanged}
use Rattle.arena_core.proofs.MadeMarked.{AreDistinct-made, AreOpen-made, IsLargest-all}
use Rattle.arena_core.proofs.MarkSteps.{AreOpen-none, IsSound-marked, marked, shown-marked, state_of-mapped}
use Rattle.arena_core.proofs.Distinct.{AreDistinct-sound}
use Rattle.arena_core.proofs.machine.Core.mark_some.Goals as goal

-- no span stands twice, so no group does
pub mark_refusal-requires : goal.mark_refusal-requires
mark_refusal-requires g c = λ doubled.
    (subst (IsRefused Sparsest c.self.inside.pool (map (λ (shard : ShardState). shard) c.deref_mut.result.now)) doubled (c.in-Err.ensures {u = tt}).exact.0).2
    (subst (AreDistinct c.self.inside.pool) (sym (map-id c.deref_mut.result.now ∙ c.deref_mut.ensures.value)) (AreDistinct-made c.self.inside.limits c.self.inside.shards.items c.self.inside.pool (AreDistinct-sound (state_of c.self.inside) c.self.invariant.sound)))

pub invariant_of-self : goal.invariant_of-self
invariant_of-self g c =
    let refused = c.in-Err.ensures {u = tt} in
    IsKept-unchanged c.self.inside (record c.self.inside {
      shards = with_items c.self.inside.shards c.mark_in.new.shards;
      pool = c.mark_in.new.pool;
    }) c.self.invariant refl refl refl refl refl
    (ap (all_shards c.self.inside.limits) (with_items_is c.self.inside.shards c.mark_in.new.shards (ap length refused.err_shards ∙ c.deref_mut.ensures.len) ∙ refused.err_shards ∙ c.deref_mut.ensures.value)) refused.exact.1

-- the shards that are lent are the core's
lent : (g : _) (c : goal.After-open g) → map (λ (shard : ShardState). shard) c.deref_mut.result.now ≡ c.self.inside.shards.items
lent g c = map-id c.deref_mut.result.now ∙ c.deref_mut.ensures.value

largest : (g : _) (c : goal.After-open g) → IsLargest Sparsest c.self.inside.pool (shards_of c.self.inside) c.in-Ok.certificate
largest g c =
    IsLargest-all c.self.inside.limits c.self.inside.shards.items c.self.inside.pool c.in-Ok.certificate
    (subst (λ shards. IsLargest Sparsest c.self.inside.pool shards c.in-Ok.certificate) (lent g c) ((c.in-Ok.ensures {u = tt}).exact.largest))

no_plan : (g : _) (c : goal.After-open g) → c.self.inside.pool.has_plan ≡ false
no_plan g c = (c.in-Ok.ensures {u = tt}).exact.no_plan

-- the fields after the mark
abbrev fields : (g : _) → goal.After-open g → Inside g.row.L.Denot
fields g c = record c.self.inside { shards = with_items c.self.inside.shards c.mark_in.new.shards; pool = c.mark_in.new.pool; plan = c.open.new.self }

shards_are : (g : _) (c : goal.After-open g) → c.mark_in.new.shards ≡ map (closed_onto c.in-Ok.certificate.plan) c.self.inside.shards.items
shards_are g c =
    sym (map-id c.mark_in.new.shards) ∙ (c.in-Ok.ensures {u = tt}).exact.closed ∙ ap (map (closing c.in-Ok.certificate.plan)) (lent g c)
    ∙ closing-open c.in-Ok.certificate.plan c.self.inside.shards.items
    (AreOpen-made c.self.inside.limits c.self.inside.shards.items (AreOpen-none (state_of c.self.inside) c.self.invariant.sound
    (None-if_not_some c.self.inside.plan (sym c.self.invariant.sound.plan.told ∙ no_plan g c))))

items_are : (g : _) (c : goal.After-open g) → (fields g c).shards.items ≡ map (closed_onto c.in-Ok.certificate.plan) c.self.inside.shards.items
items_are g c =
    with_items_is c.self.inside.shards c.mark_in.new.shards
    (ap length (shards_are g c) ∙ length-map c.self.inside.shards.items (closed_onto c.in-Ok.certificate.plan) ∙ ap length (sym c.deref_mut.ensures.value)
    ∙ c.deref_mut.ensures.len) ∙ shards_are g c

is_marked : (g : _) (c : goal.After-open g) → state_of (fields g c) ≡ marked (state_of c.self.inside) c.self.invariant.sound c.in-Ok.certificate (largest g c)
is_marked g c =
    state_of-mapped c.self.inside (fields g c) (closed_onto c.in-Ok.certificate.plan) (λ number. refl) refl refl refl (items_are g c)
    ∙ (λ i. record (state_of c.self.inside) {
      shards = map (closed_onto c.in-Ok.certificate.plan) (shards_of c.self.inside);
      pool = (c.in-Ok.ensures {u = tt}).exact.opened i;
      plan = (c.open.ensures ∙ c.begin.ensures ∙ ap (λ pairs. Some (record { pairs = pairs; done = 0 })) c.pairs.ensures) i;
    })

kept : (g : _) (c : goal.After-open g) → IsSound (state_of (fields g c))
kept g c = subst IsSound (sym (is_marked g c)) (IsSound-marked (state_of c.self.inside) c.self.invariant.sound c.in-Ok.certificate (largest g c))

pub invariant_of-self-2 : goal.invariant_of-self-2
invariant_of-self-2 g c = IsKept-mapped c.self.inside (fields g c) c.self.invariant refl refl
    (λ (group : GroupState). is_some group.page && plans_onto c.in-Ok.certificate.plan group.head.id) (items_are g c) (kept g c)

pub returns-clause-exact : goal.returns-clause-exact
returns-clause-exact g c =
    let marks : Marks Sparsest (state_of c.self.inside) c.in-Ok.certificate (state_of (fields g c)) = record {
      no_plan = None-if_not_some c.self.inside.plan (sym c.self.invariant.sound.plan.told ∙ no_plan g c);
      largest = largest g c;
      after = is_marked g c;
    } in
    subst (λ core. Marks Sparsest core c.in-Ok.certificate (state_of (fields g c))) c.self.view_is marks

pub returns-clause-same : goal.returns-clause-same
returns-clause-same g c = ap shown (is_marked g c) ∙ shown-marked (state_of c.self.inside) c.self.invariant.sound c.in-Ok.certificate (largest g c) ∙ ap shown c.self.view_is

pub returns-clause-sound : goal.returns-clause-sound
returns-clause-sound g c = kept g c
