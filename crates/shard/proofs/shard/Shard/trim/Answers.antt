use Rattle.std.proofs.Common.{◌≤◌, ◌-◌, ◌∙◌, ap, arith, filter, length, refl, take_all}
use Rattle.shard.specs.Shown.{shown}
use Rattle.shard.specs.Trims.{is_idle, trimmed}
use Rattle.shard.proofs.ChangedBelow.{changed_below-all}
use Rattle.shard.proofs.TrimmedShard.{IsKept-trimmed, shown-trimmed}
use Rattle.shard.proofs.shard.Shard.trim.Goals as goal

pub invariant_of-self : goal.invariant_of-self
invariant_of-self g c = IsKept-trimmed c.self.inside c.self.invariant 0 (c.len-end.result - 0) c.trim_each.new.groups c.trim_each.ensures.items c.trim_each.ensures.capacity

pub returns-clause-trims : goal.returns-clause-trims
returns-clause-trims g c =
    let groups = c.self.inside.groups.items in
    let count = c.len-end.result - 0 in
    let long : length groups ≤ count = omega (arith, c.len-end.ensures) in
    record {
      after = rw (← c.self.view_is, c.trim_each.ensures.items, changed_below-all trimmed count groups long) refl;
      count_is = rw (← c.self.view_is) (c.trim_each.ensures.pages ∙ ap (λ gs. length (filter is_idle gs)) (take_all count groups long));
    }

pub returns-clause-plain : goal.returns-clause-plain
returns-clause-plain g c = shown-trimmed c.self.inside c.self.invariant 0 (c.len-end.result - 0) c.trim_each.new.groups c.trim_each.ensures.items ∙ ap shown c.self.view_is

pub returns-clause-sound : goal.returns-clause-sound
returns-clause-sound g c = (invariant_of-self g c).sound
