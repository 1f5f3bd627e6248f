use Rattle.std.proofs.Common.{◌≡◌, ◌-◌, ◌∙◌, ap, arith, drop, filter, length, take}
use Rattle.shard.specs.Kept.{state_of}
use Rattle.shard.specs.Shown.{shown}
use Rattle.shard.specs.Trims.{changed_from, is_idle, trimmed}
use Rattle.shard.proofs.TrimmedShard.{IsKept-trimmed, shown-trimmed}
use Rattle.shard.proofs.shard.Shard.trim_some.Goals as goal

pub invariant_of-self : goal.invariant_of-self
invariant_of-self g c = IsKept-trimmed c.self.inside c.self.invariant c.args.from (c.min-end.result - c.args.from) c.trim_each-pages.new.groups c.trim_each-pages.ensures.items c.trim_each-pages.ensures.capacity

pub returns-clause-trims : goal.returns-clause-trims
returns-clause-trims g c =
    let groups = c.self.inside.groups.items in
    let looked : c.min-end.result - c.args.from ≡ c.saturating_sub.result = omega arith in
    rw (← c.self.view_is) (record {
      groups_is = omega (arith, c.len.ensures);
      pages_is = c.trim_each-pages.ensures.pages ∙ ap (λ n. length (filter is_idle (take n (drop c.args.from groups)))) looked;
      after = ap (λ items. record (state_of c.self.inside) { groups = items }) (c.trim_each-pages.ensures.items ∙ ap (λ n. changed_from trimmed c.args.from n groups) looked);
    })

pub returns-clause-plain : goal.returns-clause-plain
returns-clause-plain g c = shown-trimmed c.self.inside c.self.invariant c.args.from (c.min-end.result - c.args.from) c.trim_each-pages.new.groups c.trim_each-pages.ensures.items ∙ ap shown c.self.view_is

pub returns-clause-sound : goal.returns-clause-sound
returns-clause-sound g c = (invariant_of-self g c).sound
