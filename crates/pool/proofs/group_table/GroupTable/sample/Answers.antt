use Rattle.std.proofs.Common.{◌≡◌, ◌∙◌, List, ap, arith, length, subst}
use Rattle.std.specs.FinMap as table
use Rattle.pool.specs.Groups.{GroupsState}
use Rattle.pool.specs.Ranked.{in_order}
use Rattle.pool.specs.Samples.{Samples}
use Rattle.pool.specs.State.{PooledState}
use Rattle.shard.specs.Spaced.{spaced}
use Rattle.groups.specs.Group.{live_in, paged_in}
use Rattle.pool.proofs.HeadPlaces.{at_most_ids}
use Rattle.pool.proofs.RankedGroups.{AreUp-found, length-row}
use Rattle.pool.proofs.Walked.{permuted}
use Rattle.pool.proofs.group_table.GroupTable.sample.Goals as goal

rows : (g : _) (c : goal.After-sample g) → length c.args.self.now.groups ≡ length c.as_slice.result.now
rows g c = omega (
  arith,
  ap (λ (gs : List PooledState). length gs) c.as_slice.ensures.value,
  length-row c.self.inside.row.items,
  ap (λ (s : GroupsState). length s.groups) c.self.view_is,
)

pub sample-requires : goal.sample-requires
sample-requires g c = omega (
  arith,
  ap (λ (gs : List PooledState). length gs) c.as_slice.ensures.value,
  length-row c.self.inside.row.items,
  at_most_ids (in_order c.self.inside.row.items) (AreUp-found c.self.inside.row.items (table.get c.self.inside.places.entries) c.self.invariant.kept.found),
)

pub returns-clause-samples : goal.returns-clause-samples
returns-clause-samples g c =
    let row = c.self.inside.row.items in
    let its = c.as_slice.ensures.value in
    subst (λ (s : GroupsState). Samples c.args.gap s.groups c.sample.result) c.self.view_is (record {
      standing = row;
      each = permuted row;
      pages = c.sample.ensures.pages ∙ ap (λ (gs : List PooledState). length (paged_in (spaced c.args.gap gs))) its;
      live = c.sample.ensures.live ∙ ap (λ (gs : List PooledState). live_in (paged_in (spaced c.args.gap gs))) its;
    })

pub returns-clause-few : goal.returns-clause-few
returns-clause-few g c = omega (arith, c.sample.ensures.few, rows g c)

pub returns-clause-few_live : goal.returns-clause-few_live
returns-clause-few_live g c = omega (arith, c.sample.ensures.few_live, rows g c)
