use Rattle.std.proofs.Common.{◌∙◌, arith, refl, subst, sym}
use Rattle.std.specs.FinMap as table
use Rattle.std.proofs.lemmas.Option.{slice_get_read}
use Rattle.span.specs.Ids.{rank}
use Rattle.groups.specs.Group.{HasNoHead}
use Rattle.pool.specs.Groups.{GroupsState, HasHeadAt}
use Rattle.pool.proofs.RankedGroups.{HasHeadAt-found, HasNoHead-found, found_within}
use Rattle.pool.proofs.group_table.GroupTable.get.Goals as goal

pub returns-in_default : goal.returns-in_default
returns-in_default g c = subst (λ (s : GroupsState). HasNoHead s.groups c.args.head) c.self.view_is
    (HasNoHead-found c.self.inside.row.items (table.get c.self.inside.places.entries) c.self.invariant.kept.found c.args.head (sym c.place_of.ensures ∙ c.in_default.is))

pub index-requires : goal.index-requires
index-requires g c = omega (
  arith,
  found_within c.self.inside.row.items (table.get c.self.inside.places.entries) c.self.invariant.kept.found (rank c.args.head) c.in-Some.place (sym c.place_of.ensures ∙ c.in-Some.is),
  c.self.inside.row.ok.0,
)

pub returns : goal.returns
returns g c =
    let is = sym c.place_of.ensures ∙ c.in-Some.is in
    let low = found_within c.self.inside.row.items (table.get c.self.inside.places.entries) c.self.invariant.kept.found (rank c.args.head) c.in-Some.place is in
    let there = slice_get_read c.self.inside.row.items _ c.in-Some.place c.index.result.now refl low c.index.ensures in
    subst (λ (s : GroupsState). HasHeadAt s.groups c.args.head c.index.result.now) c.self.view_is
    (HasHeadAt-found c.self.inside.row.items (table.get c.self.inside.places.entries) c.self.invariant.kept.found c.args.head c.in-Some.place c.index.result.now is there)
