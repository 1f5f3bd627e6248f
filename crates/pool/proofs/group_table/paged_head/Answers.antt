use Rattle.std.proofs.Common.{◌≡◌, ◌∙◌, Some, ap, length, refl, sym}
use Rattle.std.specs.FinMap as table
use Rattle.std.proofs.lemmas.Option.{slice_get_read}
use Rattle.pool.proofs.NotedRanks.{HasNoPageAt-unpaged}
use Rattle.pool.proofs.RankedGroups.{AreApart-found, HasRankAt-found, HasRankAt-row, found_within}
use Rattle.pool.proofs.group_table.paged_head.Goals as goal

pub returns-in_default : goal.returns-in_default
returns-in_default g c = λ group its.
    absurd (let e = sym c.in_default.is ∙ c.get.ensures ∙ ap (table.get c.args.places.now.entries) (sym its.2) ∙ c.requires.known its.0 group its.1 in cc)

pub bounds-row-place : goal.bounds-row-place
bounds-row-place g c = found_within c.args.row.now (table.get c.args.places.now.entries) c.requires c.args.rank c.in-Some.place (sym c.get.ensures ∙ c.in-Some.is)

pub returns-then-not-is_paged : goal.returns-then-not-is_paged
returns-then-not-is_paged g c =
    let row = c.args.row.now in
    let group = c.index-row-place.result in
    let is : table.get c.args.places.now.entries c.args.rank ≡ Some c.in-Some.place = sym c.get.ensures ∙ c.in-Some.is in
    let low = found_within row (table.get c.args.places.now.entries) c.requires c.args.rank c.in-Some.place is in
    let there = slice_get_read row (length row) c.in-Some.place group refl low c.index-row-place.is in
    HasNoPageAt-unpaged row (AreApart-found row (table.get c.args.places.now.entries) c.requires) c.args.rank group
    (HasRankAt-row row (table.get c.args.places.now.entries) c.requires c.args.rank c.in-Some.place group is there) (sym c.is_paged.ensures ∙ c.if-not-is_paged.true)

pub returns : goal.returns
returns g c =
    let row = c.args.row.now in
    let group = c.index-row-place.result in
    let is : table.get c.args.places.now.entries c.args.rank ≡ Some c.in-Some.place = sym c.get.ensures ∙ c.in-Some.is in
    let low = found_within row (table.get c.args.places.now.entries) c.requires c.args.rank c.in-Some.place is in
    let there = slice_get_read row (length row) c.in-Some.place group refl low c.index-row-place.is in
    (group, HasRankAt-found row (table.get c.args.places.now.entries) c.requires c.args.rank c.in-Some.place group is there, sym c.is_paged.ensures ∙ c.if-not-is_paged.false, sym c.head_id.ensures)
