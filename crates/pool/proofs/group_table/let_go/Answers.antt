use Rattle.std.proofs.Common.{◌≡◌, ◌∙◌, ◌<◌, None, Some, ap, arith, length, refl, slice_get, subst, sym, IsSome}
use Rattle.std.specs.FinMap as table
use Rattle.std.proofs.lemmas.Option.{slice_get_read}
use Rattle.span.specs.Ids.{rank}
use Rattle.groups.proofs.Maps.{Sets}
use Rattle.groups.proofs.Tables.{Sets-insert, Sets-remove}
use Rattle.pool.proofs.RankedGroups.{AreFound-last, AreFound-other, LetsGo-swap, its, lower-swap, mid-last}
use Rattle.pool.specs.Ranked.{head_rank}
use Rattle.pool.proofs.group_table.let_go.Goals as goal
use Rattle.pool.proofs.group_table.let_go.Goals.{After-remove, After-swap_remove-group}

here : (g : _) (c : After-swap_remove-group g) → slice_get c.args.groups.now.items c.args.place ≡ Some c.swap_remove-group.result
here g c = slice_get_read c.args.groups.now.items _ c.args.place c.swap_remove-group.result refl c.requires.within c.swap_remove-group.ensures.value

strikes : (g : _) (c : After-remove g) → Sets (table.get c.args.places.now.entries) (table.get c.remove.new.self.entries) (head_rank c.swap_remove-group.result) None
strikes g c = its (table.get c.args.places.now.entries) (table.get c.remove.new.self.entries) None None c.rank.result _
    (c.rank.ensures.value ∙ ap rank c.head_id.ensures) refl (Sets-remove c.args.places.now.entries c.remove.new.self.entries c.rank.result c.remove.ensures.entries)

pub write_over-requires : goal.write_over-requires
write_over-requires g c =
    let low : c.args.place < length c.swap_remove-group.new.self.items = omega (arith, c.if-place-len.true, c.len.ensures, c.swap_remove-group.new.self.ok.0) in
    let there = slice_get_read c.swap_remove-group.new.self.items _ c.args.place c.index.result.now refl low c.index.ensures in
    let known = mid-last c.args.groups.now.items
    (table.get c.args.places.now.entries) c.requires.found c.args.place c.swap_remove-group.result (here g (goal.at.write_over-requires g c).After-swap_remove-group) c.swap_remove-group.new.self.items
    c.swap_remove-group.ensures.items (table.get c.remove.new.self.entries) (strikes g (goal.at.write_over-requires g c).After-remove) low c.index.result.now there in
    subst IsSome (sym (ap (table.get c.remove.new.self.entries) (c.rank-then-place-len.ensures.value ∙ ap rank c.head_id-then-place-len.ensures) ∙ known)) refl

pub returns-then-place-len-clause-gone : goal.returns-then-place-len-clause-gone
returns-then-place-len-clause-gone g c = here g (goal.at.returns-then-place-len-clause-gone g c).After-swap_remove-group

pub returns-then-place-len-clause-left : goal.returns-then-place-len-clause-left
returns-then-place-len-clause-left g c =
    LetsGo-swap c.args.groups.now.items
    (table.get c.args.places.now.entries) c.requires.found c.args.place c.swap_remove-group.result (here g (goal.at.returns-then-place-len-clause-left g c).After-swap_remove-group) c.swap_remove-group.new.self.items
    c.swap_remove-group.ensures.items

pub returns-then-place-len-clause-found : goal.returns-then-place-len-clause-found
returns-then-place-len-clause-found g c =
    let low : c.args.place < length c.swap_remove-group.new.self.items = omega (arith, c.if-place-len.true, c.len.ensures, c.swap_remove-group.new.self.ok.0) in
    let there = slice_get_read c.swap_remove-group.new.self.items _ c.args.place c.index.result.now refl low c.index.ensures in
    let moves = its (table.get c.remove.new.self.entries) (table.get c.write_over.new.self.entries) (Some c.args.place)
    (Some c.args.place) c.rank-then-place-len.result _ (c.rank-then-place-len.ensures.value ∙ ap rank c.head_id-then-place-len.ensures) refl
    (Sets-insert c.remove.new.self.entries c.write_over.new.self.entries c.rank-then-place-len.result c.args.place c.write_over.ensures.entries) in
    AreFound-other c.args.groups.now.items
    (table.get c.args.places.now.entries) c.requires.found c.args.place c.swap_remove-group.result (here g (goal.at.returns-then-place-len-clause-found g c).After-swap_remove-group) c.swap_remove-group.new.self.items
    c.swap_remove-group.ensures.items (table.get c.remove.new.self.entries) (strikes g (goal.at.returns-then-place-len-clause-found g c).After-remove) low c.index.result.now there
    (table.get c.write_over.new.self.entries) moves

pub returns-else-place-len-clause-gone : goal.returns-else-place-len-clause-gone
returns-else-place-len-clause-gone g c = here g (goal.at.returns-else-place-len-clause-gone g c).After-swap_remove-group

pub returns-else-place-len-clause-left : goal.returns-else-place-len-clause-left
returns-else-place-len-clause-left g c =
    LetsGo-swap c.args.groups.now.items
    (table.get c.args.places.now.entries) c.requires.found c.args.place c.swap_remove-group.result (here g (goal.at.returns-else-place-len-clause-left g c).After-swap_remove-group) c.swap_remove-group.new.self.items
    c.swap_remove-group.ensures.items

pub returns-else-place-len-clause-found : goal.returns-else-place-len-clause-found
returns-else-place-len-clause-found g c =
    AreFound-last c.args.groups.now.items
    (table.get c.args.places.now.entries) c.requires.found c.args.place c.swap_remove-group.result (here g (goal.at.returns-else-place-len-clause-found g c).After-swap_remove-group) c.swap_remove-group.new.self.items
    c.swap_remove-group.ensures.items (table.get c.remove.new.self.entries) (strikes g (goal.at.returns-else-place-len-clause-found g c).After-remove)
    (λ low. omega (arith, low, c.if-place-len.false, c.len.ensures, c.swap_remove-group.new.self.ok.0))

pub returns-then-place-len-clause-lower : goal.returns-then-place-len-clause-lower
returns-then-place-len-clause-lower g c =
    lower-swap c.args.groups.now.items
    (table.get c.args.places.now.entries) c.requires.found c.args.place c.swap_remove-group.result (here g (goal.at.returns-then-place-len-clause-lower g c).After-swap_remove-group) c.swap_remove-group.new.self.items
    c.swap_remove-group.ensures.items

pub returns-else-place-len-clause-lower : goal.returns-else-place-len-clause-lower
returns-else-place-len-clause-lower g c =
    lower-swap c.args.groups.now.items
    (table.get c.args.places.now.entries) c.requires.found c.args.place c.swap_remove-group.result (here g (goal.at.returns-else-place-len-clause-lower g c).After-swap_remove-group) c.swap_remove-group.new.self.items
    c.swap_remove-group.ensures.items
