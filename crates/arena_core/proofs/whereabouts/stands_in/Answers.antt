use Rattle.std.proofs.Common.{◌≡◌, ◌∙◌, None, Some, ap, slice_get, sym}
use Rattle.std.proofs.lemmas.Option.{none-some, slice_get_past}
use Rattle.arena_core.proofs.Fields.{shard-found}
use Rattle.arena_core.proofs.Standing.{TellsStanding-found, TellsStanding-none, has_span-told}
use Rattle.arena_core.proofs.whereabouts.stands_in.Goals as goal

pub returns-in_default : goal.returns-in_default
returns-in_default g c = TellsStanding-none c.args.shards.now.items c.args.span c.args.number (λ id is there. none-some id (sym c.in_default.is ∙ c.id_of.ensures id is))

pub returns-in_default-get : goal.returns-in_default-get
returns-in_default-get g c = TellsStanding-none c.args.shards.now.items c.args.span c.args.number (λ id is there.
    let past : slice_get c.args.shards.now.items c.args.number ≡ None =
    ap (slice_get c.args.shards.now.items) (sym c.from.ensures) ∙ ap (λ xs. slice_get xs c.from.result) (sym c.deref.ensures.value)
    ∙ slice_get_past c.deref.result.now c.from.result c.in_default-get.ensures.lookup.3 in
    none-some there.0 (sym past ∙ there.1))

pub returns : goal.returns
returns g c =
    let there : slice_get c.args.shards.now.items c.args.number ≡ Some c.in-Some-get.shard.now =
    ap (slice_get c.args.shards.now.items) (sym c.from.ensures) ∙ ap (λ xs. slice_get xs c.from.result) (sym c.deref.ensures.value)
    ∙ shard-found c.deref.result.now c.from.result c.in-Some-get.shard c.in-Some-get.ensures.lookup in
    TellsStanding-found c.args.shards.now.items c.args.span c.args.number c.in-Some-get.shard.now there c.in-Some.id
    (λ id is. sym c.in-Some.is ∙ c.id_of.ensures id is) c.has.result (has_span-told c.in-Some-get.shard.now c.in-Some.id c.has.result c.has.ensures)
