use Rattle.std.proofs.Common.{◌∙◌, ap, slice_get, sym}
use Rattle.std.proofs.lemmas.Option.{slice_get_within}
use Rattle.shard.proofs.group_row.exchange_places.Goals as goal

pub index_of-first-requires-clause-ascend : goal.index_of-first-requires-clause-ascend
index_of-first-requires-clause-ascend g c = rw (c.as_slice.ensures.value, c.as_slice-2.ensures.value) c.requires.ascend

pub index_of-second-requires-clause-ascend : goal.index_of-second-requires-clause-ascend
index_of-second-requires-clause-ascend g c = rw (c.as_slice-3.ensures.value, c.as_slice-4.ensures.value) c.requires.ascend

pub exchange-requires-clause-first : goal.exchange-requires-clause-first
exchange-requires-clause-first g c =
    slice_get_within c.args.order.now.items c.index_of-first.result c.args.place (ap (λ xs. slice_get xs c.index_of-first.result) (sym c.as_slice-2.ensures.value) ∙ c.index_of-first.ensures)

pub exchange-requires-clause-second : goal.exchange-requires-clause-second
exchange-requires-clause-second g c =
    slice_get_within c.args.order.now.items c.index_of-second.result c.args.other (ap (λ xs. slice_get xs c.index_of-second.result) (sym c.as_slice-4.ensures.value) ∙ c.index_of-second.ensures)
