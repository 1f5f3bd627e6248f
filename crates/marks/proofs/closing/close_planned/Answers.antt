use Rattle.std.proofs.Common.{◌∙◌, ◌++◌, ◌∷◌, [], List, ap, map, sym, take}
use Rattle.std.proofs.lemmas.List.{take_more}
use Rattle.span.specs.declared.id.SpanId.{SpanId}
use Rattle.marks.specs.Closings.{closing}
use Rattle.marks.proofs.OneShard.{IsOnce-distinct, closing-start}
use Rattle.marks.proofs.closing.close_planned.Goals as goal

pub loop-pair-init : goal.loop-pair-init
loop-pair-init g c = closing-start (map g.H.LendsShard.lent c.args.shards.now)

pub loop-pair-preserved : goal.loop-pair-preserved
loop-pair-preserved g c =
    let first = map g.H.LendsShard.lent c.args.shards.now in
    let done = take c.loop-pair.pair-index c.args.pairs.now in
    c.close_one.ensures first done (IsOnce-distinct first c.pair-item.result.1 c.requires) c.loop-pair.invariant
    ∙ ap (λ (pairs : List (SpanId × SpanId)). map (closing pairs) first)
    (ap (λ pair. done ++ pair ∷ []) c.pair-item.is ∙ sym (take_more c.args.pairs.now c.loop-pair.pair-index c.pair-item.result c.loop-pair-test.true))
