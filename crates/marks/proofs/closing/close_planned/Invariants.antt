use Rattle.std.proofs.Common.{◌≡◌, map, take}
use Rattle.marks.specs.Closings.{closing}
use Rattle.marks.proofs.closing.close_planned.Given as goal

abbrev pub invariant-loop-pair : goal.invariant-loop-pair
invariant-loop-pair g l =
    let lent = g.H.LendsShard.lent in
    map lent l.shards ≡ map (closing (take l.pair-index l.pairs)) (map lent l.initial.shards)
