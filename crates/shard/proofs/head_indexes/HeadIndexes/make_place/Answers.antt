use Rattle.std.proofs.Common.{◌∙◌, ap, arith}
use Rattle.std.specs.Prelude.{map as map_list}
use Rattle.shard.specs.HeadWindow.{HeadWindow}
use Rattle.shard.specs.Heads.{raised}
use Rattle.shard.proofs.KnownHeads.{KnowsOthers-appended, KnowsOthers-raised, end_of-changed, guests-raised}
use Rattle.shard.proofs.head_indexes.HeadIndexes.make_place.Goals as goal

pub returns-then-index-count-clause-known : goal.returns-then-index-count-clause-known
returns-then-index-count-clause-known c number groups group long knows =
    KnowsOthers-appended number groups c.args.self.now knows c.args.index group (omega (arith, long, c.requires.within, c.if-index-count.true))

pub returns-clause-known : goal.returns-clause-known
returns-clause-known c number groups group long knows =
    let now : HeadWindow = record { base = c.self.inside.base; entries = c.raise_from.new.indexes.items } in
    let base = ap (λ (w : HeadWindow). w.base) c.self.view_is in
    let all = c.raise_from.ensures ∙ ap (λ (w : HeadWindow). map_list (raised c.args.index) w.entries) c.self.view_is in
    KnowsOthers-raised number groups c.args.self.now knows c.args.index group (omega (arith, long, c.requires.within)) (omega (arith, long, c.requires.few)) now base all

pub returns-clause-guests : goal.returns-clause-guests
returns-clause-guests c serial far =
    let now : HeadWindow = record { base = c.self.inside.base; entries = c.raise_from.new.indexes.items } in
    let base = ap (λ (w : HeadWindow). w.base) c.self.view_is in
    let all = c.raise_from.ensures ∙ ap (λ (w : HeadWindow). map_list (raised c.args.index) w.entries) c.self.view_is in
    guests-raised c.args.self.now now base c.args.index all serial far

pub returns-clause-end : goal.returns-clause-end
returns-clause-end c =
    let now : HeadWindow = record { base = c.self.inside.base; entries = c.raise_from.new.indexes.items } in
    let base = ap (λ (w : HeadWindow). w.base) c.self.view_is in
    let all = c.raise_from.ensures ∙ ap (λ (w : HeadWindow). map_list (raised c.args.index) w.entries) c.self.view_is in
    end_of-changed c.args.self.now now base (raised c.args.index) all
