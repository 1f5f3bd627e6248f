use Rattle.std.proofs.Common.{◌∙◌, ap, arith}
use Rattle.std.specs.Prelude.{map as map_list}
use Rattle.shard.specs.HeadWindow.{HeadWindow}
use Rattle.shard.specs.Heads.{lowered}
use Rattle.shard.proofs.KnownHeads.{KnowsHeads-last, KnowsHeads-lowered, end_of-changed, guests-lowered}
use Rattle.shard.proofs.head_indexes.HeadIndexes.note_departure.Goals as goal

pub returns-then-index-count-clause-known : goal.returns-then-index-count-clause-known
returns-then-index-count-clause-known c number groups long knows =
    KnowsHeads-last number groups c.args.self.now knows c.args.index (omega (arith, long, c.requires.within, c.if-index-count.true))

pub returns-clause-known : goal.returns-clause-known
returns-clause-known c number groups long knows =
    let now : HeadWindow = record { base = c.self.inside.base; entries = c.lower_behind.new.indexes.items } in
    let base = ap (λ (w : HeadWindow). w.base) c.self.view_is in
    let all = c.lower_behind.ensures ∙ ap (λ (w : HeadWindow). map_list (lowered c.args.index) w.entries) c.self.view_is in
    KnowsHeads-lowered number groups c.args.self.now knows c.args.index (omega (arith, long, c.requires.few)) now base all

pub returns-clause-guests : goal.returns-clause-guests
returns-clause-guests c serial far =
    let now : HeadWindow = record { base = c.self.inside.base; entries = c.lower_behind.new.indexes.items } in
    let base = ap (λ (w : HeadWindow). w.base) c.self.view_is in
    let all = c.lower_behind.ensures ∙ ap (λ (w : HeadWindow). map_list (lowered c.args.index) w.entries) c.self.view_is in
    guests-lowered c.args.self.now now base c.args.index all serial far

pub returns-clause-end : goal.returns-clause-end
returns-clause-end c =
    let now : HeadWindow = record { base = c.self.inside.base; entries = c.lower_behind.new.indexes.items } in
    let base = ap (λ (w : HeadWindow). w.base) c.self.view_is in
    let all = c.lower_behind.ensures ∙ ap (λ (w : HeadWindow). map_list (lowered c.args.index) w.entries) c.self.view_is in
    end_of-changed c.args.self.now now base (lowered c.args.index) all
