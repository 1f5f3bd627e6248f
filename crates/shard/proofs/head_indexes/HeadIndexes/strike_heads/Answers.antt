use Rattle.std.specs.FinMap as map
use Rattle.span.specs.Ids.{rank}
use Rattle.std.proofs.Common.{◌≡◌, ◌+◌, ◌∙◌, List, [], Some, ap, arith, drop, refl, slice_get, subst, sym}
use Rattle.std.proofs.lemmas.List.{drop_all}
use Rattle.std.proofs.lemmas.Option.{slice_get_read}
use Rattle.shard.specs.Group.{GroupState}
use Rattle.shard.specs.Heads.{KnowsNoHeads}
use Rattle.shard.proofs.NotedGuests.{KnowsNoHeads-gone, heads-drop}
use Rattle.shard.proofs.head_indexes.HeadIndexes.strike_heads.Goals as goal

pub returns-clause-known : goal.returns-clause-known
returns-clause-known g c entries none knows =
    subst (λ (gs : List GroupState). KnowsNoHeads c.args.number gs entries c.loop-index.self)
    (drop_all c.loop-index.index c.args.groups.now.items (omega (arith, c.loop-index-test.false, c.len-index-end.ensures)))
    (c.loop-index.invariant.known entries none knows)

pub loop-index-preserved : goal.loop-index-preserved
loop-index-preserved g c =
    let groups = c.args.groups.now.items in
    let group = c.index.result.now in
    let here : slice_get groups c.loop-index.index ≡ Some group =
    slice_get_read groups _ c.loop-index.index group refl (omega (arith, c.loop-index-test.true, c.len-index-end.ensures)) c.index.ensures in
    record {
      base = c.note_away.ensures.base ∙ c.loop-index.invariant.base;
      end = c.note_away.ensures.end ∙ c.loop-index.invariant.end;
      known = λ entries none knows.
          KnowsNoHeads-gone c.args.number (drop c.loop-index.index groups) entries c.loop-index.self (c.loop-index.invariant.known entries none knows) c.note_away.new.self
          c.note_away.ensures.base c.head_id.result c.note_away.ensures.others (drop (c.loop-index.index + 1) groups)
          (heads-drop groups c.loop-index.index group here c.head_id.result (sym c.head_id.ensures))
          (ap (λ i. map.get entries (rank i)) c.head_id.ensures ∙ none c.loop-index.index group here) c.note_away.ensures.this;
    }
