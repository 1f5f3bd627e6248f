use Rattle.std.proofs.Common.{◌≡◌, ◌+◌, ◌-◌, ◌<◌, ◌∙◌, Some, length-set, set, slice_get, vec_len, ap, arith, inl, inr, refl, subst, sym}
use Rattle.std.proofs.lemmas.Bool.{cases_eq}
use Rattle.std.proofs.lemmas.Option.{slice_get_read, slice_get_within}
use Rattle.span.specs.declared.id.SpanId.{SpanId}
use Rattle.groups.proofs.Lists.{same_some}
use Rattle.shard.specs.Group.{GroupState}
use Rattle.shard.specs.Heads.{IsNoted, KnowsBelow, KnowsNoHeads}
use Rattle.shard.proofs.KnownHeads.{KnowsBelow-own}
use Rattle.shard.proofs.NotedGuests.{KnowsNoHeads-noted}
use Rattle.shard.proofs.head_indexes.note_heads.Goals as goal

pub index_mut-requires : goal.index_mut-requires
index_mut-requires g c =
    let here : slice_get c.args.groups.now.items c.loop-index.index ≡ Some c.index.result.now =
    slice_get_read c.args.groups.now.items _ c.loop-index.index c.index.result.now refl (omega (arith, c.loop-index-test.true, c.len-index-end.ensures)) c.index.ensures in
    let own : IsNoted c.args.number c.args.base c.index.result.now.head.id = subst (IsNoted c.args.number c.args.base) c.head_id-id.ensures (c.is_noted.ensures.known c.if-not-is_noted.false) in
    let low = c.requires.fit c.loop-index.index c.index.result.now here own in
    subst (λ (id : SpanId). id.serial - c.args.base < vec_len c.loop-index.indexes) (sym c.head_id-id.ensures)
    (omega (arith, low, c.loop-index.invariant.1))

pub loop-index-preserved : goal.loop-index-preserved
loop-index-preserved g c =
    let here : slice_get c.args.groups.now.items c.loop-index.index ≡ Some c.index.result.now =
    slice_get_read c.args.groups.now.items _ c.loop-index.index c.index.result.now refl (omega (arith, c.loop-index-test.true, c.len-index-end.ensures)) c.index.ensures in
    let own : IsNoted c.args.number c.args.base c.index.result.now.head.id = subst (IsNoted c.args.number c.args.base) c.head_id-id.ensures (c.is_noted.ensures.known c.if-not-is_noted.false) in (
      subst (λ (id : SpanId). KnowsBelow c.args.number c.args.groups.now.items (record { base = c.args.base; entries = set c.loop-index.indexes.items (id.serial - c.args.base) c.loop-index.index }) (c.loop-index.index + 1))
          (sym c.head_id-id.ensures)
          (KnowsBelow-own c.args.number c.args.groups.now.items c.requires.ascend (record { base = c.args.base; entries = c.loop-index.indexes.items }) c.loop-index.index c.loop-index.invariant.0
          c.index.result.now here own
          (let low = c.requires.fit c.loop-index.index c.index.result.now here own in omega (arith, low, c.loop-index.invariant.1))),
      length-set c.loop-index.indexes.items (c.head_id-id.result.serial - c.args.base) c.loop-index.index ∙ c.loop-index.invariant.1,
      λ entries knows.
          subst (λ (id : SpanId). KnowsNoHeads c.args.number c.args.groups.now.items entries (record { base = c.args.base; entries = set c.loop-index.indexes.items (id.serial - c.args.base) c.loop-index.index }))
          (sym c.head_id-id.ensures)
          (KnowsNoHeads-noted c.args.number c.args.groups.now.items entries (record { base = c.args.base; entries = c.loop-index.indexes.items }) (c.loop-index.invariant.2 entries knows)
          c.loop-index.index c.index.result.now here own),
    )

-- one that is not noted has no entry
pub loop-index-preserved-then-not-is_noted : goal.loop-index-preserved-then-not-is_noted
loop-index-preserved-then-not-is_noted g c =
    let here : slice_get c.args.groups.now.items c.loop-index.index ≡ Some c.index.result.now =
    slice_get_read c.args.groups.now.items _ c.loop-index.index c.index.result.now refl (omega (arith, c.loop-index-test.true, c.len-index-end.ensures)) c.index.ensures in (
      λ index group below there own. elim (cases_eq index c.loop-index.index) [
        | inl same ↦
            let is : group ≡ c.index.result.now = same_some (sym there ∙ ap (slice_get c.args.groups.now.items) same ∙ here) in
            absurd (c.is_noted.ensures.other c.if-not-is_noted.true
            (subst (IsNoted c.args.number c.args.base) (sym c.head_id-id.ensures) (subst (λ (g : GroupState). IsNoted c.args.number c.args.base g.head.id) is own)))
        | inr apart ↦ c.loop-index.invariant.0 index group (omega (arith, below, apart)) there own
      ],
      c.loop-index.invariant.1,
      c.loop-index.invariant.2,
    )

pub returns-clause-known : goal.returns-clause-known
returns-clause-known g c index group there own =
    c.loop-index.invariant.0 index group (let low = slice_get_within c.args.groups.now.items index group there in omega (arith, low, c.loop-index-test.false, c.len-index-end.ensures)) there own
