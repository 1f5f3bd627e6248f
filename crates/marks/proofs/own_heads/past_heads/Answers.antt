use Rattle.std.proofs.Common.{◌≡◌, ◌∙◌, ℕ, ◌+◌, ◌-◌, ◌<◌, ◌≤◌, arith, ap, length, map, slice_get, subst, sym, Some}
use Rattle.std.proofs.lemmas.List.{nil_from_length}
use Rattle.groups.proofs.Lists.{there_at}
use Rattle.groups.specs.Group.{paged_in, summary}
use Rattle.groups.specs.Spans.{SpansState}
use Rattle.span.specs.Ids.{rank}
use Rattle.span.specs.declared.id.SpanId.{SpanId}
use Rattle.shard.specs.Group.{GroupState, spans_alone}
use Rattle.shard.specs.State.{ShardState}
use Rattle.marks.specs.Apart.{AreWithin}
use Rattle.marks.proofs.Apart.{heads-order, within-empty, within-shard}
use Rattle.marks.proofs.own_heads.past_heads.Goals as goal

pub returns-then-ended-clause-within : goal.returns-then-ended-clause-within
returns-then-ended-clause-within g c =
    subst (λ (s : ShardState). AreWithin c.args.next c.args.next (map summary (paged_in s.groups))) c.shard-shard.ensures
    (within-empty c.args.next c.shard-shard.result.now.groups (c.ended.ensures.sound.none_left (sym c.ended.ensures.ended ∙ c.if-ended.true)))

pub returns-then-count-eq0-clause-within : goal.returns-then-count-eq0-clause-within
returns-then-count-eq0-clause-within g c =
    subst (λ (s : ShardState). AreWithin c.args.next c.args.next (map summary (paged_in s.groups))) c.shard-shard.ensures
    (within-empty c.args.next c.shard-shard.result.now.groups (nil_from_length c.shard-shard.result.now.groups (omega (arith, c.len-count.ensures, c.if-count-eq0.true))))

-- a head's rank
rank_of : (spans : SpansState) (group : GroupState) (id : SpanId) (rank_is : ℕ) → rank_is ≡ rank id → id ≡ spans.head.id → spans ≡ spans_alone group → rank_is ≡ rank group.head.id
rank_of spans group id rank_is first second third = first ∙ ap rank (second ∙ ap (λ (s : SpansState). s.head.id) third)

pub returns-clause-within : goal.returns-clause-within
returns-clause-within g c =
    let next = c.args.next in
    let groups = c.shard-shard.result.now.groups in
    let some : 0 < length groups = omega (arith, c.len-count.ensures, c.if-count-eq0.false) in
    let (first, at_first) = there_at groups 0 some in
    let (last, at_last) = there_at groups (length groups - 1) (omega (arith, some)) in
    let here : slice_get groups (c.len-count.result - 1) ≡ Some last = ap (λ n. slice_get groups (n - 1)) c.len-count.ensures ∙ at_last in
    let first_is : c.rank-first.result ≡ rank first.head.id = rank_of _ first _ c.rank-first.result c.rank-first.ensures.value c.head_id.ensures (c.spans_at.ensures first at_first) in
    let last_is : c.rank-last.result ≡ rank last.head.id = rank_of _ last _ c.rank-last.result c.rank-last.ensures.value c.head_id-2.ensures (c.spans_at-2.ensures last here) in
    let within : AreWithin next (rank last.head.id + 1) (map summary (paged_in groups)) =
    within-shard groups first last c.ended.ensures.sound.ascending at_first at_last next (omega (arith, c.if-first-next.false, first_is)) in
    subst (λ (s : ShardState). AreWithin next (c.rank-last.result + 1) (map summary (paged_in s.groups))) c.shard-shard.ensures
    (subst (λ n. AreWithin next (n + 1) (map summary (paged_in groups))) (sym last_is) within)

pub returns-clause-up : goal.returns-clause-up
returns-clause-up g c =
    let groups = c.shard-shard.result.now.groups in
    let some : 0 < length groups = omega (arith, c.len-count.ensures, c.if-count-eq0.false) in
    let (first, at_first) = there_at groups 0 some in
    let (last, at_last) = there_at groups (length groups - 1) (omega (arith, some)) in
    let here : slice_get groups (c.len-count.result - 1) ≡ Some last = ap (λ n. slice_get groups (n - 1)) c.len-count.ensures ∙ at_last in
    let first_is : c.rank-first.result ≡ rank first.head.id = rank_of _ first _ c.rank-first.result c.rank-first.ensures.value c.head_id.ensures (c.spans_at.ensures first at_first) in
    let last_is : c.rank-last.result ≡ rank last.head.id = rank_of _ last _ c.rank-last.result c.rank-last.ensures.value c.head_id-2.ensures (c.spans_at-2.ensures last here) in
    let order : rank first.head.id ≤ rank last.head.id = heads-order groups first last c.ended.ensures.sound.ascending at_first at_last in
    omega (arith, c.if-first-next.false, first_is, last_is, order)
