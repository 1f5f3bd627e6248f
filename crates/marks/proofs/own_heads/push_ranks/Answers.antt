use Rattle.std.proofs.Common.{◌≡◌, ◌∙◌, ◌++◌, ◌∷◌, [], ℕ, Global, List, Some, Vec, append_assoc, ap, arith, slice_get, subst, sym}
use Rattle.groups.proofs.Lists.{there_at}
use Rattle.groups.specs.Spans.{SpansState}
use Rattle.shard.specs.Group.{GroupState}
use Rattle.shard.specs.State.{ShardState}
use Rattle.span.specs.Ids.{rank}
use Rattle.marks.proofs.Ranks.{ranks-bare, ranks-paged}
use Rattle.marks.proofs.own_heads.push_ranks.Goals as goal
use Rattle.marks.proofs.own_heads.push_ranks.Goals.{then-is_paged+in_ok-push, else-is_paged}

pub loop-at-preserved : goal.loop-at-preserved
loop-at-preserved g c =
    let before = c.args.ranks.now.items in
    let groups = (g.H.LendsShard.lent c.args.lender.now).groups in
    let same = ap (λ (shard : ShardState). shard.groups) c.shard-shard.ensures in
    let (group, here) = there_at c.shard-shard.result.now.groups c.loop-at.at (omega (arith, c.loop-at-test.true, c.len-at-end.ensures)) in
    let lent : slice_get groups c.loop-at.at ≡ Some group = subst (λ (gs : List GroupState). slice_get gs c.loop-at.at ≡ Some group) same here in
    elim c.if-is_paged.branch [
      | then-is_paged+in_ok-push w ↦
          let more : w.rank.result ≡ rank group.head.id =
          w.rank.ensures.value ∙ ap rank (w.head_id.ensures ∙ ap (λ (s : SpansState). s.head.id) (w.spans_at.ensures group here)) in
          ap (λ (list : Vec ℕ Global). list.items) w.ranks-is
          ∙ (w.in_ok-push.ensures {u = tt}).items
          ∙ ap (λ n. c.loop-at.ranks.items ++ n ∷ []) more
          ∙ ap (λ (ns : List ℕ). ns ++ rank group.head.id ∷ []) c.loop-at.invariant
          ∙ append_assoc before _ (rank group.head.id ∷ [])
          ∙ ap (λ (ns : List ℕ). before ++ ns) (ranks-paged groups c.loop-at.at group lent (sym (w.if-is_paged.ensures {u = tt} group here)))
      | else-is_paged w ↦
          ap (λ (list : Vec ℕ Global). list.items) w.ranks-is
          ∙ c.loop-at.invariant
          ∙ ap (λ (ns : List ℕ). before ++ ns) (ranks-bare groups c.loop-at.at group lent (sym (w.if-is_paged.ensures {u = tt} group here)))
    ]
