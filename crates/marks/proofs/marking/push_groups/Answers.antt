use Rattle.std.proofs.Common.{◌≡◌, ◌∙◌, ◌++◌, ◌∷◌, [], Global, List, Some, Vec, append_assoc, ap, arith, slice_get, subst, sym}
use Rattle.groups.proofs.Lists.{there_at}
use Rattle.groups.specs.Group.{summary}
use Rattle.groups.specs.Spans.{SpansState, all_spans, union_of}
use Rattle.shard.specs.Group.{GroupState}
use Rattle.shard.specs.State.{ShardState}
use Rattle.span.specs.declared.entry.Entry.{Entry}
use Rattle.shard.proofs.Entries.{entries-bare, entries-paged}
use Rattle.marks.proofs.marking.push_groups.Goals as goal
use Rattle.marks.proofs.marking.push_groups.Goals.{then-is_paged+in_ok-push, else-is_paged}

-- the entry of the spans of a group
entry : SpansState → Entry
entry spans = record { id = spans.head.id; class = spans.head.class; occupied = union_of (all_spans spans) }

pub loop-index-preserved : goal.loop-index-preserved
unfolding entry
loop-index-preserved g c =
    let before = c.args.entries.now.items in
    let groups = (g.H.LendsShard.lent c.args.lender.now).groups in
    let same = ap (λ (shard : ShardState). shard.groups) c.shard-shard.ensures in
    let (group, here) = there_at c.shard-shard.result.now.groups c.loop-index.index (omega (arith, c.loop-index-test.true, c.len-index-end.ensures)) in
    let lent : slice_get groups c.loop-index.index ≡ Some group = subst (λ (gs : List GroupState). slice_get gs c.loop-index.index ≡ Some group) same here in
    elim c.if-is_paged.branch [
      | then-is_paged+in_ok-push w ↦
          let more : w.entry.result ≡ summary group = w.entry.ensures ∙ ap entry (w.spans_at.ensures group here) in
          ap (λ (list : Vec Entry Global). list.items) w.entries-is
          ∙ (w.in_ok-push.ensures {u = tt}).items
          ∙ ap (λ (x : Entry). c.loop-index.entries.items ++ x ∷ []) more
          ∙ ap (λ (xs : List Entry). xs ++ summary group ∷ []) c.loop-index.invariant
          ∙ append_assoc before _ (summary group ∷ [])
          ∙ ap (λ (xs : List Entry). before ++ xs) (entries-paged groups c.loop-index.index group lent (sym (w.if-is_paged.ensures {u = tt} group here)))
      | else-is_paged w ↦
          ap (λ (list : Vec Entry Global). list.items) w.entries-is
          ∙ c.loop-index.invariant
          ∙ ap (λ (xs : List Entry). before ++ xs) (entries-bare groups c.loop-index.index group lent (sym (w.if-is_paged.ensures {u = tt} group here)))
    ]
