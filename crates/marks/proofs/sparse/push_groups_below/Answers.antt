use Rattle.std.proofs.Common.{◌≡◌, ◌∙◌, ◌+◌, ◌++◌, ◌∷◌, [], Global, List, Some, Vec, append_assoc, ap, arith, length, slice_get, subst, sym, take}
use Rattle.std.proofs.lemmas.List.{take_all}
use Rattle.groups.proofs.Lists.{there_at}
use Rattle.groups.specs.Group.{summary}
use Rattle.groups.specs.Spans.{SpansState, all_spans, union_of}
use Rattle.pool.specs.Sparse.{AreParted}
use Rattle.shard.proofs.Entries.{entries-bare, entries-paged, entries_in}
use Rattle.shard.specs.Group.{GroupState}
use Rattle.shard.specs.State.{ShardState}
use Rattle.span.specs.declared.entry.Entry.{Entry}
use Rattle.marks.proofs.SparseSeen.{parted-empty, parted-left, parted-start}
use Rattle.marks.proofs.sparse.push_groups_below.Goals as goal
use Rattle.marks.proofs.sparse.push_groups_below.Goals.{then-is_paged+in_ok-push_below, else-is_paged}

-- the entry of the spans of a group
entry : SpansState → Entry
entry spans = record { id = spans.head.id; class = spans.head.class; occupied = union_of (all_spans spans) }

pub returns-then-ended-clause-parted : goal.returns-then-ended-clause-parted
returns-then-ended-clause-parted g c = λ before parted.
    let none = c.ended.ensures.sound.none_left (sym c.ended.ensures.ended ∙ c.if-ended.true) in
    parted-empty c.args.bound c.args.entries.now.items (g.H.LendsShard.lent c.args.lender.now).groups before
    (ap (λ (shard : ShardState). shard.groups) (sym c.shard-shard.ensures) ∙ none) parted

pub loop-at-init : goal.loop-at-init
loop-at-init g c = λ before parted. parted-start c.args.bound c.args.entries.now.items (g.H.LendsShard.lent c.args.lender.now).groups before parted

pub loop-at-preserved : goal.loop-at-preserved
unfolding entry
loop-at-preserved g c = λ before parted.
    let bound = c.args.bound in
    let at = c.loop-at.at in
    let groups = (g.H.LendsShard.lent c.args.lender.now).groups in
    let same = ap (λ (shard : ShardState). shard.groups) c.shard-shard.ensures in
    let (group, here) = there_at c.shard-shard.result.now.groups at (omega (arith, c.loop-at-test.true, c.len-at-end.ensures)) in
    let lent : slice_get groups at ≡ Some group = subst (λ (gs : List GroupState). slice_get gs at ≡ Some group) same here in
    let so_far = before ++ entries_in (take at groups) in
    let now = before ++ entries_in (take (at + 1) groups) in
    elim c.if-is_paged.branch [
      | then-is_paged+in_ok-push_below w ↦
          let more : w.entry.result ≡ summary group = w.entry.ensures ∙ ap entry (w.spans_at.ensures group here) in
          let longer : so_far ++ w.entry.result ∷ [] ≡ now =
          ap (λ (x : Entry). so_far ++ x ∷ []) more
          ∙ append_assoc before (entries_in (take at groups)) (summary group ∷ [])
          ∙ ap (λ (xs : List Entry). before ++ xs) (entries-paged groups at group lent (sym (w.if-is_paged.ensures {u = tt} group here))) in
          subst (λ (list : Vec Entry Global). AreParted bound now list.items) (sym w.entries-is)
          (subst (λ (entries : List Entry). AreParted bound entries w.push_below.new.list.items) longer
          ((w.in_ok-push_below.ensures {u = tt}) so_far (c.loop-at.invariant before parted)))
      | else-is_paged w ↦
          subst (λ (list : Vec Entry Global). AreParted bound now list.items) (sym w.entries-is)
          (subst (λ (entries : List Entry). AreParted bound entries c.loop-at.entries.items)
          (ap (λ (xs : List Entry). before ++ xs) (entries-bare groups at group lent (sym (w.if-is_paged.ensures {u = tt} group here))))
          (c.loop-at.invariant before parted))
    ]

pub returns-clause-parted : goal.returns-clause-parted
returns-clause-parted g c = λ before parted.
    let groups = (g.H.LendsShard.lent c.args.lender.now).groups in
    let long = ap (λ (shard : ShardState). length shard.groups) c.shard-shard.ensures in
    subst (λ (gs : List GroupState). AreParted c.args.bound (before ++ entries_in gs) c.loop-at.entries.items)
    (take_all c.loop-at.at groups (omega (arith, c.loop-at-test.false, c.len-at-end.ensures, long))) (c.loop-at.invariant before parted)

-- a group in which too many slots are live is left out, if it has a page, and has no entry if it has none
pub loop-at-preserved-then-least_live-bound : goal.loop-at-preserved-then-least_live-bound
loop-at-preserved-then-least_live-bound g c = λ before parted.
    let bound = c.args.bound in
    let at = c.loop-at.at in
    let groups = (g.H.LendsShard.lent c.args.lender.now).groups in
    let same = ap (λ (shard : ShardState). shard.groups) c.shard-shard.ensures in
    let (group, here) = there_at c.shard-shard.result.now.groups at (omega (arith, c.loop-at-test.true, c.len-at-end.ensures)) in
    let lent : slice_get groups at ≡ Some group = subst (λ (gs : List GroupState). slice_get gs at ≡ Some group) same here in
    parted-left bound before groups at group lent c.loop-at.entries.items (omega (arith, c.if-least_live-bound.true, c.least_live.ensures group here)) (c.loop-at.invariant before parted)
