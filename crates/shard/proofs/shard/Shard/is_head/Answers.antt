use Rattle.std.proofs.Common.{◌≡◌, ◌∙◌, Some, slice_get, ap, arith, refl, subst, sym}
use Rattle.std.proofs.lemmas.Bool.{true≢false}
use Rattle.std.proofs.lemmas.Option.{slice_get_read, slice_get_within}
use Rattle.span.proofs.Ids.{same_id_from_test, test_from_same_id}
use Rattle.groups.specs.Group.{IsHeadOf}
use Rattle.groups.proofs.Lists.{same_some}
use Rattle.shard.specs.Group.{GroupState}
use Rattle.shard.specs.State.{ShardState}
use Rattle.shard.proofs.HeadsHere.{IsHeadAt}
use Rattle.shard.proofs.shard.Shard.is_head.Goals as goal

pub returns-then-index-len-clause-yes : goal.returns-then-index-len-clause-yes
returns-then-index-len-clause-yes g c is =
    let here : slice_get c.self.inside.groups.items c.args.index ≡ Some c.index.result.now =
    slice_get_read c.self.inside.groups.items _ c.args.index c.index.result.now refl (omega (arith, c.if-index-len.true, c.len.ensures)) c.index.ensures in
    subst (λ (s : ShardState). IsHeadAt s.groups c.args.head c.args.index) c.self.view_is
    (c.index.result.now, record { here = here; head_is = sym c.head_id.ensures ∙ same_id_from_test c.head_id.result c.args.head (sym c.eq.ensures ∙ is) })

pub returns-then-index-len-clause-no : goal.returns-then-index-len-clause-no
returns-then-index-len-clause-no g c differs group at =
    let here : slice_get c.self.inside.groups.items c.args.index ≡ Some c.index.result.now =
    slice_get_read c.self.inside.groups.items _ c.args.index c.index.result.now refl (omega (arith, c.if-index-len.true, c.len.ensures)) c.index.ensures in
    let found = subst (λ (s : ShardState). IsHeadOf s.groups c.args.head c.args.index group) (sym c.self.view_is) at in
    true≢false (sym (c.eq.ensures ∙ test_from_same_id c.head_id.result c.args.head
    (c.head_id.ensures ∙ ap (λ (g : GroupState). g.head.id) (same_some (sym here ∙ found.here)) ∙ found.head_is)) ∙ differs)

pub returns-else-index-len-clause-no : goal.returns-else-index-len-clause-no
returns-else-index-len-clause-no g c differs group at =
    let found = subst (λ (s : ShardState). IsHeadOf s.groups c.args.head c.args.index group) (sym c.self.view_is) at in
    let low = slice_get_within c.self.inside.groups.items c.args.index group found.here in
    omega (arith, low, c.if-index-len.false, c.len.ensures)
