use Rattle.std.proofs.Common.{◌≡◌, ◌∙◌, List, Some, ap, arith, length, refl, set, slice_get, sym}
use Rattle.std.proofs.lemmas.Option.{slice_get_read}
use Rattle.groups.specs.Dead.{is_live, without_dead}
use Rattle.groups.specs.Group.{Ascend}
use Rattle.groups.proofs.ForgottenGuests.{AreEntered-forgotten, KnowsGuests-forgotten}
use Rattle.shard.specs.Group.{GroupState}
use Rattle.shard.proofs.ChangedBelow.{changed_below-all, changed_below-next, get-changed_below, length-changed_below}
use Rattle.shard.proofs.Forgotten.{Ascend-changed_below}
use Rattle.shard.proofs.NoGuests.{KeepsRoom-twice}
use Rattle.shard.proofs.NotedGuests.{within-noted}
use Rattle.shard.proofs.Sparse.{before-filter}
use Rattle.shard.proofs.shard.forgetting.forget_each.Goals as goal

pub forget_in-requires-clause-fit : goal.forget_in-requires-clause-fit
forget_in-requires-clause-fit c place guest there behind own =
    let now = c.loop-index.groups.items in
    let at = c.loop-index.index in
    let first = c.args.groups.now.items in
    let group = c.index_mut.result.now in
    let is = c.loop-index.invariant.items in
    let here : slice_get now at ≡ Some group =
    slice_get_read now _ at group refl (omega (arith, ap length is, length-changed_below without_dead at first, c.len-index-end.ensures)) c.index_mut.ensures.value in
    let was : slice_get first at ≡ Some group = sym (get-changed_below without_dead at first) ∙ ap (λ (groups : List GroupState). slice_get groups at) (sym is) ∙ here in
    let stood = before-filter is_live group.guests place guest there in
    within-noted c.args.number first c.loop-index.guests.directory.entries c.loop-index.heads c.loop-index.invariant.noted guest.id _
    (c.loop-index.invariant.known.known at stood.0 group guest here stood.1) own (c.requires.apart at stood.0 group guest was stood.1)

pub forget_in-requires-clause-entered : goal.forget_in-requires-clause-entered
forget_in-requires-clause-entered c =
    let now = c.loop-index.groups.items in
    let at = c.loop-index.index in
    let group = c.index_mut.result.now in
    let here : slice_get now at ≡ Some group =
    slice_get_read now _ at group refl
    (omega (
      arith,
      ap length c.loop-index.invariant.items,
      length-changed_below without_dead at c.args.groups.now.items,
      c.len-index-end.ensures,
    )) c.index_mut.ensures.value in
    AreEntered-forgotten now c.loop-index.guests.directory.entries c.loop-index.invariant.known at group here

pub loop-index-preserved : goal.loop-index-preserved
loop-index-preserved c =
    let now = c.loop-index.groups.items in
    let at = c.loop-index.index in
    let first = c.args.groups.now.items in
    let group = c.index_mut.result.now in
    let is = c.loop-index.invariant.items in
    let here : slice_get now at ≡ Some group =
    slice_get_read now _ at group refl (omega (arith, ap length is, length-changed_below without_dead at first, c.len-index-end.ensures)) c.index_mut.ensures.value in
    let there : slice_get _ at ≡ Some group = ap (λ (groups : List GroupState). slice_get groups at) (sym is) ∙ here in
    let was : slice_get first at ≡ Some group = sym (get-changed_below without_dead at first) ∙ there in
    let ascend : Ascend now = rw is (Ascend-changed_below at first c.requires.ascend) in
    let known = KnowsGuests-forgotten now c.loop-index.guests.directory.entries c.loop-index.invariant.known at group here ascend (c.requires.once at group was) in
    record {
      items = ap (set now at) c.forget_in.ensures.group ∙ ap (λ (groups : List GroupState). set groups at (without_dead group)) is ∙ changed_below-next without_dead at first group there;
      capacity = c.loop-index.invariant.capacity;
      known = rw (c.forget_in.ensures.group, c.forget_in.ensures.directory) known;
      room = rw (c.forget_in.ensures.directory) c.loop-index.invariant.room;
      spans = KeepsRoom-twice _ _ _ c.loop-index.invariant.spans c.forget_in.ensures.spans;
      noted = c.forget_in.ensures.noted first c.loop-index.invariant.noted;
      heads = c.forget_in.ensures.heads first c.loop-index.invariant.heads (λ place guest stood. c.requires.apart at place group guest was stood);
      end = c.forget_in.ensures.end ∙ c.loop-index.invariant.end;
    }

pub returns-clause-items : goal.returns-clause-items
returns-clause-items c = c.loop-index.invariant.items ∙ changed_below-all without_dead c.loop-index.index c.args.groups.now.items (omega (arith, c.len-index-end.ensures))

pub index_mut-requires : goal.index_mut-requires
index_mut-requires c = omega (arith, c.loop-index-test.true, c.len-index-end.ensures, ap length c.loop-index.invariant.items, length-changed_below without_dead c.loop-index.index c.args.groups.now.items)
