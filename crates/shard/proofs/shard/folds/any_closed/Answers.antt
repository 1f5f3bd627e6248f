use Rattle.std.proofs.Common.{◌≡◌, ◌<◌, ◌∙◌, ℕ, inl, inr, Some, ap, arith, false, refl, slice_get, subst, sym}
use Rattle.std.proofs.lemmas.Bool.{cases_lt}
use Rattle.std.proofs.lemmas.Option.{slice_get_read, slice_get_within}
use Rattle.groups.specs.Least.{HaveLeast}
use Rattle.groups.proofs.Lists.{same_some}
use Rattle.shard.specs.Group.{GroupState}
use Rattle.shard.proofs.ClosedGroups.{any-none, any-some, open_more}
use Rattle.shard.proofs.LeastLive.{open_between}
use Rattle.shard.proofs.shard.folds.any_closed.Goals as goal
use Rattle.shard.proofs.shard.folds.any_closed.Goals.{After-next_below-at}

-- those up to the one that is found are open
opened : (g : _) (c : After-next_below-at g) → (at : ℕ) (group : GroupState) → at < c.next_below-at.result → slice_get c.args.groups.now.items at ≡ Some group → group.closed ≡ false
opened g c at group low here = elim (cases_lt at c.loop-at.at) [
  | inl before ↦ c.loop-at.invariant.opened at group before here
  | inr from ↦
      let bytes = c.args.least.now.items in
      let passed : HaveLeast bytes 1 c.loop-at.at c.next_below-at.result =
      subst (λ ns. HaveLeast ns 1 c.loop-at.at c.next_below-at.result) c.as_slice.ensures.value c.next_below-at.ensures.passed in
      open_between c.args.groups.now.items bytes c.requires.known c.loop-at.at c.next_below-at.result passed
      (omega (arith, c.next_below-at.ensures.end, c.len-count.ensures, c.requires.bytes, c.args.least.now.ok.0)) at group from low here
]

pub loop-at-init : goal.loop-at-init
loop-at-init g c = record { within = omega arith; opened = λ at group below here. absurd (omega (arith, below)) }

pub loop-at-preserved-then-at-count : goal.loop-at-preserved-then-at-count
loop-at-preserved-then-at-count g c =
    let groups = c.args.groups.now.items in
    let at = c.next_below-at.result in
    let here : slice_get groups at ≡ Some c.index.result.now =
    slice_get_read groups _ at c.index.result.now refl (omega (arith, c.if-at-count.true, c.len-count.ensures)) c.index.ensures in
    record {
      within = omega (arith, c.if-at-count.true);
      opened = open_more groups at (opened g (goal.at.loop-at-preserved-then-at-count g c).After-next_below-at)
          (λ group there. ap (λ (g : GroupState). g.closed) (same_some (sym there ∙ here)) ∙ sym c.is_closed.ensures ∙ c.if-is_closed.false);
    }

pub loop-at-preserved : goal.loop-at-preserved
loop-at-preserved g c = record {
  within = c.next_below-at.ensures.end;
  opened = opened g (goal.at.loop-at-preserved g c).After-next_below-at;
}

pub returns-then-is_closed : goal.returns-then-is_closed
returns-then-is_closed g c =
    let groups = c.args.groups.now.items in
    let at = c.next_below-at.result in
    let here : slice_get groups at ≡ Some c.index.result.now =
    slice_get_read groups _ at c.index.result.now refl (omega (arith, c.if-at-count.true, c.len-count.ensures)) c.index.ensures in
    sym (any-some (λ (group : GroupState). group.closed) groups at c.index.result.now here (sym c.is_closed.ensures ∙ c.if-is_closed.true))

pub returns : goal.returns
returns g c =
    let groups = c.args.groups.now.items in
    sym (any-none (λ (group : GroupState). group.closed) groups
    (λ at group here. let within = slice_get_within groups at group here in c.loop-at.invariant.opened at group (omega (arith, within, c.loop-at-test.false, c.len-count.ensures)) here))
