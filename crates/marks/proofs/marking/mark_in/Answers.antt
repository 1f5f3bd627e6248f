use Rattle.std.proofs.Common.{◌∙◌, ap, arith, map, refl, rules, subst, sym}
use Rattle.std.proofs.lemmas.Bool.{true≢false}
use Rattle.std.proofs.lemmas.Result.{IfErr-at_err, IfOk-at_ok, err_from_is_err_and}
use Rattle.marks.specs.Closings.{closing}
use Rattle.marks.specs.Seen.{AreDistinct, AreSound, IsSeenInPart, IsTooMany}
use Rattle.marks.proofs.Closings.{AreSound-closing}
use Rattle.marks.proofs.Fitting.{fit_in_part}
use Rattle.marks.proofs.InPart.{IsInSight-few}
use Rattle.marks.proofs.marking.mark_in.Goals as goal

-- too much is in sight

pub returns-then-is_too_many-clause-exact : goal.returns-then-is_too_many-clause-exact
returns-then-is_too_many-clause-exact g c = ((sym c.has_plan.ensures ∙ c.if-has_plan.false, c.is_too_many.ensures.0 c.if-is_too_many.true), refl, refl)

-- memory runs out for the snapshot

pub returns-in_err-snapshot-clause-exact : goal.returns-in_err-snapshot-clause-exact
returns-in_err-snapshot-clause-exact g c =
    let refused = err_from_is_err_and c.from_residual.result c.from_residual.ensures.1 in
    rw (refused.1, refused.2) ((sym c.has_plan.ensures ∙ c.if-has_plan.false, λ many. true≢false (sym (c.is_too_many.ensures.1 many) ∙ c.if-is_too_many.false)), refl, refl)

-- two groups of a side have one head

pub returns-in_default-clause-exact : goal.returns-in_default-clause-exact
returns-in_default-clause-exact g c = (
  (
    sym c.has_plan.ensures ∙ c.if-has_plan.false,
    λ many. true≢false (sym (c.is_too_many.ensures.1 many) ∙ c.if-is_too_many.false),
    IfErr-at_err (λ _. AreDistinct c.args.pool.now (map g.H.LendsShard.lent c.args.shards.now) → ⊥) c.in_default.is (c.in_ok-snapshot.ensures {u = tt}).doubled,
  ),
  refl,
  refl,
)

-- memory runs out for the plan

pub returns-in_err-found-clause-exact : goal.returns-in_err-found-clause-exact
returns-in_err-found-clause-exact g c =
    let refused = err_from_is_err_and c.from_residual-in_err-found.result c.from_residual-in_err-found.ensures.1 in
    rw (refused.1, refused.2) ((sym c.has_plan.ensures ∙ c.if-has_plan.false, λ many. true≢false (sym (c.is_too_many.ensures.1 many) ∙ c.if-is_too_many.false)), refl, refl)

-- the plan is made

pub largest_plan-requires : goal.largest_plan-requires
largest_plan-requires g c =
    let pool = c.args.pool.now in
    let shards = map g.H.LendsShard.lent c.args.shards.now in
    let told = c.in_ok-snapshot.ensures {u = tt} in
    let seen = IfOk-at_ok (IsSeenInPart pool shards) c.in-Ok.is told.seen in
    let fit = fit_in_part pool shards c.in-Ok.snapshot seen told.sound_pool told.sound in
    record {
      abandoned = omega (arith, seen.abandoned.count);
      owned = omega (arith, seen.owned.count);
      abandoned_fit = fit.0;
      owned_fit = fit.1;
      pieces = search rules;
      ready = search rules;
    }

pub returns-clause-exact : goal.returns-clause-exact
returns-clause-exact g c =
    let pool = c.args.pool.now in
    let shards = map g.H.LendsShard.lent c.args.shards.now in
    let told = c.in_ok-snapshot.ensures {u = tt} in
    let found = c.in_ok-found.ensures {u = tt} in
    let few : IsTooMany c.args.sight pool shards → ⊥ = λ many. true≢false (sym (c.is_too_many.ensures.1 many) ∙ c.if-is_too_many.false) in
    record {
      no_plan = sym c.has_plan.ensures ∙ c.if-has_plan.false;
      few = few;
      distinct = IfOk-at_ok (λ _. AreDistinct pool shards) c.in-Ok.is told.distinct;
      largest = record {
        seen = IsInSight-few c.args.sight pool shards c.in_ok-found.found.snapshot few
            (subst (IsSeenInPart pool shards) (sym found.snapshot) (IfOk-at_ok (IsSeenInPart pool shards) c.in-Ok.is told.seen));
        shown = found.shown;
      };
      opened = c.plan_opened.ensures.opened;
      closed = c.close_planned.ensures ∙ ap (λ pairs. map (closing pairs) shards) c.pairs.ensures;
    }

pub returns-clause-sound_new : goal.returns-clause-sound_new
returns-clause-sound_new g c =
    let sound : AreSound (map g.H.LendsShard.lent c.args.shards.now) = (c.in_ok-snapshot.ensures {u = tt}).sound in
    subst AreSound (sym c.close_planned.ensures) (AreSound-closing c.pairs.result.now (map g.H.LendsShard.lent c.args.shards.now) sound)
