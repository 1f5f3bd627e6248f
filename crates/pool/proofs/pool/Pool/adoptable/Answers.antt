use Rattle.std.proofs.Common.{◌∙◌, None, ap, refl, subst, sym, IsSome}
use Rattle.std.proofs.lemmas.Bool.{false≢true}
use Rattle.page.specs.Words.{Words}
use Rattle.pool.specs.Calls.{IsDoubled, IsHeadOfLowest}
use Rattle.pool.specs.State.{PoolState}
use Rattle.pool.proofs.pool.Pool.adoptable.Goals as goal

pub returns-clause-nothing : goal.returns-clause-nothing
returns-clause-nothing g c =
    let lowest = c.in-Some.ensures.lowest in (
      (λ nothing. absurd cc),
      (λ causes. let paged : IsSome {T = Words} None = subst IsSome (causes.3 lowest.0 lowest.1 lowest.2.here) lowest.2.paged in absurd cc),
    )

pub lowest_would_double-requires : goal.lowest_would_double-requires
lowest_would_double-requires g c = subst (λ (p : PoolState). IsHeadOfLowest p c.in-Some.head) (sym c.lowest_paged-lowest.ensures.same) c.in-Some.ensures.lowest

pub returns-clause-doubled : goal.returns-clause-doubled
returns-clause-doubled g c = (
  (λ said. absurd cc),
  (λ causes. absurd (false≢true (c.if-lowest_would_double.ensures.1 (subst (λ (p : PoolState). IsDoubled p c.args.shard.now) (sym c.lowest_paged-lowest.ensures.same) causes.2)))),
)

pub returns-then-has_plan-clause-doubled : goal.returns-then-has_plan-clause-doubled
returns-then-has_plan-clause-doubled g c = (
  (λ said. absurd cc),
  (λ causes. absurd (false≢true (c.if-lowest_would_double.ensures.1 (subst (λ (p : PoolState). IsDoubled p c.args.shard.now) (sym c.lowest_paged-lowest.ensures.same) causes.2)))),
)

pub returns-then-has_plan-clause-plan_open : goal.returns-then-has_plan-clause-plan_open
returns-then-has_plan-clause-plan_open g c = (
  (λ said. (
    (λ full. absurd (false≢true (c.if-is_full.ensures.1 full))),
    sym c.if-ended.ensures.ended,
    (λ doubled. false≢true (c.if-lowest_would_double.ensures.1 (subst (λ (p : PoolState). IsDoubled p c.args.shard.now) (sym c.lowest_paged-lowest.ensures.same) doubled))),
    ap (λ (p : PoolState). p.has_plan) (sym c.lowest_paged-lowest.ensures.same) ∙ sym c.if-has_plan.ensures,
  )),
  (λ causes. refl),
)

pub returns-then-lowest_would_double-clause-doubled : goal.returns-then-lowest_would_double-clause-doubled
returns-then-lowest_would_double-clause-doubled g c = (
  (λ said. (
    (λ full. absurd (false≢true (c.if-is_full.ensures.1 full))),
    sym c.if-ended.ensures.ended,
    subst (λ (p : PoolState). IsDoubled p c.args.shard.now) c.lowest_paged-lowest.ensures.same (c.if-lowest_would_double.ensures.0 refl),
  )),
  (λ causes. refl),
)

pub returns-then-lowest_would_double-clause-plan_open : goal.returns-then-lowest_would_double-clause-plan_open
returns-then-lowest_would_double-clause-plan_open g c = (
  (λ said. absurd cc),
  (λ causes. absurd (causes.2 (subst (λ (p : PoolState). IsDoubled p c.args.shard.now) c.lowest_paged-lowest.ensures.same (c.if-lowest_would_double.ensures.0 refl)))),
)

pub returns-then-lowest_would_double-clause-nothing : goal.returns-then-lowest_would_double-clause-nothing
returns-then-lowest_would_double-clause-nothing g c =
    let lowest = c.in-Some.ensures.lowest in (
      (λ said. absurd cc),
      (λ causes. let paged : IsSome {T = Words} None = subst IsSome (causes.3 lowest.0 lowest.1 lowest.2.here) lowest.2.paged in absurd cc),
    )
