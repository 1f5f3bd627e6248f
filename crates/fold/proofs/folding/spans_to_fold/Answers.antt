use denote.Enum.Bare.{differs_false, differs_true}
use Rattle.std.proofs.Common.{◌∙◌, inl, inr, sym, refl, rules}
use Rattle.std.proofs.lemmas.Bool.{false≢true}
use Rattle.span.specs.contracts.class.Class.{the_type}
use Rattle.fold.proofs.Judged.{AreDisjoint-same, IsClash-here, IsEmptied-here, MayFold-here}
use Rattle.fold.proofs.folding.spans_to_fold.Goals as goal

pub returns-then-not-from-clause-step : goal.returns-then-not-from-clause-step
returns-then-not-from-clause-step g c =
    let (index, group, from, its) = c.in-Some.ensures.brief in
    let (place, onto, to, others) = c.in-Some-brief.ensures in (
      IsEmptied-here c.args.pool.now c.in-Some.ensures.sound c.args.shard.now c.ended.ensures.sound c.args.a c.args.b index place group onto from to
          (λ would. false≢true (c.if-would_double.ensures.doubles.1 would)) (sym its.paged_is ∙ c.if-not-from.true),
      refl,
      refl,
    )

pub returns-else-is_disjoint-clause-step : goal.returns-else-is_disjoint-clause-step
returns-else-is_disjoint-clause-step g c =
    let (index, group, from, its) = c.in-Some.ensures.brief in
    let (place, onto, to, others) = c.in-Some-brief.ensures in (
      IsClash-here c.args.pool.now c.in-Some.ensures.sound c.args.shard.now c.ended.ensures.sound c.args.a c.args.b index place group onto from to
          (λ would. false≢true (c.if-would_double.ensures.doubles.1 would)) (sym its.paged_is ∙ c.if-not-from.false)
          (inr (λ apart. false≢true (c.if-is_disjoint.ensures.1 (AreDisjoint-same _ _ _ _ (sym others.occupied_is) (sym its.occupied_is) apart)))),
      refl,
      refl,
    )

pub returns-then-is_disjoint-clause-may : goal.returns-then-is_disjoint-clause-may
returns-then-is_disjoint-clause-may g c =
    let (index, group, from, its) = c.in-Some.ensures.brief in
    let (place, onto, to, others) = c.in-Some-brief.ensures in
    MayFold-here c.args.pool.now c.in-Some.ensures.sound c.args.shard.now c.ended.ensures.sound c.args.a c.args.b index place group onto from to
    (λ would. false≢true (c.if-would_double.ensures.doubles.1 would)) (sym its.paged_is ∙ c.if-not-from.false)
    (sym others.class_is ∙ differs_false the_type (search rules) c.in-Some-brief.onto.class c.in-Some.from.class (sym c.if-ne.ensures) ∙ its.class_is)
    (AreDisjoint-same _ _ _ _ others.occupied_is its.occupied_is (c.if-is_disjoint.ensures.0 refl))

pub returns-then-is_disjoint-clause-spans : goal.returns-then-is_disjoint-clause-spans
returns-then-is_disjoint-clause-spans g c = let (index, group, from, its) = c.in-Some.ensures.brief in (index, group, from, its.spans_is)

pub returns-then-ne-clause-step : goal.returns-then-ne-clause-step
returns-then-ne-clause-step g c =
    let (index, group, from, its) = c.in-Some.ensures.brief in
    let (place, onto, to, others) = c.in-Some-brief.ensures in (
      IsClash-here c.args.pool.now c.in-Some.ensures.sound c.args.shard.now c.ended.ensures.sound c.args.a c.args.b index place group onto from to
          (λ would. false≢true (c.if-would_double.ensures.doubles.1 would)) (sym its.paged_is ∙ c.if-not-from.false)
          (inl (λ same. differs_true the_type c.in-Some-brief.onto.class c.in-Some.from.class (sym c.if-ne.ensures) (others.class_is ∙ same ∙ sym its.class_is))),
      refl,
      refl,
    )
