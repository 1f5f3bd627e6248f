use Rattle.std.proofs.Common.{false, ◌≡◌, ◌+◌, length, IsTrue, eqb, eqb-true, eq-eqb, rules}
use Rattle.std.proofs.lemmas.Bool.{both_ways}
use Rattle.span.specs.Ids.{same_span}
use Rattle.certificate.specs.Plans.{IsCertificateOf, partners_of, sides_of}
use Rattle.certificate.proofs.Duality.{best_from_certificate}
use Rattle.certificate.proofs.Verdicts.{certificate-from_tests, equation-from_certificate, tells_span}
use Rattle.certificate.proofs.checking.check.Goals as goal

pub returns-then-not-is_choice-clause-exact : goal.returns-then-not-is_choice-clause-exact
unfolding sides_of
returns-then-not-is_choice-clause-exact c = search (rules, both_ways)

sums : (c : goal.After-partner_count) → length c.pairs-2.result.now + length c.ids-2.result.now ≡ length c.abandoned.result.now + c.partner_count.result
    → length c.args.plan.now + length c.args.short.now ≡ length c.args.snapshot.now.abandoned + length (partners_of c.args.snapshot.now c.args.short.now)
sums c equal = rw (c.pairs-2.ensures, c.ids-2.ensures, c.abandoned.ensures.entries, c.partner_count.ensures.count, c.ids-3.ensures) at equal

holds : (c : goal.After-partner_count)
    → IsTrue (eqb (length c.pairs-2.result.now + length c.ids-2.result.now) (length c.abandoned.result.now + c.partner_count.result))
    → IsCertificateOf c.args.snapshot.now c.args.plan.now c.args.short.now
holds c equal =
    certificate-from_tests c.args.snapshot.now c.args.plan.now c.args.short.now
    (rw c.pairs.ensures at (c.is_plan.ensures.0 c.if-not-is_plan.false)) (rw c.ids.ensures at (c.is_choice.ensures.0 c.if-not-is_choice.false))
    (sums c (eqb-true (length c.pairs-2.result.now + length c.ids-2.result.now) (length c.abandoned.result.now + c.partner_count.result) equal))

pub returns-clause-exact : goal.returns-clause-exact
returns-clause-exact c = (
  holds c,
  λ shown. eq-eqb (length c.pairs-2.result.now + length c.ids-2.result.now) (length c.abandoned.result.now + c.partner_count.result)
      (rw (c.pairs-2.ensures, c.ids-2.ensures, c.abandoned.ensures.entries, c.partner_count.ensures.count, c.ids-3.ensures)
      (equation-from_certificate c.args.snapshot.now c.args.plan.now c.args.short.now shown)),
)

pub returns-clause-best : goal.returns-clause-best
returns-clause-best c = λ equal. best_from_certificate same_span tells_span (sides_of c.args.snapshot.now) c.args.plan.now c.args.short.now (holds c equal)
