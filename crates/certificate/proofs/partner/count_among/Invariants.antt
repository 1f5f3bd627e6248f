use Rattle.std.proofs.Common.{◌≡◌, ◌≤◌, ◌+◌, count_by, length}
use Rattle.certificate.specs.Chosen.{fits_any}
use Rattle.certificate.proofs.partner.count_among.Given as goal

abbrev pub invariant-loop-rest : goal.invariant-loop-rest
invariant-loop-rest l = record {
  counted : l.count + count_by (λ y. fits_any l.abandoned l.chosen y) l.rest ≡ count_by (λ y. fits_any l.abandoned l.chosen y) l.owned;
  at_most : l.count + length l.rest ≤ length l.owned;
}

abbrev pub decreases-loop-rest : goal.decreases-loop-rest
decreases-loop-rest l = length l.rest
