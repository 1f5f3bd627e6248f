use Rattle.std.proofs.Common.{◌≡◌, ◌<◌, ℕ, [], get_or, length}
use Rattle.certificate.specs.Chosen.{sets_of}
use Rattle.certificate.proofs.partner.Members.of.Given as goal

abbrev pub invariant-loop-number : goal.invariant-loop-number
invariant-loop-number g l = record {
  long : length l.by_class.items ≡ l.number;
  sets : (number : ℕ) → number < l.number → get_or l.by_class.items number [] ≡ sets_of number l.groups.items;
}
