use Rattle.std.proofs.Common.{◌∙◌, ap, rules}
use Rattle.std.specs.Ordering.{nat_cmp}
use Rattle.std.specs.FinSet.{contains, contains-empty}
use Rattle.bitmap.proofs.MovedParts.{AreNoted, AreNoted-none, AreNoted-other, AreNoted-some, IsSummary-noted}
use Rattle.bitmap.proofs.parts.summary_of.Goals as goal
use Rattle.bitmap.proofs.parts.summary_of.Goals.{then-is_some, else-is_some}

pub loop-part-init : goal.loop-part-init
loop-part-init c = AreNoted-none _ _ (λ q. ap (λ s. contains s q) c.empty-filled.ensures ∙ contains-empty nat_cmp q)

pub loop-part-preserved : goal.loop-part-preserved
loop-part-preserved c = search (rules, then-is_some, AreNoted-some, else-is_some, AreNoted-other)

pub returns : goal.returns
returns c = search (rules, IsSummary-noted, AreNoted)
