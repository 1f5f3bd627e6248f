use Rattle.std.proofs.Common.{◌∙◌, ap, sym}
use Rattle.std.specs.FinSet.{contains, contains-empty}
use Rattle.std.specs.Ordering.{nat_cmp}
use Rattle.bitmap.proofs.InParts.{in_none, parts-none}
use Rattle.bitmap.proofs.high_numbers.HighNumbers.first_part.Goals as goal

pub returns-in-None : goal.returns-in-None
returns-in-None c slot small = rw (← c.self.view_is)
    (ap (λ s. contains s slot) c.empty.ensures ∙ contains-empty nat_cmp slot ∙ sym (in_none _ (parts-none c.self.inside.levels (λ levels. levels.value) c.in-None.is) slot))
