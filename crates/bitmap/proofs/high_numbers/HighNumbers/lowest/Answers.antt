use Rattle.bitmap.proofs.InParts.{numbers_in-none, parts-none}
use Rattle.bitmap.proofs.high_numbers.HighNumbers.lowest.Goals as goal

pub returns-in-None-clause-lowest : goal.returns-in-None-clause-lowest
returns-in-None-clause-lowest c = rw (← c.self.view_is) (numbers_in-none _ (parts-none c.self.inside.levels (λ levels. levels.value) c.in-None.is))
