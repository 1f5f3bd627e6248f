use Rattle.std.proofs.Common.{sym}
use Rattle.bitmap.proofs.InParts.{in_none, parts-none}
use Rattle.bitmap.proofs.high_numbers.HighNumbers.contains.Goals as goal

pub returns-in-None : goal.returns-in-None
returns-in-None c = rw (← c.self.view_is) (sym (in_none _ (parts-none c.self.inside.levels (λ levels. levels.value) c.in-None.is) c.args.number))
