use Rattle.std.proofs.Common.{refl}
use Rattle.page.proofs.Padded.{is_zeros-take}
use Rattle.page.proofs.object_of_zeros.zeros.Goals as goal

pub returns-clause-zeros : goal.returns-clause-zeros
returns-clause-zeros c = is_zeros-take c.args.width _ refl
