use Rattle.std.proofs.Common.{rules}
use Rattle.std.proofs.Math.Seq.{take-append_seam}
use Rattle.certificate.proofs.partner.rows_over.Goals as goal

pub returns : goal.returns
returns g c = search (rules, take-append_seam)
