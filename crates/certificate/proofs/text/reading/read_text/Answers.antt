use Rattle.std.proofs.Common.{rules}
use Rattle.std.proofs.lemmas.Result.{err_from_is_err_and}
use Rattle.certificate.specs.declared.certificate.Certificate.{Certificate}
use Rattle.certificate.specs.Grammar.{certificate_in, outline_of}
use Rattle.certificate.proofs.Items.{Reads-err, then-err, then-ok}
use Rattle.certificate.proofs.text.reading.read_text.Goals as goal

pub returns-in_err-version-clause-read : goal.returns-in_err-version-clause-read
unfolding certificate_in
returns-in_err-version-clause-read c =
    let p = err_from_is_err_and c.from_residual.result c.from_residual.ensures.1 in
    rw (p.1, p.2) (Reads-err {X = Certificate} outline_of _ _ (then-err _ _ _ (rw (c.new-lines.ensures.text) at c.in_err-version.ensures.read)))

pub returns-clause-read : goal.returns-clause-read
unfolding certificate_in
returns-clause-read c = search (rules, then-ok)
