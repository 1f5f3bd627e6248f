use Rattle.std.proofs.Common.{◌∙◌}
use Rattle.std.proofs.lemmas.Result.{err_from_is_err_and}
use Rattle.certificate.specs.Grammar.{outline_of}
use Rattle.certificate.specs.declared.certificate.Certificate.{Certificate}
use Rattle.certificate.proofs.Items.{Reads-err, body_in-read, then-err, then-ok}
use Rattle.certificate.proofs.text.reading.read_body.Goals as goal

pub returns-in_err-read_ending-clause-read : goal.returns-in_err-read_ending-clause-read
returns-in_err-read_ending-clause-read c =
    let p = err_from_is_err_and c.from_residual-in_err-read_ending.result c.from_residual-in_err-read_ending.ensures.1 in
    let wanted = rw (c.from_ascending.ensures.abandoned, c.from_ascending.ensures.owned, c.new.ensures, c.new-2.ensures) at c.is_wanted.ensures in
    rw (p.1, p.2) (Reads-err {X = Certificate} outline_of _ _ (
    body_in-read c.args.version c.in_ok-abandoned.abandoned.items c.in_ok-owned.owned.items c.in_ok-folds.folds.items c.in_ok-short.short.items c.requires
    (record { read = c.in_ok-abandoned.ensures.read; text_is = c.in_ok-abandoned.ensures.text; place = c.in_ok-abandoned.ensures.passed })
    (record { read = c.in_ok-owned.ensures.read; text_is = c.in_ok-owned.ensures.text; place = c.in_ok-owned.ensures.passed })
    (record { read = c.in_ok-folds.ensures.read; text_is = c.in_ok-folds.ensures.text; place = c.in_ok-folds.ensures.passed })
    (record { read = c.in_ok-short.ensures.read; text_is = c.in_ok-short.ensures.text; place = c.in_ok-short.ensures.passed })
    ∙ then-err _ _ _ (rw wanted at c.in_err-read_ending.ensures)))

pub returns-clause-read : goal.returns-clause-read
returns-clause-read c =
    let wanted = rw (c.from_ascending.ensures.abandoned, c.from_ascending.ensures.owned, c.new.ensures, c.new-2.ensures) at c.is_wanted.ensures in
    rw (c.from_ascending.ensures.abandoned, c.from_ascending.ensures.owned, c.new.ensures, c.new-2.ensures) (
    body_in-read c.args.version c.in_ok-abandoned.abandoned.items c.in_ok-owned.owned.items c.in_ok-folds.folds.items c.in_ok-short.short.items c.requires
    (record { read = c.in_ok-abandoned.ensures.read; text_is = c.in_ok-abandoned.ensures.text; place = c.in_ok-abandoned.ensures.passed })
    (record { read = c.in_ok-owned.ensures.read; text_is = c.in_ok-owned.ensures.text; place = c.in_ok-owned.ensures.passed })
    (record { read = c.in_ok-folds.ensures.read; text_is = c.in_ok-folds.ensures.text; place = c.in_ok-folds.ensures.passed })
    (record { read = c.in_ok-short.ensures.read; text_is = c.in_ok-short.ensures.text; place = c.in_ok-short.ensures.passed })
    ∙ then-ok _ _ _ (rw wanted at c.in_ok-read_ending.ensures))
