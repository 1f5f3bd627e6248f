use Rattle.thread_runner.proofs.Names.{kept_receipts, map, err_from_is_err_and}
use Rattle.thread_runner.proofs.Voices.{IsRunStop-audit, IsThreadedReport-told}
use Rattle.thread_runner.proofs.replay.audited.Goals as goal

pub returns-in_err-held_against-clause-err : goal.returns-in_err-held_against-clause-err
returns-in_err-held_against-clause-err g c =
    let gives = err_from_is_err_and c.from_residual-in_err-held_against.result c.from_residual-in_err-held_against.ensures.1 in
    rw (gives.1, gives.2)
    (IsRunStop-audit c.args.trace.now c.args.shown c.args.logs.now c.args.told.diaries.items
    (map kept_receipts c.in_ok-receipts.receipts.items) c.in_err-held_against.field-0.0 c.in_ok-receipts.ensures c.requires.voices
    (rw c.as_slice.ensures.value at c.in_err-held_against.ensures.err))

pub returns-clause-ok : goal.returns-clause-ok
returns-clause-ok g c =
    IsThreadedReport-told c.args.trace.now c.args.shown c.args.logs.now c.args.told.diaries.items (map kept_receipts c.in_ok-receipts.receipts.items) c.args.told.notes.items c.args.ending.now
    c.args.told.certificate.items c.in_ok-report.report.items
    c.extend_from_slice.new.self.items c.in_ok-receipts.ensures c.in_ok-report.ensures c.requires.voices c.requires.calls c.requires.notes c.requires.live
    (rw c.as_slice.ensures.value at c.in_ok-held_against.ensures.agreed) (rw c.as_slice.ensures.value at c.in_ok-held_against.ensures.histories) c.in_ok-extend_from_slice.ensures.items
