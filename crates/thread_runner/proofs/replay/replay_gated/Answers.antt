use Rattle.thread_runner.proofs.Names.{List, Err, err_from_is_err_and, IsReadAs, Header, Line, IsNoFault}
use Rattle.trace_text.specs.declared.cause.ParseError.{ParseError}
use Rattle.trace_text.specs.declared.cause.ParseError.TheVariants.{OutOfMemory, BadTrace}
use Rattle.thread_runner.specs.Errors.{stop_of_parse}
use Rattle.thread_runner.proofs.Voices.{StopsThreads-run}
use Rattle.thread_runner.proofs.replay.replay_gated.Goals as goal

pub returns-in-Ok-clause-ok : goal.returns-in-Ok-clause-ok
returns-in-Ok-clause-ok g c = let written = c.in-Ok.ensures.whole in let value = c.as_slice.ensures.value in
    (c.in_ok-trace.trace, c.in_ok-replayed.replayed.report.items, c.in_ok-trace.ensures.trace, c.in_ok-replayed.ensures.ok, rw value at written)

pub returns-clause-err : goal.returns-clause-err
returns-clause-err g c = let written = c.in-Err.ensures.front in let value = c.as_slice.ensures.value in (
  c.in-Err.ensures.failed,
  (
    c.in_ok-trace.trace,
    c.in_ok-replayed.replayed.report.items,
    c.in_ok-replayed.replayed.certificate.items,
    c.in_ok-trace.ensures.trace,
    c.in_ok-replayed.ensures.ok,
    rw value at written,
  ),
)

-- a text that is a trace is at no fault
no_fault : (error : ParseError) (header : Header) (lines : List Line) → IsReadAs (Err error) header lines → IsNoFault (stop_of_parse error)
no_fault OutOfMemory header lines read = tt
no_fault (BadTrace line c) header lines read = absurd read

pub returns-in_err-trace-clause-accepted : goal.returns-in_err-trace-clause-accepted
returns-in_err-trace-clause-accepted g c header lines spells =
    let gives = err_from_is_err_and c.from_residual.result c.from_residual.ensures.1 in
    rw (gives.1, gives.2) (no_fault c.in_err-trace.field-0.0 header lines (c.in_err-trace.ensures.read header lines spells))

pub returns-in_err-replayed-clause-err : goal.returns-in_err-replayed-clause-err
returns-in_err-replayed-clause-err g c =
    let gives = err_from_is_err_and c.from_residual-in_err-replayed.result c.from_residual-in_err-replayed.ensures.1 in
    rw (gives.1, gives.2) (StopsThreads-run c.args.text.now c.in_ok-trace.trace c.args.replies (g.S.Sink.failures c.args.out.now)
    (g.S.Sink.taken c.args.out.now) c.in_err-replayed.field-0.0 c.in_ok-trace.ensures.trace c.in_err-replayed.ensures.err)
