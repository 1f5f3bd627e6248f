use Rattle.std.proofs.Common.{refl, subst, sym}
use Rattle.std.proofs.lemmas.Result.{err_from_is_err_and}
use Rattle.meshrun.specs.Done.{DoesJob}
use Rattle.meshrun.proofs.do_job.Goals as goal

pub returns-in_ok-run_trace-in-Run-clause-done : goal.returns-in_ok-run_trace-in-Run-clause-done
returns-in_ok-run_trace-in-Run-clause-done g c =
    subst (λ job. DoesJob g.D.Store.held job (g.S.Sink.taken c.args.out.now) (g.S.Sink.taken c.run_trace.new.out) c.args.store.now c.run_trace.new.store 0)
    (sym c.in-Run.is) (c.in_ok-run_trace-in-Run.ensures.done, refl)

pub returns-in_err-run_trace-in-Run-clause-err : goal.returns-in_err-run_trace-in-Run-clause-err
returns-in_err-run_trace-in-Run-clause-err g c =
    let refused = err_from_is_err_and c.from_residual.result c.from_residual.ensures.1 in
    rw (refused.1, refused.2, c.in-Run.is) c.in_err-run_trace-in-Run.ensures.err
