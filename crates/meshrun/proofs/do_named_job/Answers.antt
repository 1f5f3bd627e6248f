use Rattle.std.proofs.lemmas.Result.{IfErr-weaker, IfOk-weaker}
use Rattle.std.proofs.Common.{inr}
use Rattle.clap.specs.Walk.{texts}
use Rattle.meshrun.proofs.do_named_job.Goals as goal

pub returns-clause-done : goal.returns-clause-done
returns-clause-done g c =
    IfOk-weaker c.do_job.result _ _ (λ status does. (texts c.deref.result.now, c.in_ok-job.job, c.in_ok-job.ensures.named, does)) c.do_job.ensures.done

pub returns-clause-err : goal.returns-clause-err
returns-clause-err g c =
    IfErr-weaker c.do_job.result _ _ (λ stop halts. inr (texts c.deref.result.now, c.in_ok-job.job, c.in_ok-job.ensures.named, halts)) c.do_job.ensures.err
