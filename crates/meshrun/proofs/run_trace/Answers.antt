use Rattle.command_line.specs.Job.{bytes_of}
use Rattle.meshrun.proofs.Named.{halts-in_file}
use Rattle.meshrun.proofs.run_trace.Goals as goal

pub returns-in-Err-clause-err : goal.returns-in-Err-clause-err
returns-in-Err-clause-err g c =
    rw (c.in_file.ensures, c.deref-in-Err.ensures.value, ← c.deref.ensures.value)
    (halts-in_file g.D.Store.held g.D.Store.failures (bytes_of c.args.path) c.in_ok-source.source.file c.args.serial c.args.replies (bytes_of c.args.certificate) c.deref.result.now
    (g.S.Sink.failures c.args.out.now) (g.S.Sink.failures c.replay.new.out) (g.S.Sink.taken c.args.out.now) (g.S.Sink.taken c.replay.new.out) c.args.store.now c.in_ok-source.ensures.named
    c.in-Err.fault c.in-Err.ensures.err)
