use Rattle.thread_runner.proofs.Names.{◌∙◌, ap, refl, on_ok_weaker, Said, Trims, carried_by}
use Rattle.trace_runner.specs.declared.report.Other.TheVariants as other
use Rattle.thread_runner.proofs.Carrying.{Carries-none, carried-kept}
use Rattle.thread_runner.proofs.Knowing.{TellsFrom-still}
use Rattle.thread_runner.proofs.caller.Caller.trim.Goals as goal

pub returns-clause-told : goal.returns-clause-told
returns-clause-told g c kept = on_ok_weaker c.other.result
    (TellsFrom-still c.args.number Trims (Said (other.Trimmed c.trim-count.result)) kept c.args.self.now c.other.new.self c.other.ensures.fresh (λ given known. refl)
    (Carries-none _ _ (ap carried_by c.other.ensures.seat ∙ carried-kept c.args.self.now.seat c.trim-count.new.self c.trim-count.ensures.seat.kept)))
    c.other.ensures.told
