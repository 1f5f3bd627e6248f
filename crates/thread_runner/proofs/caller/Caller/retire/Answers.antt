use Rattle.thread_runner.proofs.Names.{◌∙◌, ap, on_ok_weaker, Retires, Said, carried_by}
use Rattle.thread_runner.proofs.Carrying.{Carries-none, carried-kept}
use Rattle.thread_runner.proofs.Knowing.{TellsFrom-still}
use Rattle.thread_runner.proofs.caller.Caller.retire.Goals as goal

pub returns-clause-told : goal.returns-clause-told
returns-clause-told g c kept = on_ok_weaker c.other.result
    (TellsFrom-still c.args.number (Retires c.args.most) (Said c.in_ok-said.said) kept c.args.self.now c.other.new.self c.other.ensures.fresh
    (λ given known. c.in_ok-said.ensures c.args.most c.retire.ensures.at_most)
    (Carries-none _ _ (ap carried_by c.other.ensures.seat ∙ carried-kept c.args.self.now.seat c.retire.new.self c.retire.ensures.seat.kept)))
    c.other.ensures.told
