use Rattle.thread_runner.proofs.Names.{OnOk, ap, refl, subst, sym, on_ok_weaker, Ends, Said, asked_by, puts_from, carried_by, TellsFrom}
use Rattle.trace_runner.specs.declared.report.Other.TheVariants as other
use Rattle.thread_runner.proofs.Carrying.{Carries-none}
use Rattle.thread_runner.proofs.Knowing.{TellsFrom-still}
use Rattle.thread_runner.proofs.caller.Caller.call.Goals as goal

pub returns-in-Fill-clause-told : goal.returns-in-Fill-clause-told
returns-in-Fill-clause-told g c above spot =
    let self = c.args.self.now in
    let later = c.fill.new.self in
    let kept = c.args.keys.now.kept.items in
    subst (λ l. OnOk c.fill.result (TellsFrom c.args.spot.number (asked_by above l) kept self later)) (sym c.in-Fill.is)
    (subst (λ n. OnOk c.fill.result (TellsFrom c.args.spot.number (puts_from n c.in-Fill.class c.in-Fill.count c.in-Fill.value) kept self later)) spot.0 (c.fill.ensures.told kept))

pub returns-in-End-clause-told : goal.returns-in-End-clause-told
returns-in-End-clause-told g c above spot =
    let self = c.args.self.now in
    let later = c.other.new.self in
    let kept = c.args.keys.now.kept.items in
    subst (λ l. OnOk c.other.result (TellsFrom c.args.spot.number (asked_by above l) kept self later)) (sym c.in-End.is)
    (on_ok_weaker c.other.result
    (TellsFrom-still c.args.spot.number Ends (Said other.Ended) kept self later c.other.ensures.fresh (λ given known. refl) (Carries-none _ _ (ap carried_by c.other.ensures.seat)))
    c.other.ensures.told)
