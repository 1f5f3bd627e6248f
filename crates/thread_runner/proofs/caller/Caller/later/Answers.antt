use Rattle.thread_runner.proofs.Names.{◌∙◌, ◌∷◌, [], ap, rules, subst, sym, IsTrue, on_ok_weaker, Leaves, Left, Said, carried_by, Carries}
use Rattle.trace_runner.specs.declared.report.Other.TheVariants as other
use Rattle.thread_runner.proofs.Carrying.{Carries-none, Carries-sent, carried-unsent}
use Rattle.thread_runner.proofs.Knowing.{IsKeptBack-none, IsKeptBack-some, None-not_some, TellsFrom-still}
use Rattle.thread_runner.proofs.caller.Caller.later.Goals as goal

pub returns-in_default-clause-told : goal.returns-in_default-clause-told
returns-in_default-clause-told g c = on_ok_weaker c.other.result
    (TellsFrom-still c.args.number (Leaves c.args.place) (Said other.Unbound) c.args.keys.now.kept.items c.args.self.now c.other.new.self c.other.ensures.fresh
    (λ given known. IsKeptBack-none (given c.args.place) (c.in_ok-key.ensures given known ∙ None-not_some c.in_ok-key.field-0 c.in_default.not-Some))
    (Carries-none _ _ (ap carried_by c.other.ensures.seat)))
    c.other.ensures.told

pub returns-in-Ok-clause-told : goal.returns-in-Ok-clause-told
returns-in-Ok-clause-told g c =
    let self = c.args.self.now in
    let key = c.in-Some.key in
    let there : IsTrue c.has_shard_of.result = search rules in
    on_ok_weaker c.other-in-Ok.result
    (TellsFrom-still c.args.number (Leaves c.args.place) (Left key) c.args.keys.now.kept.items self c.other-in-Ok.new.self c.other-in-Ok.ensures.fresh
    (λ given known. c.in_ok-key.ensures given known ∙ c.in-Some.is)
    (subst (λ s. Carries (key ∷ []) [] (carried_by self.seat) (carried_by s)) (sym c.other-in-Ok.ensures.seat)
    (Carries-sent key self.seat c.free_later.new.self (c.has_shard_of.ensures.end there) c.in-Ok.ensures.sent c.free_later.ensures.seat.2)))
    c.other-in-Ok.ensures.told

pub returns-in-Err-clause-told : goal.returns-in-Err-clause-told
returns-in-Err-clause-told g c = on_ok_weaker c.other-in-Err.result
    (TellsFrom-still c.args.number (Leaves c.args.place) (Said other.RingFull) c.args.keys.now.kept.items c.args.self.now c.other-in-Err.new.self c.other-in-Err.ensures.fresh
    (λ given known. IsKeptBack-some (given c.args.place) c.in-Some.key (c.in_ok-key.ensures given known ∙ c.in-Some.is))
    (Carries-none _ _ (ap carried_by c.other-in-Err.ensures.seat ∙ carried-unsent c.args.self.now.seat c.free_later.new.self c.in-Err.ensures.sent.1 c.free_later.ensures.seat.2)))
    c.other-in-Err.ensures.told
