use Rattle.thread_runner.proofs.Names.{◌≡◌, ◌+◌, ◌∙◌, ◌∷◌, [], ap, arith, refl, subst, ℕ, zero-add, counted_from, Asked, Puts, Seated, TellsFrom}
use Rattle.thread_runner.proofs.Growing.{Tells-next, Tells-none}
use Rattle.thread_runner.proofs.caller.Caller.fill.Goals as goal

pub loop-i-preserved : goal.loop-i-preserved
loop-i-preserved g c =
    let put : ℕ → Asked = λ k. Puts (c.args.first + k) (counted_from c.args.class (c.args.value + k)) in
    let i = c.loop-i.i in
    record {
      told = λ kept. Tells-next _ _ _ put 0 i i _ _ _ _ _ _ _ _ _ _ _ (zero-add i)
          (ap (λ (s : Seated). s.section) c.loop-i.invariant.seat) (ap (λ (s : Seated). s.worker) c.loop-i.invariant.seat) (c.loop-i.invariant.told kept)
          (subst (λ n. TellsFrom c.args.number (Puts n (counted_from c.args.class (c.args.value + i)) ∷ []) kept c.loop-i.self c.put.new.self)
          c.in_ok-place.ensures (rw c.from.ensures at (c.in_ok-put.ensures.told kept)));
      seat = c.put.ensures.seat ∙ c.loop-i.invariant.seat;
    }

pub loop-i-init : goal.loop-i-init
loop-i-init g c = record { told = λ kept. Tells-none _ _ c.args.number _ _ _; seat = refl }

pub returns-clause-told : goal.returns-clause-told
returns-clause-told g c kept =
    let all : c.loop-i.i ≡ c.args.count = omega arith in
    rw (← all) (c.loop-i.invariant.told kept)
