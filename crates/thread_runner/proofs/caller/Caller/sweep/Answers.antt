use Rattle.thread_runner.proofs.Names.{◌≡◌, ◌+◌, ◌-◌, ◌∙◌, ◌∷◌, [], ℕ, ap, arith, map, refl, subst, sym, range_with_len, Asked, Frees, Seated, TellsFrom}
use Rattle.thread_runner.proofs.Growing.{Tells-next, Tells-none}
use Rattle.thread_runner.proofs.caller.Caller.sweep.Goals as goal

pub loop-index-preserved : goal.loop-index-preserved
loop-index-preserved g c =
    let free : ℕ → Asked = λ k. Frees (c.args.first + k) in
    let start = c.args.indices.start in
    let index = c.loop-index.index in
    let kept = c.args.keys.now.kept.items in
    let next : index - start + 1 ≡ index + 1 - start = omega arith in
    let whole : start + (index - start) ≡ index = omega arith in
    record {
      told = subst (λ n. TellsFrom c.args.number (map free (range_with_len start n)) kept c.args.self.now c.free.new.self) next
          (Tells-next _ _ _ free start (index - start) index _ _ _ _ _ _ _ _ _ _ _ whole
          (ap (λ (s : Seated). s.section) c.loop-index.invariant.seat) (ap (λ (s : Seated). s.worker) c.loop-index.invariant.seat) c.loop-index.invariant.told
          (subst (λ n. TellsFrom c.args.number (Frees n ∷ []) kept c.loop-index.self c.free.new.self) c.in_ok-place.ensures c.in_ok-free.ensures.told));
      bound = omega arith;
      seat = c.free.ensures.seat ∙ c.loop-index.invariant.seat;
    }

pub returns-clause-told : goal.returns-clause-told
returns-clause-told g c =
    let all : c.loop-index.index - c.args.indices.start ≡ c.args.indices.end - c.args.indices.start = omega arith in
    rw (← all) c.loop-index.invariant.told

pub loop-index-init : goal.loop-index-init
loop-index-init g c =
    let self = c.args.self.now in
    let start = c.args.indices.start in
    let none : start - start ≡ 0 = omega arith in
    record {
      told = subst (λ n. TellsFrom c.args.number (map (λ k. Frees (c.args.first + k)) (range_with_len start n)) c.args.keys.now.kept.items self self) (sym none)
          (Tells-none _ _ c.args.number _ _ _);
      bound = omega arith;
      seat = refl;
    }
