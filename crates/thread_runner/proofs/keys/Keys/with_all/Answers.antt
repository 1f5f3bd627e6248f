use Rattle.thread_runner.proofs.Names.{◌∷◌, [], arith, length, refl, subst, sym, take_all, slice_get_read, each-append, take_more, AreFresh, IsGiven}
use Rattle.thread_runner.proofs.keys.Keys.with_all.Goals as goal

pub loop-one-preserved : goal.loop-one-preserved
loop-one-preserved c =
    let latest = c.args.latest.now in
    let here = slice_get_read latest (length latest) c.loop-one.one-index c.one-item.result refl (omega (arith, c.loop-one-test.true, c.loop-one.auto.one-index-end)) c.one-item.is in
    record {
      before = λ given are. c.loop-one.invariant.before given (c.in_ok-keys.ensures.before given are);
      kept = λ given are. subst (λ f. AreFresh f given) (sym (take_more latest c.loop-one.one-index c.one-item.result here))
          (each-append (IsGiven given) _ (c.one-item.result ∷ []) (c.loop-one.invariant.kept given (c.in_ok-keys.ensures.before given are)) (c.in_ok-keys.ensures.kept given are, tt));
    }

pub returns-clause-kept : goal.returns-clause-kept
returns-clause-kept c given are =
    subst (λ f. AreFresh f given) (take_all c.loop-one.one-index c.args.latest.now (omega (arith, c.loop-one-test.false, c.loop-one.auto.one-index-end))) (c.loop-one.invariant.kept given are)
