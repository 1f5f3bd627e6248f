use Rattle.thread_runner.proofs.Names.{◌-◌, ◌∷◌, [], arith, refl, subst, slice_get_read, AreFresh, IsGiven, Given, each-parts}
use Rattle.thread_runner.proofs.Keeping.{AreFresh-more, IsGiven-one}
use Rattle.thread_runner.proofs.keys.enter.Goals as goal

pub returns-then-goes_on : goal.returns-then-goes_on
returns-then-goes_on c given are =
    let fresh = c.args.fresh.now in
    let last = c.index.result.now in
    AreFresh-more fresh.items (c.len-count.result - 1) last _ c.args.key c.args.place given
    (slice_get_read fresh.items _ (c.len-count.result - 1) last fresh.ok.0
    (omega (arith, fresh.ok.0, c.len-count.ensures, c.if-count-gt0.true)) c.index.ensures) refl refl refl
    (c.if-goes_on.ensures.place refl) (c.if-goes_on.ensures.key refl) are

pub returns : goal.returns
returns c given are =
    let one : Given = record { place = c.args.place; times = 1; key = c.args.key } in
    let parts = each-parts (IsGiven given) c.args.fresh.now.items (one ∷ []) (subst (λ f. AreFresh f given) c.in_ok-push.ensures.items are) in
    (parts.0, IsGiven-one c.args.place c.args.key given parts.1.0)
