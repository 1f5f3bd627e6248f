use Rattle.std.proofs.Common.{◌≡◌, ◌+◌, ◌-◌, ◌∙◌, ap, arith, get_or, sym}
use Rattle.span.specs.Ids.{same_span}
use Rattle.audit.proofs.Lists.{read_at}
use Rattle.audit.proofs.log.has_twice.Goals as goal

pub returns-then-is_same-clause-yes : goal.returns-then-is_same-clause-yes
returns-then-is_same-clause-yes c = λ found.
    let places = c.args.places.now in
    let k = c.loop-k.k in
    let back : k - 1 + 1 ≡ k = omega (arith, c.loop-k.auto.k) in (
      k - 1,
      omega (arith, c.loop-k.auto.k, c.loop-k.auto.k-end, c.loop-k-test.true),
      λ d.
          let first = read_at places (k - 1) c.index-places-k.result d (omega (arith, c.loop-k.auto.k, c.loop-k.auto.k-end, c.loop-k-test.true)) c.index-places-k.is in
          let second = read_at places k c.index-places-k-in-loop-k.result d (omega (arith, c.loop-k.auto.k-end, c.loop-k-test.true)) c.index-places-k-in-loop-k.is in
          (λ t. same_span ((sym first ∙ c.index-places-k.is) t).span ((ap (λ n. get_or places n d) back ∙ sym second ∙ c.index-places-k-in-loop-k.is) t).span)
          ∙ sym c.is_same.ensures ∙ c.if-is_same.true,
    )
