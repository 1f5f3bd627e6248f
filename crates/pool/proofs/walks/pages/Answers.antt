use Rattle.std.proofs.Common.{◌∙◌, ◌∷◌, [], List, ap, arith, length, refl, sym, take, filter, length-append}
use Rattle.std.proofs.lemmas.Option.{slice_get_read}
use Rattle.pool.specs.State.{PooledState}
use Rattle.pool.proofs.Walked.{paged, paged-as_before, paged-more}
use Rattle.pool.proofs.walks.pages.Goals as goal
use Rattle.pool.proofs.walks.pages.Goals.{then-is_paged, else-is_paged}

pub loop-group-preserved : goal.loop-group-preserved
loop-group-preserved g c =
    let here = slice_get_read c.args.groups.now (length c.args.groups.now) c.loop-group.group-index c.group-item.result refl c.loop-group-test.true c.group-item.is in
    let before = c.loop-group.invariant in
    elim c.if-is_paged.branch [
      | then-is_paged w ↦
          let more = ap (λ (gs : List PooledState). length gs) (paged-more c.args.groups.now c.loop-group.group-index c.group-item.result here (sym c.is_paged.ensures ∙ w.if-is_paged.true)) in
          let count = length-append (filter paged (take c.loop-group.group-index c.args.groups.now)) (c.group-item.result ∷ []) in
          (omega (arith, before.0, more, count, w.pages-is), omega (arith, before.1, w.pages-is))
      | else-is_paged w ↦
          let same = ap (λ (gs : List PooledState). length gs) (paged-as_before c.args.groups.now c.loop-group.group-index c.group-item.result here (sym c.is_paged.ensures ∙ w.if-is_paged.false)) in
          (omega (arith, before.0, same, w.pages-is), omega (arith, before.1, w.pages-is))
    ]
