use Rattle.std.proofs.Common.{◌∙◌, ◌++◌, ◌∷◌, [], ap, length, map, refl, sym, take, filter}
use Rattle.std.proofs.lemmas.Option.{slice_get_read}
use Rattle.std.proofs.lemmas.List.{map-append}
use Rattle.groups.specs.Group.{summary}
use Rattle.pool.proofs.Walked.{paged, paged-as_before, paged-more}
use Rattle.pool.proofs.walks.summaries.Goals as goal
use Rattle.pool.proofs.walks.summaries.Goals.{then-is_paged+in_ok-push, else-is_paged}

pub loop-group-preserved : goal.loop-group-preserved
loop-group-preserved g c =
    let here = slice_get_read c.args.groups.now (length c.args.groups.now) c.loop-group.group-index c.group-item.result refl c.loop-group-test.true c.group-item.is in
    elim c.if-is_paged.branch [
      | then-is_paged+in_ok-push w ↦
          let more = paged-more c.args.groups.now c.loop-group.group-index c.group-item.result here (sym c.is_paged.ensures ∙ w.if-is_paged.true) in
          rw w.list-is (w.in_ok-push.ensures.items ∙ rw w.entry.ensures (ap (λ xs. xs ++ summary c.group-item.result ∷ []) c.loop-group.invariant
          ∙ sym (ap (map summary) more ∙ map-append summary (filter paged (take c.loop-group.group-index c.args.groups.now)) (c.group-item.result ∷ []))))
      | else-is_paged w ↦
          let same = paged-as_before c.args.groups.now c.loop-group.group-index c.group-item.result here (sym c.is_paged.ensures ∙ w.if-is_paged.false) in
          rw w.list-is (c.loop-group.invariant ∙ sym (ap (map summary) same))
    ]
