use Rattle.std.proofs.Common.{◌∙◌, ◌++◌, ◌∷◌, [], List, Some, ap, arith, get_or, length, map, refl, subst, sym, take, take_all, filter}
use Rattle.std.proofs.lemmas.Option.{slice_get-get_or, slice_get_read}
use Rattle.groups.specs.Group.{summary}
use Rattle.groups.proofs.Lists.{there_at}
use Rattle.span.specs.declared.entry.Entry.{Entry}
use Rattle.pool.specs.Sparse.{AreParted}
use Rattle.pool.specs.State.{PooledState}
use Rattle.pool.proofs.SparseGroups.{AreParted-passed, AreParted-start, summaries-as_before, summaries-more}
use Rattle.pool.proofs.Walked.{paged}
use Rattle.pool.proofs.walks.summaries_below.Goals as goal
use Rattle.pool.proofs.walks.summaries_below.Goals.{then-is_paged+in_ok-push_below, else-is_paged}

pub loop-index-init : goal.loop-index-init
loop-index-init g c = rw c.new-list.ensures.items (AreParted-start c.args.bound c.args.groups.now)

pub loop-index-preserved : goal.loop-index-preserved
loop-index-preserved g c =
    let groups = c.args.groups.now in
    let bound = c.args.bound in
    let index = c.loop-index.index in
    let group = c.index-groups-index.result in
    let before = map summary (filter paged (take index groups)) in
    let here = slice_get_read groups (length groups) index group refl c.loop-index-test.true c.index-groups-index.is in
    elim c.if-is_paged.branch [
      | then-is_paged+in_ok-push_below w ↦
          let more = ap (λ (e : Entry). before ++ e ∷ []) w.entry.ensures ∙ summaries-more groups index group here (sym c.is_paged.ensures ∙ w.if-is_paged.true) in
          rw w.list-is (subst (λ (entries : List Entry). AreParted bound entries w.push_below.new.list.items) more ((w.in_ok-push_below.ensures {u = tt}) before c.loop-index.invariant))
      | else-is_paged w ↦
          rw w.list-is (subst (λ (entries : List Entry). AreParted bound entries c.loop-index.list.items)
          (summaries-as_before groups index group here (sym c.is_paged.ensures ∙ w.if-is_paged.false)) c.loop-index.invariant)
    ]

-- its byte says that too many slots are live
pub loop-index-preserved-then-least_of-bound : goal.loop-index-preserved-then-least_of-bound
loop-index-preserved-then-least_of-bound g c =
    let groups = c.args.groups.now in
    let index = c.loop-index.index in
    let (group, here) = there_at groups index (omega (arith, c.loop-index-test.true)) in
    let byte = slice_get-get_or c.args.least.now index 0 (omega (arith, c.loop-index-test.true, c.requires.bytes)) in
    AreParted-passed groups index group here c.args.bound c.loop-index.list.items (omega (arith, c.requires.known index (get_or c.args.least.now index 0) group byte here, c.least_of.ensures, c.if-least_of-bound.true))
    c.loop-index.invariant

pub returns : goal.returns
returns g c = subst (λ (groups : List PooledState). AreParted c.args.bound (map summary (filter paged groups)) c.loop-index.list.items)
    (take_all c.loop-index.index c.args.groups.now (omega (arith, c.loop-index-test.false))) c.loop-index.invariant
