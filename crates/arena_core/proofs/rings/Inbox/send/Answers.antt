use Rattle.std.proofs.Common.{◌≡◌, ◌<◌, List, MatchResult, arith, set, subst, sym, ◌∙◌, vec_len}
use Rattle.std.proofs.lemmas.Option.{slice_get_read}
use Rattle.std.proofs.lemmas.Result.{err_from_is_err_and}
use Rattle.arena_core.specs.Filled.{CannotSendIn, SendsIn, filled}
use Rattle.arena_core.specs.Rings.{RingState, new_ring}
use Rattle.arena_core.proofs.FilledLists.{filled-get, filled-set}
use Rattle.arena_core.proofs.RingSteps.{SendsIn-ring, SendsIn-unreached}
use Rattle.arena_core.proofs.rings.Inbox.send.Goals as goal

pub returns-in_err-reach_ring : goal.returns-in_err-reach_ring
returns-in_err-reach_ring c =
    let refused = err_from_is_err_and c.from_residual.result c.from_residual.ensures.1 in
    let told = c.in_err-reach_ring.ensures {u = tt} in
    let items = c.self.inside.rings.items in
    rw (refused.1, refused.2) (
      subst (λ (r : List RingState). CannotSendIn c.in_err-reach_ring.field-0.0 r c.args.worker) c.self.view_is
          (SendsIn-unreached c.self.inside.workers c.self.inside.capacity c.self.invariant.1 items c.args.worker
          (omega (arith, told.refused.0, c.self.inside.rings.ok.0)) c.in_err-reach_ring.field-0.0 told.refused.1),
      told.same ∙ c.self.view_is,
    )

pub returns : goal.returns
returns c =
    let told = c.in_ok-reach_ring.ensures {u = tt} in
    let items = c.reach_ring.new.rings.items in
    let filling = new_ring c.self.inside.capacity in
    let below : c.args.worker < vec_len c.reach_ring.new.rings = told.here in
    let there = slice_get_read items (vec_len c.reach_ring.new.rings) c.args.worker c.index_mut.result.now c.reach_ring.new.rings.ok.0 below c.index_mut.ensures.value in
    let row = filled c.self.inside.workers filling items in
    let now = filled c.self.inside.workers filling (set items c.args.worker c.send.new.self) in
    subst (λ (r : List RingState). MatchResult c.send.result (λ sent. SendsIn r c.args.worker c.args.key now)
    (λ refusal. CannotSendIn refusal r c.args.worker × (now ≡ r))) (told.same ∙ c.self.view_is)
    (subst (λ (n : List RingState). MatchResult c.send.result (λ sent. SendsIn row c.args.worker c.args.key n)
    (λ refusal. CannotSendIn refusal row c.args.worker × (n ≡ row)))
    (sym (filled-set c.self.inside.workers filling items c.args.worker c.send.new.self (omega (arith, below, c.reach_ring.new.rings.ok.0))))
    (SendsIn-ring row c.args.worker c.index_mut.result.now
    (filled-get c.self.inside.workers filling items c.args.worker c.index_mut.result.now there (omega (arith, below, told.few)))
    c.send.new.self c.args.key c.send.result c.send.ensures))
