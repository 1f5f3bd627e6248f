use Rattle.std.proofs.Common.{◌≡◌, ◌<◌, List, MatchResult, arith, refl, replicate, set, subst, sym, ◌∙◌, vec_len}
use Rattle.std.proofs.lemmas.Option.{slice_get_read}
use Rattle.std.proofs.lemmas.Result.{err_from_is_err_and}
use Rattle.arena_core.specs.Filled.{filled}
use Rattle.arena_core.specs.Rings.{CannotSend, RingState, Sends, new_ring}
use Rattle.arena_core.proofs.FilledLists.{filled-get, filled-set}
use Rattle.arena_core.proofs.RingSteps.{Sends-row, Sends-unreached}
use Rattle.arena_core.proofs.rings.Rings.send.Goals as goal

pub returns-in_err-reach_inbox : goal.returns-in_err-reach_inbox
returns-in_err-reach_inbox c =
    let refused = err_from_is_err_and c.from_residual.result c.from_residual.ensures.1 in
    let told = c.in_err-reach_inbox.ensures {u = tt} in
    let items = c.self.inside.inboxes.items in
    rw (refused.1, refused.2) (
      subst (λ (s : List (List RingState)). CannotSend c.in_err-reach_inbox.field-0.0 s c.args.worker c.args.key.span.shard) c.self.view_is
          (Sends-unreached c.self.inside.shards c.self.inside.capacity items c.args.worker c.args.key.span.shard
          (omega (arith, told.refused.0, c.self.inside.inboxes.ok.0)) c.self.invariant.1 c.in_err-reach_inbox.field-0.0 told.refused.1),
      told.same ∙ c.self.view_is,
    )

pub returns : goal.returns
returns c =
    let told = c.in_ok-reach_inbox.ensures {u = tt} in
    let items = c.reach_inbox.new.inboxes.items in
    let filling = replicate c.self.inside.shards (new_ring c.self.inside.capacity) in
    let below : c.args.key.span.shard < vec_len c.reach_inbox.new.inboxes = told.here in
    let there = slice_get_read items (vec_len c.reach_inbox.new.inboxes) c.args.key.span.shard c.index_mut.result.now c.reach_inbox.new.inboxes.ok.0 below
    c.index_mut.ensures.value in
    let all = filled c.self.inside.shards filling items in
    let now = filled c.self.inside.shards filling (set items c.args.key.span.shard c.send.new.self) in
    subst (λ (s : List (List RingState)). MatchResult c.send.result (λ sent. Sends s c.args.worker c.args.key now)
    (λ refusal. CannotSend refusal s c.args.worker c.args.key.span.shard × (now ≡ s))) (told.same ∙ c.self.view_is)
    (subst (λ (n : List (List RingState)). MatchResult c.send.result (λ sent. Sends all c.args.worker c.args.key n)
    (λ refusal. CannotSend refusal all c.args.worker c.args.key.span.shard × (n ≡ all)))
    (sym (filled-set c.self.inside.shards filling items c.args.key.span.shard c.send.new.self (omega (arith, below, c.reach_inbox.new.inboxes.ok.0))))
    (Sends-row all c.args.worker c.args.key.span.shard c.index_mut.result.now
    (filled-get c.self.inside.shards filling items c.args.key.span.shard c.index_mut.result.now there (omega (arith, below, told.few)))
    c.send.new.self c.args.key c.send.result refl c.send.ensures))
