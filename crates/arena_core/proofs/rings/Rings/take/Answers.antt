use Rattle.std.proofs.Common.{◌≡◌, ◌<◌, List, MatchResult, None, arith, refl, replicate, set, subst, sym, vec_len}
use Rattle.std.proofs.lemmas.Option.{slice_get_read}
use Rattle.arena_core.specs.declared.reply.Refusal.TheVariants.{Config}
use Rattle.arena_core.specs.Filled.{filled}
use Rattle.arena_core.specs.Rings.{RingState, Takes, new_ring, ring_at}
use Rattle.arena_core.proofs.FilledLists.{filled-get, filled-set, no_item}
use Rattle.arena_core.proofs.RingSteps.{Takes-answer, Takes-unreached}
use Rattle.arena_core.proofs.rings.Rings.take.Goals as goal

pub returns-in_default : goal.returns-in_default
returns-in_default c =
    let items = c.self.inside.inboxes.items in
    let all = filled c.self.inside.shards (replicate c.self.inside.shards (new_ring c.self.inside.capacity)) items in
    subst (λ (s : List (List RingState)). MatchResult c.none_waits.result (λ found. Takes s c.args.worker c.args.shard found all)
    (λ refusal. (refusal ≡ Config) × (ring_at s c.args.worker c.args.shard ≡ None) × (all ≡ s))) c.self.view_is
    (Takes-unreached c.self.inside.shards c.self.inside.capacity items c.args.worker c.args.shard
    (no_item items (vec_len c.self.inside.inboxes) c.args.shard c.self.inside.inboxes.ok.0 c.in_default.ensures.variant.1)
    c.none_waits.result c.none_waits.ensures)

pub returns : goal.returns
returns c =
    let items = c.self.inside.inboxes.items in
    let filling = replicate c.self.inside.shards (new_ring c.self.inside.capacity) in
    let below : c.args.shard < vec_len c.self.inside.inboxes = c.in-Some.ensures.variant.0 refl in
    let there = slice_get_read items (vec_len c.self.inside.inboxes) c.args.shard c.in-Some.inbox.now c.self.inside.inboxes.ok.0 below c.in-Some.ensures.value in
    let all = filled c.self.inside.shards filling items in
    let now = filled c.self.inside.shards filling (set items c.args.shard c.take.new.self) in
    subst (λ (s : List (List RingState)). MatchResult c.take.result (λ found. Takes s c.args.worker c.args.shard found now)
    (λ refusal. (refusal ≡ Config) × (ring_at s c.args.worker c.args.shard ≡ None) × (now ≡ s))) c.self.view_is
    (subst (λ (n : List (List RingState)). MatchResult c.take.result (λ found. Takes all c.args.worker c.args.shard found n)
    (λ refusal. (refusal ≡ Config) × (ring_at all c.args.worker c.args.shard ≡ None) × (n ≡ all)))
    (sym (filled-set c.self.inside.shards filling items c.args.shard c.take.new.self (omega (arith, below, c.self.inside.inboxes.ok.0))))
    (Takes-answer all c.args.worker c.args.shard c.in-Some.inbox.now
    (filled-get c.self.inside.shards filling items c.args.shard c.in-Some.inbox.now there (omega (arith, below, c.self.invariant.0)))
    c.take.new.self c.take.result c.take.ensures))
