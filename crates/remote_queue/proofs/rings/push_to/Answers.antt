use Rattle.std.proofs.Common.{◌≡◌, arith, ap, subst, sym, ◌∙◌, ◌++◌, ◌∷◌, []}
use Rattle.std.proofs.lemmas.List.Elements.{All-set, All-get_or, All-push}
use Rattle.remote_queue.specs.Rings.{AreFreshInboxes}
use Rattle.remote_queue.proofs.Tables.{mapped_within}
use Rattle.remote_queue.proofs.rings.push_to.Goals as goal

pub returns-clause-rings : goal.returns-clause-rings
returns-clause-rings c =
    mapped_within (λ v. v.items) (λ i. i.ring) c.args.columns.now.items c.args.shard c.push.new.self _ c.args.inbox (omega arith)
    (c.in_ok-push.ensures.items ∙ ap (λ v. v.items ++ c.args.inbox ∷ []) c.index_mut.ensures.value)

pub returns-clause-untaken : goal.returns-clause-untaken
returns-clause-untaken c =
    let was = c.in_ok-push.ensures.items ∙ ap (λ v. v.items ++ c.args.inbox ∷ []) c.index_mut.ensures.value in
    let old = All-get_or (λ v. AreFreshInboxes v.items) c.args.columns.now.items c.args.shard _ (omega arith) c.requires.untaken_before in
    All-set (λ v. AreFreshInboxes v.items) c.args.columns.now.items c.args.shard c.push.new.self
    (subst AreFreshInboxes (sym was) (All-push (λ i. i.taken ≡ []) _ c.args.inbox old c.requires.untaken)) c.requires.untaken_before
