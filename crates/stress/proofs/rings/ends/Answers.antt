use Rattle.std.proofs.Common.{◌≡◌, sym, ◌∙◌, Some}
use Rattle.stress.proofs.Single.{first_cell}
use Rattle.stress.proofs.rings.ends.Goals as goal

pub returns : goal.returns
returns c =
    let said = c.in-Ok.ensures in
    let sent = first_cell (λ outbox. outbox.ring) c.in-Ok.links.outboxes.items _ c.in_ok-pop.field-0 _ c.in_ok-outbox.outbox c.in_ok-pop.ensures.items
    c.in_ok-outbox.ensures.items said.workers_are said.rows_are_long in
    let taken = first_cell (λ inbox. inbox.ring) c.in-Ok.links.inboxes.items _ c.in_ok-pop-2.field-0 _ c.in_ok-inbox.inbox c.in_ok-pop-2.ensures.items
    c.in_ok-inbox.ensures.items said.shards_are said.columns_are_long in
    let same : Some c.in_ok-outbox.outbox.ring ≡ Some c.in_ok-inbox.inbox.ring = sym sent ∙ said.rings_are 0 0 ∙ taken in
    cc
