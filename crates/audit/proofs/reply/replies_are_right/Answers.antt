use Rattle.audit.proofs.reply.replies_are_right.Goals as goal

pub lists_are_right-requires-clause-orders : goal.lists_are_right-requires-clause-orders
lists_are_right-requires-clause-orders c = rw c.as_slice-orders.ensures.value (c.in_ok-orders.ensures {u = tt}).each
