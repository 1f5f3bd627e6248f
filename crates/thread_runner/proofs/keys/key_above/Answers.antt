use Rattle.thread_runner.proofs.Names.{◌≡◌, ◌+◌, Some, ap, rules, same_key-parts}
use Rattle.thread_runner.proofs.keys.key_above.Goals as goal

pub returns : goal.returns
returns c =
    let parts = c.in_ok-above.ensures.parts in
    let slots : c.in_ok-above.above.slot ≡ c.args.key.slot + c.args.by = search rules in
    ap Some (same_key-parts c.in_ok-above.above (record c.args.key { slot = c.args.key.slot + c.args.by }) parts.0 slots parts.2)
