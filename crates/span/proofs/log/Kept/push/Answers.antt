use Rattle.std.proofs.Common.{arith, rules}
use Rattle.span.proofs.KeptWords.{is_pushed}
use Rattle.span.proofs.log.Kept.push.Goals as goal

pub invariant_of-self : goal.invariant_of-self
invariant_of-self c =
    let log = c.args.self.now in
    let pushed = is_pushed log.words.items c.args.words.now log.bases.items c.begin_block.new.bases.items c.as_slice.result.now log.changes.items
    c.args.kind c.args.slot c.args.generation c.len-first.result c.len-block.result c.base_of.result log.within log.blocks
    (omega (arith, c.len-first.ensures, log.words.ok.0)) (omega (arith, c.len-block.ensures, log.changes.ok.0))
    c.begin_block.ensures.noted c.begin_block.ensures.new c.as_slice.ensures.value c.base_of.ensures c.requires.width in
    rw (c.push_reserved.ensures.items, c.push_words.ensures.items) (record { within = pushed.within; blocks = pushed.blocks })

pub returns-clause-changes : goal.returns-clause-changes
returns-clause-changes c = search (rules, is_pushed)
