use Rattle.std.proofs.Common.{◌≡◌, arith, subst, take}
use Rattle.arena.specs.Receipts.{AddsFrees}
use Rattle.arena.proofs.Frees.{freed_next}
use Rattle.arena.proofs.arena.Arena.free_first.Goals as goal

pub returns-clause-freed : goal.returns-clause-freed
returns-clause-freed g c =
    let none : c.in_ok-at_home.at_home ≡ 0 = omega (arith, c.if-at_home-gt0.false) in
    let before = g.K.Receipts.told c.args.receipts.now in
    let mid = g.K.Receipts.told c.free_at_home.new.receipts in
    freed_next c.args.keys.now 0 _ c.index-keys-0.result c.free_receipt.result before mid _ c.requires.some c.index-keys-0.is
    (subst (λ n. AddsFrees c.args.worker c.args.section (take n c.args.keys.now) before mid) none c.in_ok-at_home.ensures.freed)
    c.tell.ensures.told c.free_receipt.ensures.free
