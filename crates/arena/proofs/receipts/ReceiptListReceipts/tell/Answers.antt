use Rattle.std.proofs.Common.{arith}
use Rattle.arena.proofs.Frees.{call_words-IsFree}
use Rattle.arena.proofs.receipts.ReceiptListReceipts.tell.Goals as goal

pub push_reserved-requires-clause-words : goal.push_reserved-requires-clause-words
push_reserved-requires-clause-words c = omega (arith, call_words-IsFree c.args.receipt c.requires.free)
