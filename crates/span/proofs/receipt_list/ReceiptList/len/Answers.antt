use Rattle.std.proofs.Common.{arith}
use Rattle.span.proofs.KeptReceipts.{length-receipts_in}
use Rattle.span.proofs.receipt_list.ReceiptList.len.Goals as goal

pub returns : goal.returns
returns c = let list = c.args.self.now in let long = length-receipts_in list.words.items _ list.len 0 list.runs.items list.runs_are in omega arith
