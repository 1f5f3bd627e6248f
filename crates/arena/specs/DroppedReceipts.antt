-- What contracts see of receipts that are not kept.
use Rattle.std.specs.Prelude.{List}
use Rattle.span.specs.declared.receipt.Receipt.{Receipt}
use Rattle.arena.specs.declared.receipts.Dropped.{Dropped}

-- the receipts that it was told, the oldest first, which proofs alone carry along
abbrev pub dropped_receipts : Dropped → List Receipt
dropped_receipts dropped = dropped.receipts.items
