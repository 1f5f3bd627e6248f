-- The receipts of a list.
use Rattle.std.specs.Prelude.{ℕ, ◌-◌, ◌^◌, List, vec_len, vec_capacity}
use Rattle.span.specs.StoredReceipts.{receipts_in}
use Rattle.span.specs.declared.receipt.Receipt.{Receipt}
use Rattle.span.specs.declared.receipt_list.ReceiptList.{ReceiptList}

-- the receipts that a list keeps
abbrev pub kept_receipts : ReceiptList → List Receipt
kept_receipts list = receipts_in list.words.items list.len list.runs.items

-- the lesser of two numbers
abbrev pub lesser : ℕ → ℕ → ℕ
lesser a b = a - (a - b)

-- how many more receipts the list takes with no memory: as far as it has room, and its length is a
-- number
abbrev pub receipt_room : ReceiptList → ℕ
receipt_room list = lesser (vec_capacity list.runs - vec_len list.runs) (2 ^ 64 - 1 - list.len)

-- how many more words the list takes with no memory
abbrev pub receipt_word_room : ReceiptList → ℕ
receipt_word_room list = vec_capacity list.words - vec_len list.words
