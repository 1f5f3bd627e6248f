-- The receipt that is read in place.
use Rattle.std.specs.Prelude.{ℕ, List, [], ◌∷◌}
use Rattle.span.specs.declared.receipt.Call.{Call}
use Rattle.span.specs.declared.receipt.Call.TheVariants as call
use Rattle.span.specs.declared.receipt.Receipt.{Receipt}
use Rattle.span.specs.declared.object_view.ObjectView.{ObjectView}
use Rattle.span.specs.declared.object_view.ObjectView.TheVariants.{Lent, Word}
use Rattle.span.specs.declared.receipt_view.CallView.{CallView}
use Rattle.span.specs.declared.receipt_view.CallView.TheVariants.{Put, Found, NotFound, Set, NotSet, Freed, NotFreed}
use Rattle.span.specs.declared.receipt_view.ReceiptView.{ReceiptView}

-- the words of the object that a view shows
abbrev pub words_viewed : ObjectView → List ℕ
words_viewed (Lent words) = words.now
words_viewed (Word word) = word ∷ []

-- the call that a view shows, with its words
abbrev pub call_viewed : CallView → Call
call_viewed (Put value) = call.Put (words_viewed value)
call_viewed (Found value) = call.Found (words_viewed value)
call_viewed NotFound = call.NotFound
call_viewed (Set value) = call.Set (words_viewed value)
call_viewed (NotSet value) = call.NotSet (words_viewed value)
call_viewed Freed = call.Freed
call_viewed NotFreed = call.NotFreed

-- the receipt that a view shows, with its words
abbrev pub receipt_viewed : ReceiptView → Receipt
receipt_viewed view = record {
  key = view.key;
  worker = view.worker;
  section = view.section;
  at = view.at;
  call = call_viewed view.call;
}
