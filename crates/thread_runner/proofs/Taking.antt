-- What a diary keeps of the keys that were taken from rings.
use Rattle.thread_runner.proofs.Names.{kept_receipts, ◌≡◌, ◌∙◌, ◌++◌, ℕ, Bool, true, false, List, [], ◌∷◌, ap, append-nil, arith, length, refl, sym, suc, ◌+◌, All, AllByRecursion, length-map, Receipt, done_by, KeepsEnds, SeatState, sending_side, IsTended, IsFreeBy, carried_by, Grows, TellsTending, is_free, Diary}
use Rattle.span.specs.Receipts.{free}
use Rattle.arena.specs.Receipts.{IsFreeBy as IsKeyFreeBy}
use Rattle.thread_runner.specs.declared.diary.Entry.TheVariants as entry
use Rattle.thread_runner.proofs.Carrying.{Carries-tended}

pub is_free-free : (done : Bool) → is_free (free done) ≡ true
is_free-free true = refl
is_free-free false = refl

-- the receipt of a free of a key is one of a free
pub IsFreeBy-key : (worker section : ℕ) (receipt : Receipt) → IsKeyFreeBy worker section receipt.key receipt → IsFreeBy section worker receipt
IsFreeBy-key worker section receipt is = record {
  by = ap (λ (r : Receipt). r.worker) is;
  in_section = ap (λ (r : Receipt). r.section) is;
  frees = ap (λ (r : Receipt). is_free r.call) is ∙ is_free-free (done_by receipt.call);
}

frees-each : (worker section : ℕ) (receipts : List Receipt) → All (λ receipt. IsKeyFreeBy worker section receipt.key receipt) receipts → AllByRecursion (IsFreeBy section worker) receipts
frees-each worker section [] all = tt
frees-each worker section (receipt ∷ receipts) all = (IsFreeBy-key worker section receipt (all 0 receipt (omega arith)), frees-each worker section receipts (λ k d within. all (suc k) d (omega arith)))

-- a diary goes on by what a seat took
pub TellsTending-tended : (most count : ℕ) (before after : SeatState) (old mid new : Diary) → mid ≡ record old { receipts = mid.receipts }
    → IsTended most before after (kept_receipts old.receipts) (kept_receipts mid.receipts) count
    → KeepsEnds before after → sending_side after ≡ sending_side before → Grows (entry.Incoming count ∷ []) [] 0 mid new
    → TellsTending before.section before.worker count old new (carried_by before) (carried_by after)
TellsTending-tended most count before after old mid new is tended ends sending grows = record {
  receipts = tended.freed.added;
  count_is = tended.total_is ∙ sym (ap length tended.freed.of_keys) ∙ length-map tended.freed.added (λ receipt. receipt.key);
  are_frees = frees-each before.worker before.section tended.freed.added tended.freed.are_frees;
  grows = record {
    shown_is = grows.shown_is ∙ ap (λ (d : Diary). d.replies) is;
    receipts_are = grows.receipts_are ∙ append-nil (kept_receipts mid.receipts) ∙ tended.freed.appended;
    entries_are = λ shown. grows.entries_are (ap (λ (d : Diary). d.replies) is ∙ shown) ∙ ap (λ (d : Diary). d.entries.items ++ entry.Incoming count ∷ []) is;
    calls_is = grows.calls_is ∙ ap (λ (d : Diary). d.calls + 0) is;
  };
  carries = Carries-tended most count before after (kept_receipts old.receipts) (kept_receipts mid.receipts) tended ends sending;
}
