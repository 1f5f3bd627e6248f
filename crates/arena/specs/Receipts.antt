-- The receipts of single calls.
use Rattle.std.specs.Prelude.{◌≡◌, ℕ, ◌++◌, All, Bool, true, false, List, Option, flat_map, map}
use Rattle.span.specs.Log.{Value}
use Rattle.span.specs.declared.key.Key.{Key}
use Rattle.span.specs.declared.receipt.Call.{Call}
use Rattle.span.specs.declared.receipt.Call.TheVariants as call
use Rattle.span.specs.declared.receipt.Receipt.{Receipt}
use Rattle.span.specs.Receipts.{free, look_up, set}

-- the receipt of a put of the object, which gave the key out after that many changes
abbrev pub put_receipt : ℕ → ℕ → Value → Key → ℕ → Receipt
put_receipt worker section value key at = record {
  worker = worker;
  section = section;
  key = key;
  at = at;
  call = call.Put value;
}

-- the receipt of a look-up of the key that found this after that many changes
abbrev pub get_receipt : ℕ → ℕ → Key → Option Value → ℕ → Receipt
get_receipt worker section key value at = record {
  worker = worker;
  section = section;
  key = key;
  at = at;
  call = look_up value;
}

-- the receipt of a set of the key to the object after that many changes, which was done or was not
abbrev pub set_receipt : ℕ → ℕ → Key → Value → Bool → ℕ → Receipt
set_receipt worker section key value done at = record {
  worker = worker;
  section = section;
  key = key;
  at = at;
  call = set value done;
}

-- the receipt of a free of the key after that many changes, which was done or was not
abbrev pub free_receipt : ℕ → ℕ → Key → Bool → ℕ → Receipt
free_receipt worker section key done at = record {
  worker = worker;
  section = section;
  key = key;
  at = at;
  call = free done;
}

-- a free or a set was done
abbrev pub done_by : Call → Bool
done_by call.Freed = true
done_by (call.Set value) = true
done_by _ = false

-- the receipt is of a free, so that it has no object
abbrev pub IsFree : Receipt → Type 0
IsFree receipt = receipt.call ≡ free (done_by receipt.call)

-- the receipt is of a free of the key by the worker in the section
abbrev pub IsFreeBy : ℕ → ℕ → Key → Receipt → Type 0
IsFreeBy worker section key receipt = receipt ≡ free_receipt worker section key
    (done_by receipt.call) receipt.at

-- to the receipts before, exactly one was added for each of the keys, in their order: that of a
-- free of the key by the worker in the section
pub record AddsFrees (worker section : ℕ) (keys : List Key) (before after : List Receipt) :
    Type 0 where
  pub added : List Receipt
  pub appended : after ≡ before ++ added
  pub of_keys : map (λ receipt. receipt.key) added ≡ keys
  pub are_frees : All (λ receipt. IsFreeBy worker section receipt.key receipt) added

-- the keys of ring after ring
abbrev pub joined : List (List Key) → List Key
joined rings = flat_map (λ keys. keys) rings
