-- Receipts that are added for keys.
use Rattle.std.proofs.Common.{◌≡◌, ℕ, suc, ◌+◌, ◌<◌, List, [], ◌∷◌, ◌++◌, length, take, drop, get_or, ap, subst, sym, ◌∙◌, refl, arith, append_assoc, add-one, take-suc, drop-cons, rules}
use Rattle.std.proofs.lemmas.List.{append-nil, map-append}
use Rattle.std.proofs.lemmas.List.Elements.{All-append}
use Rattle.std.proofs.lemmas.List.Concat.{flat_map-cons}
use Rattle.std.proofs.lemmas.Grind.{flat_map-append}
use Rattle.span.specs.declared.key.Key.{Key}
use Rattle.span.specs.declared.receipt.Receipt.{Receipt}
use Rattle.span.specs.Receipts.{free}
use Rattle.span.specs.StoredReceipts.{call_words}
use Rattle.arena.specs.Receipts.{AddsFrees, IsFree, IsFreeBy, joined}

-- a receipt of a free has no word of an object
pub call_words-IsFree : (r : Receipt) → IsFree r → length (call_words r.call) ≡ 0
call_words-IsFree r is = search rules

module _ {worker section : ℕ} where
  -- for no key nothing is added
  pub AddsFrees-none : (receipts : List Receipt) → AddsFrees worker section [] receipts receipts
  AddsFrees-none receipts = record { added = []; appended = sym (append-nil receipts); of_keys = refl; are_frees = λ k d h. absurd (omega arith) }

  -- for a key its receipt is added
  pub AddsFrees-one : (before after : List Receipt) (key : Key) (r : Receipt) → after ≡ before ++ r ∷ [] → IsFreeBy worker section key r → AddsFrees worker section (key ∷ []) before after
  AddsFrees-one before after key r is free = search rules

  -- receipts for some keys, and then for others
  pub AddsFrees-more : (keys more : List Key) (before mid after : List Receipt) → AddsFrees worker section keys before mid → AddsFrees worker section more mid after
      → AddsFrees worker section (keys ++ more) before after
  AddsFrees-more keys more before mid after a b = record {
    added = a.added ++ b.added;
    appended = b.appended ∙ ap (λ l. l ++ b.added) a.appended ∙ append_assoc before a.added b.added;
    of_keys = map-append (λ r. r.key) a.added b.added ∙ rw (a.of_keys, b.of_keys) refl;
    are_frees = All-append (λ r. IsFreeBy worker section r.key r) a.added b.added a.are_frees b.are_frees;
  }

  -- receipts for the first n of the keys, and then for the next one
  pub freed_next : (keys : List Key) (n : ℕ) (d key : Key) (r : Receipt) (before mid after : List Receipt) → n < length keys → key ≡ get_or keys n d → AddsFrees worker section (take n keys) before mid
      → after ≡ mid ++ r ∷ [] → IsFreeBy worker section key r → AddsFrees worker section (take (n + 1) keys) before after
  freed_next keys n d key r before mid after below is a more free =
      let one = subst (λ k. AddsFrees worker section (k ∷ []) mid after) is (AddsFrees-one mid after key r more free) in
      rw add-one (subst (λ ks. AddsFrees worker section ks before after) (sym (take-suc keys n d below)) (AddsFrees-more (take n keys) (get_or keys n d ∷ []) before mid after a one))

-- the next of the keys that are left
pub next_left : {T : Type 0} (keys rest : List T) (i : ℕ) (key : T) → i < length keys → drop i keys ≡ key ∷ rest → (take (i + 1) keys ≡ take i keys ++ key ∷ []) × (drop (i + 1) keys ≡ rest)
next_left keys rest i key below is =
    let whole = rw (drop-cons keys i key below) at is in
    let first : get_or keys i key ≡ key = cc in
    let later : drop (suc i) keys ≡ rest = cc in
    (rw add-one (take-suc keys i key below ∙ ap (λ x. take i keys ++ x ∷ []) first), rw add-one later)

-- the keys of one more ring
pub joined-push : (rings : List (List Key)) (keys : List Key) → joined (rings ++ keys ∷ []) ≡ joined rings ++ keys
joined-push rings keys = flat_map-append (λ ks. ks) rings (keys ∷ []) ∙ ap (λ l. joined rings ++ l) (flat_map-cons (λ ks. ks) keys [] ∙ append-nil keys)
