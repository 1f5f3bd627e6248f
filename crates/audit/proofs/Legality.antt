-- A walk over a log's changes.
use Rattle.std.proofs.Common.{zero, suc, subst, ◌≡◌, ◌↔◌, ℕ, ◌<◌, cond, eqb, List, [], ◌∷◌, ◌++◌, length, take, replicate, set, get_or, Option, Some, None, IsSomeAnd, option_map, slice_get, sym, ap, refl, ◌∙◌, eq-eqb, eqb-true, get_or-set_same, get_or-set_other, rules}
use Rattle.std.specs.FinMap as map
use Rattle.std.proofs.lemmas.Bool.{cases_lt, cases_eq, ne_eqb}
use Rattle.std.proofs.lemmas.List.{get_or_past, get_or-replicate, length-replicate}
use Rattle.std.proofs.lemmas.Option.{same_Some}
use Rattle.span.specs.declared.change.Change.{Change}
use Rattle.span.specs.declared.class.Class.{Class}
use Rattle.span.specs.Classes.{width_of}
use Rattle.span.specs.Log.{Held, Value, replay, puts_of, IsChangeOf, IsLegal, IsLegalAfter, IsOfClass}
use Rattle.span.proofs.Changes.{puts_of-put_same, puts_of-put_other, puts_of-set, puts_of-free}
use Rattle.span.proofs.LegalLogs.{puts_of-empty}
use Rattle.span.proofs.OfClass.{Fits-replay}
use Rattle.audit.specs.Changes.{AreAfter, AreIssued, slot_of, left_by, generation_of, issued_by}
use Rattle.audit.proofs.Replies.{generation_more, get_none}
use Rattle.bitmap.specs.declared.bits.TheConstants.{SLOTS}

pub IsOfClass-at : (class : Class) (changes : List Change) (at : ℕ) (change : Change) → IsOfClass class changes → slice_get changes at ≡ Some change → IsChangeOf class change
IsOfClass-at class [] at change of_class is = absurd cc
IsOfClass-at class (first ∷ changes) zero change of_class is = subst (IsChangeOf class) (same_Some first change is) of_class.0
IsOfClass-at class (first ∷ changes) (suc at) change of_class is = IsOfClass-at class changes at change of_class.1 is

pub legal_at : (gens : ℕ) (changes : List Change) (at : ℕ) (change : Change) → IsLegal gens changes → slice_get changes at ≡ Some change → IsLegalAfter gens (take at changes) change
unfolding IsLegal
legal_at gens changes at change legal is = legal at change is

read_same : {X : Type 0} (x : X) (n slot : ℕ) → get_or (replicate n x) slot x ≡ x
read_same x n slot = search (rules, cases_lt, get_or-replicate, get_or_past, length-replicate)

pub after_none : (n slot : ℕ) → get_or (replicate {A = Option ℕ} n None) slot None ≡ option_map generation_of (map.get (replay []) slot)
after_none n slot = read_same None n slot ∙ sym (ap (option_map generation_of) (get_none slot))

pub issued_none : (n slot : ℕ) → get_or (replicate n 0) slot 0 ≡ puts_of slot []
issued_none n slot = read_same 0 n slot ∙ sym (puts_of-empty slot)

pub AreAfter-more : (before : List Change) (c : Change) (held : List (Option ℕ)) (s : ℕ) (left : Option ℕ) → length held ≡ SLOTS → s ≡ slot_of c
    → left ≡ option_map generation_of (left_by c)
    → AreAfter before held → AreAfter (before ++ c ∷ []) (set held s left)
AreAfter-more before c held s left long is_slot is_left after q fits = search (rules, cases_eq, get_or-set_same, generation_more, eq-eqb, get_or-set_other, ne_eqb)

-- a set to an object of the class is legal after changes of the class where its slot holds something of its generation
pub set_legal : (gens : ℕ) (class : Class) (before : List Change) (slot generation : ℕ) (value : Value) (here : Option ℕ) → IsOfClass class before → length value ≡ width_of class
    → here ≡ option_map generation_of (map.get (replay before) slot) → (here ≡ Some generation) ↔ IsLegalAfter gens before (Change.Set slot generation value)
set_legal gens class before slot generation value here of_class wide is = (
  λ same. legal (map.get (replay before) slot) refl (sym is ∙ same),
  λ legal. is ∙ held (map.get (replay before) slot) legal,
)
  where
    legal : (o : Option Held) → map.get (replay before) slot ≡ o → option_map generation_of o ≡ Some generation
        → IsSomeAnd o (λ h. (h.generation ≡ generation) × (length h.value ≡ length value))
    legal None e same = absurd cc
    legal (Some h) e same = (same_Some h.generation generation same, (Fits-replay class before of_class slot h e).1 ∙ sym wide)

    held : (o : Option Held) → IsSomeAnd o (λ h. (h.generation ≡ generation) × (length h.value ≡ length value)) → option_map generation_of o ≡ Some generation
    held None none = absurd none
    held (Some h) is = ap Some is.0

-- as many puts of a slot, told by a test for another slot
puts_same : (changes : List Change) (q slot : ℕ) → puts_of q changes ≡ cond (eqb q slot) (puts_of slot changes) (puts_of q changes)
puts_same changes q slot = search (rules, eqb-true)

-- how many puts of a slot there are after one more change that is legal
puts_more : (gens : ℕ) (before : List Change) (c : Change) → IsLegalAfter gens before c → (q : ℕ)
    → puts_of q (before ++ c ∷ []) ≡ cond (eqb q (slot_of c)) (issued_by c (puts_of (slot_of c) before)) (puts_of q before)
puts_more gens before (Change.Put slot generation value) legal q = search (rules, cases_eq, puts_of-put_same, eq-eqb, puts_of-put_other, ne_eqb)
puts_more gens before (Change.Set slot generation value) legal q = puts_of-set before slot generation value q ∙ puts_same before q slot
puts_more gens before (Change.Free slot generation) legal q = puts_of-free before slot generation q ∙ puts_same before q slot

pub AreIssued-more : (gens : ℕ) (before : List Change) (c : Change) (issued : List ℕ) (s last next : ℕ) → length issued ≡ SLOTS → s < SLOTS → s ≡ slot_of c
    → last ≡ get_or issued s 0 → next ≡ issued_by c last
    → AreIssued before issued → IsLegalAfter gens before c → AreIssued (before ++ c ∷ []) (set issued s next)
AreIssued-more gens before c issued s last next long small is_slot is_last is_next is legal q fits = search (rules, cases_eq, get_or-set_same, puts_more, eq-eqb, get_or-set_other, ne_eqb)
