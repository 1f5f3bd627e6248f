-- What the lines bind, one line more.
use Rattle.trace_text.proofs.Names.{◌≡◌, ℕ, ◌+◌, ◌⊎◌, false, List, [], ◌∷◌, ◌++◌, length, Option, Some, None, is_some, refl, sym, rules, option_or, nat_tests, Few, IsFew, binding_at, binding_from, binding_of, binds_again, call_binding, first_cause, is_call, is_call_over, keys_at, keys_in, marks, marks_at, Header, Call, Line, Binding, same_bytes}
use Rattle.trace_text.proofs.Tests.{chosen}
use Rattle.trace_text.proofs.Clips.{all_fine}
use Rattle.trace_text.specs.declared.line.Line.TheVariants as line

pub or_none : {X : Type 0} (o : Option X) → option_or o None ≡ o
or_none o = search rules

or_assoc : {X : Type 0} (o p q : Option X) → option_or o (option_or p q) ≡ option_or (option_or o p) q
or_assoc o p q = search rules

binding_from-push : (place section first : ℕ) (name : List ℕ) (ls : List Line) (l : Line)
    → binding_from place section first name (ls ++ l ∷ []) ≡ option_or (binding_from place section first name ls) (binding_at (place + length ls) (section + marks ls) (first + keys_in ls) name l)
binding_from-push place section first name [] l = search (rules, or_none)
binding_from-push place section first name (m ∷ ms) l = search (rules, or_assoc, (binding_from-push (place + 1) (section + marks_at m) (first + keys_at m) name ms l))

pub binding_of-push : (name : List ℕ) (ls : List Line) (l : Line) → binding_of name (ls ++ l ∷ []) ≡ option_or (binding_of name ls) (binding_at (length ls) (marks ls) (keys_in ls) name l)
binding_of-push name ls l = search (rules, binding_from-push)

none_from : {X : Type 0} (o : Option X) → is_some o ≡ false → o ≡ None
none_from o e = search rules

-- a call that is not refused binds a name that was not bound
fresh_name : (ls : List Line) (place section first thread : ℕ) (name : List ℕ) (c : Call) (b : Binding) → binds_again ls c ≡ false
    → call_binding place section first name thread c ≡ Some b → binding_of name ls ≡ None
fresh_name ls place section first thread name c b free e = search (rules, chosen, same_bytes, none_from)

-- so does a line
pub fresh : (h : Header) (ls : List Line) (place section first : ℕ) (name : List ℕ) (l : Line) (b : Binding) → first_cause h ls l ≡ None
    → binding_at place section first name l ≡ Some b → binding_of name ls ≡ None
fresh h ls place section first name (line.Call t c) b fine e = fresh_name ls place section first t name c b (all_fine h ls (line.Call t c) fine).bound e
fresh h ls place section first name l b fine e = cc

pub either_first : {X : Type 0} (o p : Option X) → ((x : X) → p ≡ Some x → o ≡ None) → option_or p o ≡ option_or o p
either_first o None free = sym (or_none o)
either_first o (Some x) free = rw (free x refl) refl

few_call : (before : List Line) (place section first thread : ℕ) (name : List ℕ) (c : Call) (b : Binding) → is_call_over before c ≡ false
    → call_binding place section first name thread c ≡ Some b → IsFew b.keys
few_call before place section first thread name c b within e = search (rules, chosen, nat_tests)

few_at : (before : List Line) (place section first : ℕ) (name : List ℕ) (l : Line) (b : Binding) → is_call (is_call_over before) l ≡ false
    → binding_at place section first name l ≡ Some b → IsFew b.keys
few_at before place section first name l b within e = search (rules, few_call)

pub of_either : {X : Type 0} (o p : Option X) (x : X) → option_or o p ≡ Some x → (o ≡ Some x) ⊎ (p ≡ Some x)
of_either o p x e = search rules

pub few-push : (ls : List Line) (l : Line) → Few ls → is_call (is_call_over ls) l ≡ false → Few (ls ++ l ∷ [])
few-push ls l few within name b e = search (rules, of_either, binding_of-push, few_at)
