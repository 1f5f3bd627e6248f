-- What calls on keys are told, by what is known of the keys that puts gave.
use Rattle.thread_runner.proofs.Names.{◌≡◌, ◌∙◌, ℕ, Bool, true, List, [], ◌∷◌, Option, None, Some, ap, refl, subst, sym, Value, free_receipt, get_receipt, put_receipt, set_receipt, Key, Receipt, Answers, Asked, Called, Frees, Gets, GivenKeys, IsKeptBack, IsSetTo, Outcome, Puts, Sets, is_look_up, entries_on, receipts_from, sent_by, taken_by, Carries, Grows, AreFresh, AreKnown, is_free, Given, TellsFrom, carried_by, rules}
use Rattle.span.specs.Receipts.{look_up, set as set_call}
use Rattle.trace_runner.specs.declared.report.Other.TheVariants as other
use Rattle.thread_runner.specs.declared.caller.Caller.{Caller}
use Rattle.thread_runner.proofs.Growing.{Tells-one}
use Rattle.thread_runner.proofs.Taking.{is_free-free}

-- where there is none
pub None-not_some : {X : Type 0} (o : Option X) → ((x : X) → o ≡ Some x → ⊥) → o ≡ None
None-not_some None not = refl
None-not_some (Some x) not = absurd (not x refl)

-- a key that is to be freed later, and was not sent off
pub IsKeptBack-none : (key : Option Key) → key ≡ None → IsKeptBack key other.Unbound
IsKeptBack-none key none = subst (λ k. IsKeptBack k other.Unbound) (sym none) refl

pub IsKeptBack-some : (key : Option Key) (one : Key) → key ≡ Some one → IsKeptBack key other.RingFull
IsKeptBack-some key one some = subst (λ k. IsKeptBack k other.RingFull) (sym some) refl

-- one thing was asked that changes nothing of what is known of keys
pub TellsFrom-still : {G : Type 0} (number : ℕ) (asked : Asked) (outcome : Outcome) (kept : List Given) (old new : Caller G) → new.fresh ≡ old.fresh
    → ((given : GivenKeys) → AreKnown kept old.fresh.items given → Answers given old.seat.section old.seat.worker asked outcome)
    → Carries (sent_by outcome) (taken_by outcome) (carried_by old.seat) (carried_by new.seat)
    → Grows (entries_on number outcome) (receipts_from outcome) 1 old.diary new.diary → TellsFrom number (asked ∷ []) kept old new
TellsFrom-still number asked outcome kept old new same answers carries grows =
    let fits : (given : GivenKeys) → AreKnown kept new.fresh.items given → AreKnown kept old.fresh.items given = λ given. subst (λ f. AreKnown kept f.items given) same in
    Tells-one _ _ number asked outcome _ _ _ _ _ _ (λ given known. answers given (fits given known)) fits grows carries

-- a put is kept with what it gave
pub TellsFrom-put : {G : Type 0} (number place : ℕ) (value : Value) (outcome : Outcome) (key : Option Key) (kept : List Given) (old new : Caller G)
    → ((given : GivenKeys) → AreFresh new.fresh.items given → AreFresh old.fresh.items given × (given place ≡ key))
    → ((given : GivenKeys) → given place ≡ key → Answers given old.seat.section old.seat.worker (Puts place value) outcome)
    → Carries (sent_by outcome) (taken_by outcome) (carried_by old.seat) (carried_by new.seat)
    → Grows (entries_on number outcome) (receipts_from outcome) 1 old.diary new.diary → TellsFrom number (Puts place value ∷ []) kept old new
TellsFrom-put number place value outcome key kept old new entered answers carries grows =
    Tells-one _ _ number (Puts place value) outcome _ _ _ _ _ _ (λ given known. answers given (entered given known.1).1) (λ given known. (known.0, (entered given known.1).0)) grows carries

-- the receipt of a put
pub Answers-put : (given : GivenKeys) (section thread place : ℕ) (value : Value) (key : Key) (receipt : Receipt) → receipt ≡ put_receipt thread section value key receipt.at → given place ≡ Some key
    → Answers given section thread (Puts place value) (Called receipt)
Answers-put given section thread place value key receipt is known = (
  record { by = ap (λ (r : Receipt). r.worker) is; in_section = ap (λ (r : Receipt). r.section) is; of_key = known ∙ ap (λ (r : Receipt). Some r.key) (sym is) },
  ap (λ (r : Receipt). r.call) is,
)

is_look_up-look_up : (value : Option Value) → is_look_up (look_up value) ≡ true
is_look_up-look_up value = search rules

-- the receipt of a look-up
pub Answers-get : (given : GivenKeys) (section thread place : ℕ) (value : Option Value) (key : Key) (receipt : Receipt)
    → receipt ≡ get_receipt thread section key value receipt.at → given place ≡ Some key
    → Answers given section thread (Gets place) (Called receipt)
Answers-get given section thread place value key receipt is known = (
  record { by = ap (λ (r : Receipt). r.worker) is; in_section = ap (λ (r : Receipt). r.section) is; of_key = known ∙ ap (λ (r : Receipt). Some r.key) (sym is) },
  ap (λ (r : Receipt). is_look_up r.call) is ∙ is_look_up-look_up value,
)

IsSetTo-set : (value : Value) (done : Bool) → IsSetTo value (set_call value done)
IsSetTo-set value done = search rules

-- the receipt of a set
pub Answers-set : (given : GivenKeys) (section thread place : ℕ) (value : Value) (done : Bool) (key : Key) (receipt : Receipt)
    → receipt ≡ set_receipt thread section key value done receipt.at → given place ≡ Some key
    → Answers given section thread (Sets place value) (Called receipt)
Answers-set given section thread place value done key receipt is known = (
  record { by = ap (λ (r : Receipt). r.worker) is; in_section = ap (λ (r : Receipt). r.section) is; of_key = known ∙ ap (λ (r : Receipt). Some r.key) (sym is) },
  subst (λ (r : Receipt). IsSetTo value r.call) (sym is) (IsSetTo-set value done),
)

-- the receipt of a free
pub Answers-free : (given : GivenKeys) (section thread place : ℕ) (done : Bool) (key : Key) (receipt : Receipt) → receipt ≡ free_receipt thread section key done receipt.at → given place ≡ Some key
    → Answers given section thread (Frees place) (Called receipt)
Answers-free given section thread place done key receipt is known = (
  record { by = ap (λ (r : Receipt). r.worker) is; in_section = ap (λ (r : Receipt). r.section) is; of_key = known ∙ ap (λ (r : Receipt). Some r.key) (sym is) },
  ap (λ (r : Receipt). is_free r.call) is ∙ is_free-free done,
)
