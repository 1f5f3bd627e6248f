-- What the logs of a class leave live: slots that its pages have, and objects of the class.
use Rattle.std.proofs.Common.{◌≡◌, ℕ, ◌<◌, ◌==◌, List, [], ◌∷◌, ◌++◌, length, fold, Option, Some, None, IsSomeAnd, if◌then◌else◌, ap, sym, subst, ◌∙◌, refl, inl, inr, eq-eqb}
use Rattle.std.specs.Ordering.{nat_cmp}
use Rattle.std.specs.Cmp.{nat_cmp_total, unsigned_tied}
use Rattle.std.specs.FinMap as map
use Rattle.std.proofs.lemmas.Bool.{cases_eq, ne_eqb}
use Rattle.std.proofs.lemmas.Option.{none-some, same_Some}
use Rattle.span.specs.Classes.{slots_in, width_of}
use Rattle.span.specs.declared.class.Class.{Class}
use Rattle.span.specs.declared.change.Change.{Change}
use Rattle.span.specs.declared.change.Change.TheVariants.{Put, Set, Free}
use Rattle.span.specs.Log.{Contents, Held, Holds, IsChangeOf, IsOfClass, Value, changed, replay}

pub IsOfClass-push : (class : Class) (log : List Change) (change : Change) → IsOfClass class log → IsChangeOf class change → IsOfClass class (log ++ change ∷ [])
IsOfClass-push class [] change before next = (next, tt)
IsOfClass-push class (first ∷ log) change before next = (before.0, IsOfClass-push class log change before.1 next)

-- the slots are of the class, and so is what they hold
abbrev Fits : Class → Contents → Type 0
Fits class contents = (slot : ℕ) (held : Held) → map.get contents slot ≡ Some held → (slot < slots_in class) × (length held.value ≡ width_of class)

-- where a slot takes an object, of a put or of a set
Fits-insert : (class : Class) (contents : Contents) (other generation : ℕ) (value : Value) → Fits class contents → (other < slots_in class) × (length value ≡ width_of class)
    → Fits class (map.insert contents other (record { generation = generation; value = value }))
Fits-insert class contents other generation value fits next slot held is =
    let found : map.get (map.insert contents other (record { generation = generation; value = value })) slot
    ≡ (if slot == other then Some (record { generation = generation; value = value }) else map.get contents slot) =
    map.get-insert nat_cmp_total contents other (record { generation = generation; value = value }) slot ∙ rw (unsigned_tied slot other) refl in
    elim (cases_eq slot other) [
      | inl same ↦
          let put : map.get (map.insert contents other (record { generation = generation; value = value })) slot
          ≡ Some (record { generation = generation; value = value }) = rw (eq-eqb slot other same) at found in
          let here : ◌≡◌ {A = Held} (record { generation = generation; value = value }) held = same_Some _ _ (sym put ∙ is) in
          (subst (λ q. q < slots_in class) (sym same) next.0, ap (λ (h : Held). length h.value) (sym here) ∙ next.1)
      | inr differ ↦
          let kept : map.get (map.insert contents other (record { generation = generation; value = value })) slot ≡ map.get contents slot = rw (ne_eqb slot other differ) at found in
          fits slot held (sym kept ∙ is)
    ]

Fits-changed : (class : Class) (contents : Contents) (change : Change) → Fits class contents → IsChangeOf class change → Fits class (changed contents change)
Fits-changed class contents (Put slot generation value) fits next other held is = Fits-insert class contents slot generation value fits next other held is
Fits-changed class contents (Set slot generation value) fits next other held is = Fits-insert class contents slot generation value fits next other held is
Fits-changed class contents (Free other generation) fits next slot held is =
    let found : map.get (map.remove contents other) slot
    ≡ (if slot == other then None else map.get contents slot) = map.get-remove nat_cmp_total contents other slot ∙ rw (unsigned_tied slot other) refl in
    elim (cases_eq slot other) [
      | inl same ↦
          let gone : map.get (map.remove contents other) slot ≡ None = rw (eq-eqb slot other same) at found in
          absurd (none-some held (sym gone ∙ is))
      | inr differ ↦
          let kept : map.get (map.remove contents other) slot ≡ map.get contents slot = rw (ne_eqb slot other differ) at found in
          fits slot held (sym kept ∙ is)
    ]

Fits-fold : (class : Class) (contents : Contents) (log : List Change) → Fits class contents → IsOfClass class log → Fits class (fold changed contents log)
Fits-fold class contents [] fits of_class = fits
Fits-fold class contents (change ∷ log) fits of_class = Fits-fold class (changed contents change) log (Fits-changed class contents change fits of_class.0) of_class.1

-- what is live after a log of the class
pub Fits-replay : (class : Class) (log : List Change) → IsOfClass class log → (slot : ℕ) (held : Held) → map.get (replay log) slot ≡ Some held
    → (slot < slots_in class) × (length held.value ≡ width_of class)
unfolding replay
Fits-replay class log of_class = Fits-fold class map.empty log (λ slot held is. absurd (none-some _ (sym (map.get-empty nat_cmp slot) ∙ is))) of_class

-- a live slot is one that a page of the class has
pub Holds-on_page : (class : Class) (log : List Change) (slot generation : ℕ) → IsOfClass class log → Holds log slot generation → slot < slots_in class
Holds-on_page class log slot generation of_class holds = there (map.get (replay log) slot) refl holds
  where
    there : (o : Option Held) → map.get (replay log) slot ≡ o → IsSomeAnd o (λ held. held.generation ≡ generation) → slot < slots_in class
    there None e h = absurd h
    there (Some held) e h = (Fits-replay class log of_class slot held e).0
