-- What stays of a table of spans by rank where those go that do not stand in the shard that it names.
use Rattle.std.proofs.Common.{◌≡◌, ◌<◌, ◌+◌, ◌*◌, ◌/◌, ◌%◌, ℕ, Bool, true, false, cond, eqb-true, nat_eq, List, [], ◌∷◌, None, Some, slice_get, refl, sym, ap, subst, ◌∙◌, arith, ◌↔◌, IfSome, IsSome, IsTrue, Option}
use Rattle.std.specs.Map.{lookup}
use Rattle.std.specs.Map.Calls.{RetainsPairs}
use Rattle.groups.proofs.Lists.{same_some}
use Rattle.span.specs.Ids.{rank}
use Rattle.span.specs.declared.id.SpanId.{SpanId}
use Rattle.std.proofs.lemmas.Nat.{div-mul-add, mod-mul-add}
use Rattle.span.proofs.Ids.{same_id}
use Rattle.span.specs.declared.limits.TheConstants.{MOST_SHARDS, MOST_SPANS}
use Rattle.groups.specs.Group.{IsElsewhere, spans_of}
use Rattle.groups.proofs.GroupSpans.{elsewhere-times, times-elsewhere}
use Rattle.shard.specs.State.{ShardState}
use Rattle.arena_core.specs.State.{has_span}
use Rattle.arena_core.proofs.Spans.{has_span-uncounted, times_in-missed}
use Rattle.arena_core.specs.Moved.{StandsIn, TellsStanding}

module _ {F : Type 0} (T : F → ℕ → ℕ → Bool → ℕ → F → Type 0) (f : F) (shards : List ShardState)
    (says : (key number : ℕ) (b : Bool) (left : ℕ) (f' : F) → T f key number b left f' → TellsStanding shards key number b × (left ≡ number) × (f' ≡ f))
    (id : SpanId) (number : ℕ) where
  -- an entry whose span stands there stays
  pub lookup-kept : (entries kept : List (ℕ × ℕ)) → RetainsPairs T f entries kept → lookup (nat_eq (rank id)) entries ≡ Some number → StandsIn shards id number
      → lookup (nat_eq (rank id)) kept ≡ Some number
  lookup-kept [] kept retains found stands = absurd cc
  lookup-kept ((key, value) ∷ entries) kept (b, left, f', rest, called, retains, is) found stands =
      let met = says key value b left f' called in
      ap (lookup (nat_eq (rank id))) is
      ∙ by_test (nat_eq (rank id) key) refl found met.0 met.1 (lookup-kept entries rest (subst (λ g. RetainsPairs T g entries rest) met.2 retains))
    where
      by_test : (t : Bool) → nat_eq (rank id) key ≡ t → cond t (Some value) (lookup (nat_eq (rank id)) entries) ≡ Some number → TellsStanding shards key value b → left ≡ value
          → (lookup (nat_eq (rank id)) entries ≡ Some number → StandsIn shards id number → lookup (nat_eq (rank id)) rest ≡ Some number)
          → lookup (nat_eq (rank id)) (cond b ((key, left) ∷ rest) rest) ≡ Some number
      by_test true here there tells same later =
          let on : b ≡ true = (tells.stands id (eqb-true (rank id) key here)).1 (subst (StandsIn shards id) (sym (same_some there)) stands) in
          ap (λ c. lookup (nat_eq (rank id)) (cond c ((key, left) ∷ rest) rest)) on ∙ ap (λ t. cond t (Some left) (lookup (nat_eq (rank id)) rest)) here ∙ ap Some same ∙ there
      by_test false other there tells same later = either b
        where
          either : (c : Bool) → lookup (nat_eq (rank id)) (cond c ((key, left) ∷ rest) rest) ≡ Some number
          either true = ap (λ t. cond t (Some left) (lookup (nat_eq (rank id)) rest)) other ∙ later there stands
          either false = later there stands

  -- the span of an entry that stays stands there
  pub stands-kept : (entries kept : List (ℕ × ℕ)) → RetainsPairs T f entries kept → lookup (nat_eq (rank id)) kept ≡ Some number → StandsIn shards id number
  stands-kept [] kept retains found = absurd (let none : None ≡ Some number = ap (lookup (nat_eq (rank id))) (sym retains) ∙ found in cc)
  stands-kept ((key, value) ∷ entries) kept (b, left, f', rest, called, retains, is) found =
      let met = says key value b left f' called in
      by_kept b refl (ap (lookup (nat_eq (rank id))) (sym is) ∙ found) met.0 met.1 (stands-kept entries rest (subst (λ g. RetainsPairs T g entries rest) met.2 retains))
    where
      by_kept : (c : Bool) → b ≡ c → lookup (nat_eq (rank id)) (cond c ((key, left) ∷ rest) rest) ≡ Some number → TellsStanding shards key value b → left ≡ value
          → (lookup (nat_eq (rank id)) rest ≡ Some number → StandsIn shards id number) → StandsIn shards id number
      by_kept false off there tells same later = later there
      by_kept true on there tells same later = by_test (nat_eq (rank id) key) refl there
        where
          by_test : (t : Bool) → nat_eq (rank id) key ≡ t → cond t (Some left) (lookup (nat_eq (rank id)) rest) ≡ Some number → StandsIn shards id number
          by_test true here found = subst (StandsIn shards id) (sym same ∙ same_some found) ((tells.stands id (eqb-true (rank id) key here)).0 on)
          by_test false other found = later found

-- the id of a rank

pub id-of_rank : (id : SpanId) (number shard serial : ℕ) (made : Option SpanId) → rank id ≡ number → shard ≡ number / MOST_SPANS → serial ≡ number % MOST_SPANS
    → (IsSome made ↔ ((shard < MOST_SHARDS) × (serial < MOST_SPANS))) → IfSome made (λ (other : SpanId). (other.shard ≡ shard) × (other.serial ≡ serial)) → made ≡ Some id
id-of_rank id number shard serial made is shard_is serial_is in_range parts = by_made made in_range parts
  where
    turned : number ≡ id.shard * MOST_SPANS + id.serial
    turned = omega (arith, is)

    its_shard : shard ≡ id.shard
    its_shard = shard_is ∙ ap (λ n. n / MOST_SPANS) turned ∙ div-mul-add id.shard MOST_SPANS id.serial id.serial_in_range

    its_serial : serial ≡ id.serial
    its_serial = serial_is ∙ ap (λ n. n % MOST_SPANS) turned ∙ mod-mul-add id.shard MOST_SPANS id.serial id.serial_in_range

    by_made : (made : Option SpanId) → (IsSome made ↔ ((shard < MOST_SHARDS) × (serial < MOST_SPANS)))
        → IfSome made (λ (other : SpanId). (other.shard ≡ shard) × (other.serial ≡ serial)) → made ≡ Some id
    by_made None in_range parts =
        absurd (let no = in_range.1 (subst (λ n. n < MOST_SHARDS) (sym its_shard) id.shard_in_range, subst (λ n. n < MOST_SPANS) (sym its_serial) id.serial_in_range) in cc)
    by_made (Some other) in_range parts = ap Some (same_id other id (parts.0 ∙ its_shard) (parts.1 ∙ its_serial))

-- a shard's answer whether it has a span
pub has_span-told : (shard : ShardState) (id : SpanId) (told : Bool) → (IsTrue told ↔ (IsElsewhere shard.groups id → ⊥)) → told ≡ has_span id shard
has_span-told shard id told is = by_cases told (has_span id shard) refl is.0 is.1
  where
    by_cases : (t h : Bool) → has_span id shard ≡ h → (IsTrue t → IsElsewhere shard.groups id → ⊥) → ((IsElsewhere shard.groups id → ⊥) → IsTrue t) → t ≡ has_span id shard
    by_cases true true has there back = sym has
    by_cases false false none there back = sym none
    by_cases true false none there back = absurd (there refl (elsewhere-times spans_of shard.groups id (times_in-missed id shard none)))
    by_cases false true has there back =
        absurd (let no = back (λ elsewhere. let e = sym has ∙ has_span-uncounted id shard (times-elsewhere spans_of shard.groups id elsewhere) in cc) in cc)

-- what is told of a rank

pub TellsStanding-none : (shards : List ShardState) (place number : ℕ) → ((id : SpanId) → rank id ≡ place → StandsIn shards id number → ⊥) → TellsStanding shards place number false
TellsStanding-none shards place number none = record { stands = λ id is. ((λ told. absurd cc), (λ there. absurd (none id is there))) }

pub TellsStanding-found : (shards : List ShardState) (place number : ℕ) (shard : ShardState) → slice_get shards number ≡ Some shard → (found : SpanId)
    → ((id : SpanId) → rank id ≡ place → Some found ≡ Some id)
    → (told : Bool) → told ≡ has_span found shard → TellsStanding shards place number told
TellsStanding-found shards place number shard here found only told has = record {
  stands = λ id is.
      let same : found ≡ id = same_some (only id is) in (
        (λ yes. (shard, here, ap (λ i. has_span i shard) (sym same) ∙ sym has ∙ yes)),
        (λ there. has ∙ ap (λ i. has_span i shard) same ∙ ap (has_span id) (same_some (sym here ∙ there.1)) ∙ there.2),
      );
}
