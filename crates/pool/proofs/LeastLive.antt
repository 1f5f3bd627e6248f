-- Bytes that tell how many slots of a group are live at the least, when groups come, go and change.
use Rattle.std.proofs.Common.{zero, suc, ◌≡◌, ℕ, ◌+◌, ◌-◌, ◌<◌, ◌≤◌, ◌↔◌, ◌⊎◌, ◌∙◌, ◌++◌, ◌∷◌, Bool, true, false, List, [], Some, ap, arith, get_or, inl, inr, length, length-set, rules, set, slice_get, subst, swap_remove, sym, take, Err, IfOk, IsTrue, Ok, OnErr, Result, refl}
use Rattle.std.specs.Bool.{OnFalse, OnTrue}
use Rattle.std.specs.FinSet.{len}
use Rattle.std.proofs.lemmas.Option.{slice_get-get_or, slice_get_within}
use Rattle.span.specs.Log.{Value}
use Rattle.span.specs.State.{IsSettable, SpanState}
use Rattle.groups.specs.Group.{occupied, spans_of}
use Rattle.groups.specs.Pages.{set_group}
use Rattle.groups.specs.Sound.{IsSoundGroup}
use Rattle.groups.specs.Spans.{union_of, with_set_at}
use Rattle.groups.proofs.Lists.{cases-set}
use Rattle.groups.proofs.Standing.{spans_of-with_span}
use Rattle.groups.proofs.Unions.{keep_held}
use Rattle.groups.specs.Least.{IsLeast, KnowsLeast}
use Rattle.pool.specs.State.{PooledState}
use Rattle.pool.proofs.RankedGroups.{get-push, get-take}
use Rattle.pool.proofs.Walked.{before-more}

-- what stands in a list once one went and the last took its place
shorter : {X : Type 0} (xs : List X) (place : ℕ) (x : X) → place < length xs → suc (length (swap_remove xs place x)) ≡ length xs
shorter xs place x within = search (rules, length-set, within)

cases-swap : {X : Type 0} (xs : List X) (place : ℕ) (x : X) → slice_get xs place ≡ Some x → (at : ℕ) (z : X) → slice_get (swap_remove xs place x) at ≡ Some z
    → ((at ≡ place) × (slice_get xs (length xs - 1) ≡ Some z)) ⊎ ((at ≡ place → ⊥) × (slice_get xs at ≡ Some z))
cases-swap {X} xs place x here at z there = elim (cases-set xs place last at z read) [
  | inl is ↦ inl (is.0, last_is ∙ ap Some is.1)
  | inr old ↦ inr old
]
  where
    last : X
    last = get_or xs (length xs - 1) x

    within : place < length xs
    within = slice_get_within xs place x here

    last_is : slice_get xs (length xs - 1) ≡ Some last
    last_is = slice_get-get_or xs (length xs - 1) x (let low = within in omega arith)

    read : slice_get (set xs place last) at ≡ Some z
    read = sym (get-take (set xs place last) (length xs - 1) at (omega (arith, shorter xs place x within, slice_get_within (swap_remove xs place x) at z there))) ∙ there

module _ (groups : List PooledState) (bytes : List ℕ) (known : KnowsLeast IsLeast groups bytes) where
  -- one comes behind the others
  pub KnowsLeast-push : (group : PooledState) (byte : ℕ) → length bytes ≡ length groups → IsLeast byte group → KnowsLeast IsLeast (groups ++ group ∷ []) (bytes ++ byte ∷ [])
  KnowsLeast-push group byte many few at least other its there = elim (get-push bytes byte at least its) [
    | inl early ↦ elim (get-push groups group at other there) [
      | inl same ↦ known at least other early same
      | inr last ↦ absurd (omega (arith, slice_get_within bytes at least early, many, last.0))
    ]
    | inr last ↦ elim (get-push groups group at other there) [
      | inl early ↦ absurd (omega (arith, slice_get_within groups at other early, many, last.0))
      | inr same ↦ subst (λ (n : ℕ). IsLeast n other) last.1 (subst (IsLeast byte) same.1 few)
    ]
  ]

  -- one goes, and the last takes its place
  pub KnowsLeast-swap : (place : ℕ) (gone : PooledState) (byte : ℕ) → length bytes ≡ length groups → slice_get groups place ≡ Some gone → slice_get bytes place ≡ Some byte
      → KnowsLeast IsLeast (swap_remove groups place gone) (swap_remove bytes place byte)
  KnowsLeast-swap place gone byte many here its_byte at least other its there = elim (cases-swap bytes place byte its_byte at least its) [
    | inl last ↦ elim (cases-swap groups place gone here at other there) [
      | inl same ↦ known (length groups - 1) least other (subst (λ (n : ℕ). slice_get bytes (n - 1) ≡ Some least) many last.1) same.1
      | inr old ↦ absurd (old.0 last.0)
    ]
    | inr old ↦ elim (cases-swap groups place gone here at other there) [
      | inl last ↦ absurd (old.0 last.0)
      | inr same ↦ known at least other old.1 same.1
    ]
  ]

  pub length-swap : (place : ℕ) (gone : PooledState) (byte : ℕ) → length bytes ≡ length groups → slice_get groups place ≡ Some gone
      → length (swap_remove bytes place byte) ≡ length (swap_remove groups place gone)
  length-swap place gone byte many here =
      let within = slice_get_within groups place gone here in
      omega (arith, many, shorter groups place gone within, shorter bytes place byte (omega (arith, many, within)))

-- one more of the first
length-taken : {X : Type 0} (xs : List X) (n : ℕ) → n < length xs → length (take n xs) ≡ n
length-taken [] n low = absurd (omega (arith, low))
length-taken (x ∷ xs) zero low = refl
length-taken (x ∷ xs) (suc n) low = ap suc (length-taken xs n (omega (arith, low)))

pub KnowsLeast-next : (groups : List PooledState) (index : ℕ) (group : PooledState) → slice_get groups index ≡ Some group → (bytes : List ℕ) (byte : ℕ) → length bytes ≡ index
    → IsLeast byte group → KnowsLeast IsLeast (take index groups) bytes → KnowsLeast IsLeast (take (index + 1) groups) (bytes ++ byte ∷ [])
KnowsLeast-next groups index group here bytes byte many few known =
    subst (λ (gs : List PooledState). KnowsLeast IsLeast gs (bytes ++ byte ∷ [])) (sym (before-more groups index group here))
    (KnowsLeast-push (take index groups) bytes known group byte (many ∙ sym (length-taken groups index (slice_get_within groups index group here))) few)

-- a set makes no slot live, and frees none
pub live-set : {E : Type 0} (group : PooledState) → IsSoundGroup group → (place : ℕ) (span : SpanState) → slice_get (spans_of group) place ≡ Some span
    → (slot generation : ℕ) (value : Value) (r : Result Bool E) (now : PooledState)
    → IfOk r (λ done. IsTrue done ↔ IsSettable span slot generation value) → IfOk r (λ done. OnTrue done (now ≡ set_group group place span slot generation value))
    → IfOk r (λ done. OnFalse done (now ≡ group)) → OnErr r (now ≡ group) → len (occupied group) ≤ len (occupied now)
live-set group sound place span here slot generation value (Ok true) now found is stays err =
    let same = ap union_of (spans_of-with_span group place (with_set_at span slot generation value))
    ∙ (keep_held (spans_of group) place span slot generation value here (found.0 refl).0 sound.apart).0 in
    omega (arith, ap (λ (g : PooledState). len (occupied g)) is, ap len same)
live-set group sound place span here slot generation value (Ok false) now found is stays err = omega (arith, ap (λ (g : PooledState). len (occupied g)) stays)
live-set group sound place span here slot generation value (Err e) now found is stays err = omega (arith, ap (λ (g : PooledState). len (occupied g)) err)
