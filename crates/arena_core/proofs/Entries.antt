-- The entries of the whereabouts, before and after a change of their table.
use Rattle.std.proofs.Common.{◌≡◌, ◌≢◌, ◌⊎◌, ℕ, Bool, true, false, cond, List, None, Some, ap, sym, subst, ◌∙◌, refl, inl, inr, eq-eqb, eqb, nat_cmp}
use Rattle.std.specs.FinMap as map
use Rattle.std.proofs.lemmas.Bool.{cases_eq, ne_eqb}
use Rattle.std.proofs.lemmas.Option.{none-some}
use Rattle.span.specs.Ids.{rank}
use Rattle.span.specs.declared.id.SpanId.{SpanId}
use Rattle.groups.proofs.Maps.{get-insert, get-remove}
use Rattle.groups.proofs.Ranks.{id_from_rank}
use Rattle.shard.specs.State.{ShardState}
use Rattle.arena_core.specs.Moved.{Entries, KeepsStanding, named, taken_by, with_taken}

-- a table that names none
pub KeepsStanding-none : (shards : List ShardState) (old new : Entries) → old ≡ map.empty → new ≡ map.empty → KeepsStanding shards old new
KeepsStanding-none shards old new before after = record {
  kept = λ id number found stands. absurd (none-some number (sym (nowhere old before id) ∙ found));
  stands = λ id number found. absurd (none-some number (sym (nowhere new after id) ∙ found));
}
  where
    nowhere : (entries : Entries) → entries ≡ map.empty → (id : SpanId) → named entries id ≡ None
    nowhere entries is id = ap (λ (es : Entries). map.get es (rank id)) is ∙ map.get-empty nat_cmp (rank id)

-- a table that is worked on, and put back
pub KeepsStanding-same : (shards : List ShardState) (old before after new : Entries) → old ≡ before → new ≡ after → KeepsStanding shards before after → KeepsStanding shards old new
KeepsStanding-same shards old before after new was is keeps =
    subst (λ (es : Entries). KeepsStanding shards es new) (sym was) (subst (KeepsStanding shards before) (sym is) keeps)

-- what is named for a span that a shard took in

pub taken_by-abroad : (number : ℕ) (id : SpanId) → number ≢ id.shard → taken_by number id ≡ Some number
taken_by-abroad number id abroad = rw (ne_eqb id.shard number (λ e. abroad (sym e))) refl

pub with_taken-home : (entries : Entries) (id : SpanId) (number : ℕ) → id.shard ≡ number → with_taken entries id number ≡ map.remove entries (rank id)
with_taken-home entries id number home = rw (eq-eqb id.shard number home) refl

pub with_taken-abroad : (entries : Entries) (id : SpanId) (number : ℕ) → id.shard ≢ number → with_taken entries id number ≡ map.insert entries (rank id) number
with_taken-abroad entries id number abroad = rw (ne_eqb id.shard number abroad) refl

get-taken : (entries : Entries) (key number : ℕ) (home : Bool) (q : ℕ)
    → map.get (cond home (map.remove entries key) (map.insert entries key number)) q ≡ cond (eqb q key) (cond home None (Some number)) (map.get entries q)
get-taken entries key number true q = get-remove entries key q
get-taken entries key number false q = get-insert entries key number q

pub named-with_taken : (entries : Entries) (id other : SpanId) (number : ℕ)
    → (named (with_taken entries id number) other ≡ named entries other) ⊎ ((named (with_taken entries id number) other ≡ taken_by number other) × (other ≡ id))
named-with_taken entries id other number = elim (cases_eq (rank other) (rank id)) [
  | inl here ↦
      let same : other ≡ id = id_from_rank other id here in
      inr (
        get-taken entries (rank id) number (eqb id.shard number) (rank other)
            ∙ ap (λ b. cond b (taken_by number id) (named entries other)) (eq-eqb (rank other) (rank id) here) ∙ ap (taken_by number) (sym same),
        same,
      )
  | inr apart ↦
      inl (get-taken entries (rank id) number (eqb id.shard number) (rank other) ∙ ap (λ b. cond b (taken_by number id) (named entries other)) (ne_eqb (rank other) (rank id) apart))
]

pub named-with_taken_here : (entries : Entries) (id : SpanId) (number : ℕ) → named (with_taken entries id number) id ≡ taken_by number id
named-with_taken_here entries id number = get-taken entries (rank id) number (eqb id.shard number) (rank id)
    ∙ ap (λ b. cond b (taken_by number id) (named entries id)) (eq-eqb (rank id) (rank id) refl)
