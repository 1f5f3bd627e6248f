-- Groups that have left go behind the others.
use Rattle.std.proofs.Common.{◌≡◌, ◌∙◌, ℕ, ◌+◌, ◌<◌, ◌≤◌, List, Some, ap, arith, get_or, inl, inr, length, slice_get, sym, true, false}
use Rattle.std.specs.List.{swap}
use Rattle.std.proofs.lemmas.Bool.{cases_eq, cases_lt}
use Rattle.std.proofs.lemmas.Option.{get_or_from_slice_get, slice_get-get_or, slice_get_within}
use Rattle.groups.proofs.Lists.{same_some}
use Rattle.shard.specs.Group.{GroupState}
use Rattle.shard.specs.Leaving.{has_left}
use Rattle.shard.specs.Parts.{IsParted}
use Rattle.shard.proofs.Orders.{get_or-swap, length_swapped}

module _ (groups : List GroupState) (low high : ℕ) (parted : IsParted groups low high) (group : GroupState) (here : slice_get groups low ≡ Some group) where
  -- one more has stayed
  pub IsParted-stayed : has_left group ≡ false → IsParted groups (low + 1) high
  IsParted-stayed stayed = record {
    stayed = λ place g below there. elim (cases_lt place low) [
      | inl before ↦ parted.stayed place g before there
      | inr after ↦
          let at : place ≡ low = omega arith in
          let same : g ≡ group = same_some (sym there ∙ ap (slice_get groups) at ∙ here) in
          ap has_left same ∙ stayed
    ];
    left = parted.left;
  }

  -- one more has left, and stands last of those that were not looked at
  pub IsParted-left : has_left group ≡ true → (last : ℕ) → last + 1 ≡ high → low ≤ last → high ≤ length groups → IsParted (swap groups low last) low last
  IsParted-left left last next bounds within =
      let moved = get_or-swap groups low last group (omega arith) (omega arith) in
      let many = length_swapped groups low last in
      record {
        stayed = λ place g below there.
            let inside = slice_get_within (swap groups low last) place g there in
            let read : get_or groups place group ≡ g = sym (moved.2 place (λ e. omega arith) (λ e. omega arith)) ∙ get_or_from_slice_get (swap groups low last) place g group there in
            parted.stayed place g below (slice_get-get_or groups place group (omega (arith, inside, many)) ∙ ap Some read);
        left = λ place g from there. elim (cases_eq place last) [
          | inl same ↦
              let read : get_or (swap groups low last) last group ≡ g = ap (λ p. get_or (swap groups low last) p group) (sym same) ∙ get_or_from_slice_get (swap groups low last) place g group there in
              let is : g ≡ group = sym read ∙ moved.1 ∙ get_or_from_slice_get groups low group group here in
              ap has_left is ∙ left
          | inr apart ↦
              let inside = slice_get_within (swap groups low last) place g there in
              let read : get_or groups place group ≡ g = sym (moved.2 place (λ e. omega arith) apart) ∙ get_or_from_slice_get (swap groups low last) place g group there in
              parted.left place g (omega (arith, from, next, not_last place last apart from)) (slice_get-get_or groups place group (omega (arith, inside, many)) ∙ ap Some read)
        ];
      }
    where
      not_last : (place last : ℕ) → (place ≡ last → ⊥) → last ≤ place → last < place
      not_last place last apart from = elim (cases_lt last place) [
        | inl after ↦ after
        | inr before ↦ absurd (apart (omega arith))
      ]
