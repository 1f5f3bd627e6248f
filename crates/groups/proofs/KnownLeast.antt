-- Bytes that tell how many slots of a group are live at the least, when groups come, go and change.
use Rattle.std.proofs.Common.{suc, ◌≡◌, ℕ, ◌+◌, ◌-◌, ◌<◌, ◌≤◌, List, [], Some, arith, inl, inr, insert, length, refl, set, slice_get, subst}
use Rattle.std.specs.Prelude.{map as map_list, remove}
use Rattle.groups.specs.Least.{KnowsLeast, least_of}
use Rattle.groups.proofs.Lists.{before-map, cases-insert, cases-set}
use Rattle.groups.proofs.Removed.{cases-remove}

module _ {X : Type 0} (IsRight : ℕ → X → Type 0) where
  -- with no byte nothing is said, and none of no group
  pub KnowsLeast-no_bytes : (groups : List X) → KnowsLeast IsRight groups []
  KnowsLeast-no_bytes groups at byte group there = absurd cc

  pub KnowsLeast-no_groups : (bytes : List ℕ) → KnowsLeast IsRight [] bytes
  KnowsLeast-no_groups bytes at byte group its there = absurd cc

  module _ (groups : List X) (bytes : List ℕ) (known : KnowsLeast IsRight groups bytes) where
    -- one is replaced for which its byte stays right
    pub KnowsLeast-set : (index : ℕ) (group now : X) → slice_get groups index ≡ Some group → ((byte : ℕ) → IsRight byte group → IsRight byte now)
        → KnowsLeast IsRight (set groups index now) bytes
    KnowsLeast-set index group now here more at byte other its there = elim (cases-set groups index now at other there) [
      | inl this ↦ subst (IsRight byte) this.1 (more byte (known index byte group (subst (λ (n : ℕ). slice_get bytes n ≡ Some byte) this.0 its) here))
      | inr that ↦ known at byte other its that.1
    ]

    -- one is replaced, and its byte with it
    pub KnowsLeast-noted : (index byte : ℕ) (now : X) → IsRight byte now → KnowsLeast IsRight (set groups index now) (set bytes index byte)
    KnowsLeast-noted index byte now right at its other found there = elim (cases-set bytes index byte at its found) [
      | inl this ↦ elim (cases-set groups index now at other there) [
        | inl same ↦ subst (λ n. IsRight n other) this.1 (subst (IsRight byte) same.1 right)
        | inr apart ↦ absurd (apart.0 this.0)
      ]
      | inr apart ↦ elim (cases-set groups index now at other there) [
        | inl same ↦ absurd (apart.0 same.0)
        | inr that ↦ known at its other apart.1 that.1
      ]
    ]

    -- all are replaced by such for which each byte stays right
    pub KnowsLeast-map : (f : X → X) → ((group : X) (byte : ℕ) → IsRight byte group → IsRight byte (f group)) → KnowsLeast IsRight (map_list f groups) bytes
    KnowsLeast-map f more at byte other its there =
        let before = before-map f groups at other there in
        subst (IsRight byte) before.2 (more before.0 byte (known at byte before.0 its before.1))

    -- one comes, with its byte
    pub KnowsLeast-insert : (index byte : ℕ) (group : X) → IsRight byte group → index ≤ length groups → index ≤ length bytes → KnowsLeast IsRight (insert groups index group) (insert bytes index byte)
    KnowsLeast-insert index byte group right within long at its other found there = elim (cases-insert bytes index byte long at its found) [
      | inl low ↦ elim (cases-insert groups index group within at other there) [
        | inl same ↦ known at its other low.1 same.1
        | inr (inl here) ↦ absurd (let less : at < index = low.0 in let is : at ≡ index = here.0 in omega arith)
        | inr (inr high) ↦ absurd (let less : at < index = low.0 in let next : at ≡ high.0 + 1 = high.1 in let above : index ≤ high.0 = high.2 in omega arith)
      ]
      | inr (inl here) ↦ elim (cases-insert groups index group within at other there) [
        | inl low ↦ absurd (let less : at < index = low.0 in let is : at ≡ index = here.0 in omega arith)
        | inr (inl same) ↦ subst (λ n. IsRight n other) here.1 (subst (IsRight byte) same.1 right)
        | inr (inr high) ↦ absurd (let is : at ≡ index = here.0 in let next : at ≡ high.0 + 1 = high.1 in let above : index ≤ high.0 = high.2 in omega arith)
      ]
      | inr (inr above) ↦ elim (cases-insert groups index group within at other there) [
        | inl low ↦ absurd (let less : at < index = low.0 in let next : at ≡ above.0 + 1 = above.1 in let high : index ≤ above.0 = above.2 in omega arith)
        | inr (inl here) ↦ absurd (let is : at ≡ index = here.0 in let next : at ≡ above.0 + 1 = above.1 in let high : index ≤ above.0 = above.2 in omega arith)
        | inr (inr high) ↦
            let same : high.0 ≡ above.0 = let next : at ≡ above.0 + 1 = above.1 in let this : at ≡ high.0 + 1 = high.1 in omega arith in
            known above.0 its other above.3 (subst (λ (n : ℕ). slice_get groups n ≡ Some other) same high.3)
      ]
    ]

    -- one goes, with its byte
    pub KnowsLeast-remove : (index : ℕ) → KnowsLeast IsRight (remove groups index) (remove bytes index)
    KnowsLeast-remove index at byte other its there = elim (cases-remove bytes index at byte its) [
      | inl low ↦ elim (cases-remove groups index at other there) [
        | inl same ↦ known at byte other low.1 same.1
        | inr high ↦ absurd (let less : at < index = low.0 in let above : index ≤ at = high.0 in omega arith)
      ]
      | inr high ↦ elim (cases-remove groups index at other there) [
        | inl low ↦ absurd (let less : at < index = low.0 in let above : index ≤ at = high.0 in omega arith)
        | inr same ↦ known (suc at) byte other high.1 same.1
      ]
    ]

  -- bytes of which each stands in the others, which know
  pub KnowsLeast-front : (groups : List X) (bytes more : List ℕ) → ((at byte : ℕ) → slice_get bytes at ≡ Some byte → slice_get more at ≡ Some byte)
      → KnowsLeast IsRight groups more → KnowsLeast IsRight groups bytes
  KnowsLeast-front groups bytes more front known at byte group its there = known at byte group (front at byte its) there

-- the byte 0 says nothing
pub least_of-zero : least_of 0 ≡ 0
least_of-zero = refl
