-- Groups that are told of, on their way into an order. No public clause cites this module.
use Rattle.std.specs.Prelude.{◌≡◌, ◌⊎◌, ◌&&◌, ◌++◌, ◌∷◌, ℕ, ◌<◌, ◌≤◌, Bool, List, [], Some, cond, length, nat_lt, slice_get}
use Rattle.std.specs.List.Sorted.{IsPermutation}
use Rattle.span.specs.Ids.{rank}
use Rattle.shard.specs.declared.shard.retiring.LiveGroup.{LiveGroup}

-- a key is live in the group
abbrev pub is_live : LiveGroup → Bool
is_live group = nat_lt 0 group.live

-- what is told, with the group behind if a key is live in it, and fewer than the limit are
abbrev pub with_told : List LiveGroup → ℕ → LiveGroup → List LiveGroup
with_told told limit one = cond (is_live one && nat_lt one.live limit) (told ++ one ∷ []) told

-- the other has no fewer live keys, and where it has as many, no lower head
abbrev pub IsNotAfter : LiveGroup → LiveGroup → Type 0
IsNotAfter a b = (a.live < b.live) ⊎ ((a.live ≡ b.live) × (rank a.head ≤ rank b.head))

-- each stands in order with every later one
abbrev pub AreInOrder : List LiveGroup → Type 0
AreInOrder told = (low high : ℕ) (a b : LiveGroup) → low < high → slice_get told low ≡ Some a
    → slice_get told high ≡ Some b → IsNotAfter a b

-- so does each of the first with every one of the others
abbrev pub AreBefore : List LiveGroup → List LiveGroup → Type 0
AreBefore told rest = (low high : ℕ) (a b : LiveGroup) → slice_get told low ≡ Some a
    → slice_get rest high ≡ Some b → IsNotAfter a b

-- of what was told these come first: none of the others is before one of them
pub record AreFirst (old new : List LiveGroup) : Type 0 where
  pub rest : List LiveGroup
  pub permutation : IsPermutation old (new ++ rest)
  pub before : AreBefore new rest

-- there are as many as asked for, or no others
abbrev pub IsCut : ℕ → List LiveGroup → List LiveGroup → Type 0
IsCut most told rest = (length told ≡ most) ⊎ ((length told ≤ most) × (length rest ≡ 0))

-- of what was told these are kept, which come first in order
pub record AreSelected (most : ℕ) (old new : List LiveGroup) : Type 0 where
  pub rest : List LiveGroup
  pub permutation : IsPermutation old (new ++ rest)
  pub before : AreBefore new rest
  pub cut : IsCut most new rest
