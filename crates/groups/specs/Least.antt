-- Bytes beside groups: at least so many slots of each are live.
use Rattle.std.specs.Prelude.{◌≡◌, ◌<◌, ◌≤◌, ℕ, List, Some, cond, nat_eq, slice_get}
use Rattle.std.specs.FinSet as set
use Rattle.groups.specs.Group.{Group, occupied}

-- how many slots are live at the least, by a byte: a page has up to 256, so the last byte says that
-- all are
abbrev pub least_of : ℕ → ℕ
least_of byte = cond (nat_eq byte 255) 256 byte

-- at least as many slots of the group are live as the byte says
abbrev pub IsLeast : {Closed : Type 0} → ℕ → Group Closed → Type 0
IsLeast byte group = least_of byte ≤ set.len (occupied group)

-- each group that has a byte at its index has a right one
abbrev pub KnowsLeast : {X : Type 0} → (IsRight : ℕ → X → Type 0) → List X → List ℕ → Type 0
KnowsLeast {X} IsRight groups bytes = (index byte : ℕ) (group : X)
    → slice_get bytes index ≡ Some byte → slice_get groups index ≡ Some group
    → IsRight byte group

-- the bytes from the first index on and before the second say of no fewer live slots than so many
abbrev pub HaveLeast : List ℕ → (limit first end : ℕ) → Type 0
HaveLeast bytes limit first end = (index byte : ℕ) → first ≤ index → index < end
    → slice_get bytes index ≡ Some byte → limit ≤ least_of byte

-- none of these bytes is lower
abbrev pub HaveNoLower : List ℕ → (limit first end : ℕ) → Type 0
HaveNoLower bytes limit first end = (index byte : ℕ) → first ≤ index → index < end
    → slice_get bytes index ≡ Some byte → limit ≤ byte

-- one of these bytes is lower
pub record HasLower (bytes : List ℕ) (limit first end : ℕ) : Type 0 where
  pub index : ℕ
  pub byte : ℕ
  pub first_is : first ≤ index
  pub end_is : index < end
  pub here : slice_get bytes index ≡ Some byte
  pub lower : byte < limit
