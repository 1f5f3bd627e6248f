-- Plans by places, and what a search along alternating walks has reached. No public clause cites
-- this module.
use Rattle.std.specs.Prelude.{ℕ, ◌+◌, ◌/◌, ◌≡◌, ◌≢◌, ◌<◌, Bool, true, false, List, length, Option, Some, None, is_some, not, slice_index_or, count_by}
use Rattle.augment.specs.declared.walks.Reached.{Reached}
use Rattle.augment.specs.Mates.{mate}
use Rattle.bitmap.specs.Slots.{has_bit}
use Rattle.mesh_graph.specs.Groups.{Groups, compatible_at}

-- each pair is compatible
abbrev pub Joins : Groups → List (Option ℕ) → Type 0
Joins graph onto = (i j : ℕ) → mate onto i ≡ Some j → compatible_at graph i j ≡ true

-- how many abandoned places are planned
abbrev pub pair_count : List (Option ℕ) → ℕ
pair_count onto = count_by is_some onto

-- the place that entry t reached
abbrev pub group : List Reached → ℕ → ℕ
group entries t = (slice_index_or entries t (record { group = 0; before = 0 })).group

-- the entry that entry t was reached from
abbrev pub before : List Reached → ℕ → ℕ
before entries t = (slice_index_or entries t (record { group = 0; before = 0 })).before

-- the entries differ, and each with a partner was reached from an earlier one that is compatible
-- with that partner
pub record AreReached (graph : Groups) (onto : List (Option ℕ)) (entries : List Reached) :
    Type 0 where
  pub within : (t : ℕ) → t < length entries → group entries t < length onto
  pub earlier : (t k : ℕ) → t < length entries → mate onto (group entries t) ≡ Some k
      → before entries t < t
  pub joined_to : (t k : ℕ) → t < length entries → mate onto (group entries t) ≡ Some k
      → compatible_at graph (group entries (before entries t)) k ≡ true
  pub apart : (t u : ℕ) → t < u → u < length entries → group entries t ≢ group entries u

-- whether the owned place k was passed
abbrev pub is_passed : List Bool → ℕ → Bool
is_passed reached k = slice_index_or reached k false

-- which places were passed, and a bit for each place that was not
pub record AreOpposite (unpassed : List ℕ) (passed : List Bool) : Type 0 where
  pub size : length unpassed ≡ (length passed + 63) / 64
  pub bits : (k : ℕ) → k < length passed → has_bit unpassed k ≡ not (is_passed passed k)

-- some entry reached the place i
abbrev pub IsReached : List Reached → ℕ → Type 0
IsReached entries i = (t : ℕ) × (t < length entries) × (group entries t ≡ i)

-- linked entries, and the partner of each was passed
pub record IsWalk (graph : Groups) (onto : List (Option ℕ)) (entries : List Reached)
    (used : List Bool) : Type 0 where
  pub linked : AreReached graph onto entries
  pub passed : (t k : ℕ) → t < length entries → mate onto (group entries t) ≡ Some k
      → is_passed used k ≡ true

-- how far a search has come: the entries below next have been searched
pub record IsSearch (graph : Groups) (onto : List (Option ℕ)) (entries : List Reached)
    (reached : List Bool) (next : ℕ) : Type 0 where
  pub linked : AreReached graph onto entries
  pub passed : (t k : ℕ) → t < length entries → mate onto (group entries t) ≡ Some k
      → is_passed reached k ≡ true
  pub mates_stand : (i k : ℕ) → is_passed reached k ≡ true → mate onto i ≡ Some k
      → IsReached entries i
  pub are_planned : (k : ℕ) → is_passed reached k ≡ true → (i : ℕ) × (mate onto i ≡ Some k)
  pub left_out : (i : ℕ) → i < length onto → mate onto i ≡ None → IsReached entries i
  pub closed : (t k : ℕ) → t < next → compatible_at graph (group entries t) k ≡ true
      → is_passed reached k ≡ true

-- how many owned places were not passed
abbrev pub unpassed : List Bool → ℕ
unpassed reached = count_by not reached

-- the places that a search has passed which has searched each of its entries
pub record IsSearched (graph : Groups) (onto : List (Option ℕ)) (reached : List Bool) : Type 0 where
  pub entries : List Reached
  pub search : IsSearch graph onto entries reached (length entries)
