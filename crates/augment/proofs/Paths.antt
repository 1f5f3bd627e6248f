-- A walk that grows and shrinks at its end
use Rattle.std.proofs.Common.{ℕ, ◌<◌, ◌≡◌, Bool, true, false, List, [], ◌∷◌, ◌++◌, length, Option, Some, set, get_or-set_same, get_or-set_other, rules}
use Rattle.std.proofs.lemmas.Bool.{cases_eq}
use Rattle.augment.specs.declared.walks.Reached.{Reached}
use Rattle.augment.specs.Mates.{mate}
use Rattle.mesh_graph.specs.Groups.{Groups, compatible_at}
use Rattle.augment.specs.Walks.{group, is_passed, IsWalk}
use Rattle.augment.proofs.Searching.{linked_more, group_kept, group_last, below_push}

-- one step more, over the unused k to its mate
pub walk_more : (graph : Groups) (onto : List (Option ℕ)) (path : List Reached) (used : List Bool) (i k at : ℕ) → IsWalk graph onto path used → at < length path
    → k < length used → compatible_at graph (group path at) k ≡ true → is_passed used k ≡ false → mate onto i ≡ Some k
    → IsWalk graph onto (path ++ record { group = i; before = at } ∷ []) (set used k true)
walk_more graph onto path used i k at w at_in k_in j unused m =
    search (rules, get_or-set_same, linked_more, cases_eq, below_push, get_or-set_other, group_kept, group_last)
