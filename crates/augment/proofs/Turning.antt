-- Turning round the pairs of a walk: what holds after each pair
use Rattle.std.proofs.Common.{ℕ, ◌<◌, ◌≤◌, ◌≡◌, true, List, length, Option, Some, None, sym, ◌∙◌, arith, set, length-set, get_or-set_same, get_or-set_other, rules}
use Rattle.std.proofs.lemmas.Bool.{cases_eq}
use Rattle.std.proofs.lemmas.List.Sums.{sum_by-set}
use Rattle.augment.specs.declared.walks.Reached.{Reached}
use Rattle.augment.specs.Mates.{mate, ArePaired}
use Rattle.mesh_graph.specs.Groups.{Groups, compatible_at}
use Rattle.augment.specs.Walks.{Joins, pair_count, group, before, AreReached}
use Rattle.augment.proofs.Pairing.{mate_within}

-- start is the list of mates before the walk, onto and planned the lists now; the walk up to last is still to be turned, onto the free place
pub record IsTurning (graph : Groups) (entries : List Reached) (start start_planned onto planned : List (Option ℕ)) (last free : ℕ) : Type 0 where
  pub onto_length : length onto ≡ length start
  pub planned_length : length planned ≡ length start_planned
  pub last_in : last < length entries
  pub free_in : free < length planned
  pub count : pair_count onto ≡ pair_count start
  pub joins : Joins graph onto
  pub is_free : mate planned free ≡ None
  pub joined_to : compatible_at graph (group entries last) free ≡ true
  pub same : (t : ℕ) → t ≤ last → mate onto (group entries t) ≡ mate start (group entries t)

-- a write of a compatible mate keeps each pair compatible
pub joins-set : (graph : Groups) (onto : List (Option ℕ)) (i j : ℕ) → i < length onto → Joins graph onto → compatible_at graph i j ≡ true → Joins graph (set onto i (Some j))
joins-set graph onto i j il joins e = search (rules, cases_eq, get_or-set_same, get_or-set_other)

pub count_moved : (onto : List (Option ℕ)) (i j k : ℕ) → i < length onto → mate onto i ≡ Some k → pair_count (set onto i (Some j)) ≡ pair_count onto
count_moved onto i j k il was = search (rules, sum_by-set)

pub turning_more : (graph : Groups) (entries : List Reached) (start start_planned onto planned planned' : List (Option ℕ)) (last free left : ℕ)
    → AreReached graph start entries → ArePaired onto planned → IsTurning graph entries start start_planned onto planned last free
    → mate onto (group entries last) ≡ Some left → length planned' ≡ length planned → mate planned' left ≡ None
    → IsTurning graph entries start start_planned (set onto (group entries last) (Some free)) planned' (before entries last) left
turning_more graph entries start start_planned onto planned planned' last free left linked paired t was long freed =
    let i : group entries last < length onto = rw t.onto_length (linked.within last t.last_in) in
    let was_start : mate start (group entries last) ≡ Some left = sym (t.same last (omega arith)) ∙ was in
    let lower : before entries last < last = linked.earlier last left t.last_in was_start in
    let last_in : last < length entries = t.last_in in
    let left_in : left < length planned = mate_within planned left (group entries last) (paired.forth (group entries last) left was) in
    record {
      onto_length = length-set onto (group entries last) (Some free) ∙ t.onto_length;
      planned_length = long ∙ t.planned_length;
      last_in = omega arith;
      free_in = omega arith;
      count = count_moved onto (group entries last) free left i was ∙ t.count;
      joins = joins-set graph onto (group entries last) free i t.joins t.joined_to;
      is_free = freed;
      joined_to = linked.joined_to last left t.last_in was_start;
      same = λ u h. let ul : u < last = omega arith in get_or-set_other onto (group entries last) (group entries u) (Some free) None (linked.apart u last ul last_in) ∙ t.same u (omega arith);
    }
