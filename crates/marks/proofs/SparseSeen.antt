-- What a mark of some sees, if it makes entries of few groups.
use Rattle.std.proofs.Common.{◌≡◌, ℕ, ◌+◌, ◌≤◌, ◌∙◌, Bool, true, false, ap, is_some, refl, slice_get, Some, List, [], ◌∷◌, ◌++◌, length, map, take, sym, subst, arith, get_or, append_assoc}
use Rattle.std.specs.List.{All, IsDistinct}
use Rattle.std.specs.List.Sorted.{IsPermutation}
use Rattle.std.proofs.Math.Seq.{take-append_seam}
use Rattle.std.proofs.lemmas.List.{append-nil, get_or_append_left, length-append}
use Rattle.std.proofs.lemmas.List.Elements.{All-append}
use Rattle.std.proofs.lemmas.List.Sorted.{All-permutation, IsPermutation-append_left, IsPermutation-trans, length_permutation}
use Rattle.mesh_graph.proofs.Sorting.{distinct-after, distinct-take}
use Rattle.mesh_graph.proofs.Sparsest.{AreSparsest-permuted}
use Rattle.mesh_graph.specs.Groups.{ids}
use Rattle.mesh_graph.specs.Sparsest.{AreSparsest, occupied_count}
use Rattle.mesh_graph.specs.declared.build.TheConstants.{MOST_GROUPS}
use Rattle.std.specs.FinSet.{len}
use Rattle.groups.specs.Group.{occupied, summary}
use Rattle.pool.proofs.SparseGroups.{AreParted-left, AreParted-none}
use Rattle.pool.specs.Sparse.{AreParted, HaveSparsest}
use Rattle.shard.proofs.Entries.{entries-bare, entries-paged, entries_in}
use Rattle.shard.specs.Group.{GroupState}
use Rattle.shard.specs.State.{ShardState}
use Rattle.span.specs.Ids.{same_span}
use Rattle.span.specs.declared.entry.Entry.{Entry}
use Rattle.marks.specs.Seen.{AreSound, owned_entries}

-- the sparsest of those that have been found
pub AreSparsest-found : (most : ℕ) (entries found chosen : List Entry) → HaveSparsest most entries found → AreSparsest most found chosen → AreSparsest most entries chosen
AreSparsest-found most entries found chosen sparse sparsest = record {
  left_out = sparsest.left_out ++ sparse.left_out;
  each = IsPermutation-trans entries (found ++ sparse.left_out) (chosen ++ (sparsest.left_out ++ sparse.left_out)) sparse.each
      (subst (IsPermutation (found ++ sparse.left_out)) (append_assoc chosen sparsest.left_out sparse.left_out)
      (IsPermutation-append_left sparse.left_out found (chosen ++ sparsest.left_out) sparsest.each));
  count = omega (
    arith,
    sparsest.count,
    sparse.enough,
    length_permutation entries (found ++ sparse.left_out) sparse.each,
    length-append found sparse.left_out,
  );
  fewest = λ i a low. All-append (λ (b : Entry). occupied_count (get_or chosen i a) ≤ occupied_count b) sparsest.left_out sparse.left_out (sparsest.fewest i a low)
      (subst (λ (x : Entry). All (λ (b : Entry). occupied_count x ≤ occupied_count b) sparse.left_out) (get_or_append_left chosen sparsest.left_out a i low)
      (All-permutation (λ (x : Entry). All (λ (b : Entry). occupied_count x ≤ occupied_count b) sparse.left_out) found (chosen ++ sparsest.left_out) sparsest.each sparse.fewest
      i a (omega (arith, low, length-append chosen sparsest.left_out))));
}

-- those of a snapshot of them
pub AreSparsest-seen : (entries found all chosen : List Entry) → HaveSparsest MOST_GROUPS entries found → IsPermutation found all → AreSparsest MOST_GROUPS all chosen
    → AreSparsest MOST_GROUPS entries chosen
AreSparsest-seen entries found all chosen sparse moved sparsest =
    AreSparsest-found MOST_GROUPS entries found chosen sparse (AreSparsest-permuted MOST_GROUPS found all chosen moved sparsest)

-- ids that stand once stand once among those that are found
pub distinct-found : (entries found : List Entry) → HaveSparsest MOST_GROUPS entries found → IsDistinct same_span (ids entries) → IsDistinct same_span (ids found)
distinct-found entries found sparse once = subst (λ (list : List Entry). IsDistinct same_span (ids list)) (take-append_seam found sparse.left_out)
    (distinct-take (length found) (found ++ sparse.left_out) (omega (arith, length-append found sparse.left_out)) (distinct-after entries (found ++ sparse.left_out) sparse.each once))

-- what is parted by a bound
module _ (bound : ℕ) (items : List Entry) where
  -- before the first group of a shard
  pub parted-start : (groups : List GroupState) (before : List Entry) → AreParted bound before items → AreParted bound (before ++ entries_in (take 0 groups)) items
  parted-start [] before parted = subst (λ (entries : List Entry). AreParted bound entries items) (sym (append-nil before)) parted
  parted-start (group ∷ groups) before parted = subst (λ (entries : List Entry). AreParted bound entries items) (sym (append-nil before)) parted

  -- a shard without groups
  pub parted-empty : (groups : List GroupState) (before : List Entry) → groups ≡ [] → AreParted bound before items → AreParted bound (before ++ entries_in groups) items
  parted-empty groups before none parted = subst (λ (gs : List GroupState). AreParted bound (before ++ entries_in gs) items) (sym none)
      (subst (λ (entries : List Entry). AreParted bound entries items) (sym (append-nil before)) parted)

-- before the first shard
pub parted-none : {H : Type 0} (lent : H → ShardState) (bound : ℕ) (shards : List H) → AreParted bound (owned_entries (map lent (take 0 shards))) []
parted-none lent bound [] = AreParted-none bound
parted-none lent bound (shard ∷ shards) = AreParted-none bound

pub sound-none : {H : Type 0} (lent : H → ShardState) (shards : List H) → AreSound (map lent (take 0 shards))
sound-none lent [] number shard at = absurd cc
sound-none lent (first ∷ shards) number shard at = absurd cc

-- one group more that has too many live slots is left out, if it has a page, and has no entry if it has none
pub parted-left : (bound : ℕ) (before : List Entry) (groups : List GroupState) (at : ℕ) (group : GroupState) → slice_get groups at ≡ Some group → (items : List Entry)
    → bound ≤ len (occupied group) → AreParted bound (before ++ entries_in (take at groups)) items → AreParted bound (before ++ entries_in (take (at + 1) groups)) items
parted-left bound before groups at group here items many parted = by_test (is_some group.page) refl
  where
    by_test : (b : Bool) → is_some group.page ≡ b → AreParted bound (before ++ entries_in (take (at + 1) groups)) items
    by_test true paged = subst (λ (entries : List Entry). AreParted bound entries items)
        (append_assoc before (entries_in (take at groups)) (summary group ∷ []) ∙ ap (λ (xs : List Entry). before ++ xs) (entries-paged groups at group here paged))
        (AreParted-left bound (before ++ entries_in (take at groups)) items (summary group) parted (omega (arith, many)))
    by_test false bare = subst (λ (entries : List Entry). AreParted bound entries items) (ap (λ (xs : List Entry). before ++ xs) (entries-bare groups at group here bare)) parted
