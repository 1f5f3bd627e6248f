-- Heads that ascend in each shard, and from one shard to the next.
use Rattle.std.proofs.Common.{◌≡◌, ℕ, ◌+◌, ◌-◌, ◌<◌, ◌≤◌, false, List, [], ◌∷◌, ◌++◌, Some, length, map, take, refl, sym, subst, ap, ◌∙◌, arith, get_or, slice_get, is_some, inl, inr}
use Rattle.std.specs.List.{All, IsDistinct}
use Rattle.std.specs.List.Sorted.{IsStrictlyIncreasing}
use Rattle.std.proofs.lemmas.Bool.{cases_Bool, cases_eq, cases_lt}
use Rattle.std.proofs.lemmas.List.{get_or_append_left, get_or-append_right, length-append, map-append}
use Rattle.std.proofs.lemmas.List.Elements.{All-append, All-filter, All-map}
use Rattle.std.proofs.lemmas.Map.Keys.{apart_from_distinct, IsDistinct-from_apart}
use Rattle.std.proofs.lemmas.Option.{slice_get-get_or}
use Rattle.groups.proofs.Heads.{IsStrictlyIncreasing-heads}
use Rattle.groups.proofs.Lists.{same_some}
use Rattle.groups.proofs.Standing.{head_id}
use Rattle.groups.specs.Group.{Ascend, Group, paged_in, summary}
use Rattle.mesh_graph.proofs.Entries.{rank-same}
use Rattle.mesh_graph.proofs.Order.{distinct-from_ascending}
use Rattle.mesh_graph.specs.Groups.{ids}
use Rattle.shard.proofs.Sparse.{pairs-filter}
use Rattle.shard.specs.Group.{GroupState}
use Rattle.shard.specs.State.{ShardState}
use Rattle.span.specs.Ids.{rank, same_span}
use Rattle.span.specs.declared.entry.Entry.{Entry}
use Rattle.span.specs.declared.id.SpanId.{SpanId}
use Rattle.marks.specs.Apart.{AreWithin}
use Rattle.marks.specs.Seen.{owned_entries}

-- the ranks of the entries' ids are those of the heads
ranks : {Closed : Type 0} (groups : List (Group Closed)) → map rank (ids (map summary groups)) ≡ map (λ (g : Group Closed). rank g.head.id) groups
ranks [] = refl
ranks (group ∷ groups) = ap (λ (list : List ℕ). rank group.head.id ∷ list) (ranks groups)

-- heads that ascend stand once
pub distinct-heads : {Closed : Type 0} (groups : List (Group Closed)) → IsStrictlyIncreasing (map (λ (g : Group Closed). rank g.head.id) groups) → IsDistinct same_span (ids (map summary groups))
distinct-heads groups up = distinct-from_ascending (ids (map summary groups)) (subst IsStrictlyIncreasing (sym (ranks groups)) up)

-- ids below a number and ids from it on
different : (a b : SpanId) (mid : ℕ) → rank a < mid → mid ≤ rank b → same_span a b ≡ false
different a b mid low high = elim (cases_Bool (same_span a b)) [
  | inl e ↦ absurd (let one : rank a ≡ rank b = rank-same a b e in omega (arith, one, low, high))
  | inr e ↦ e
]

distinct-append : (mid : ℕ) (xs ys : List SpanId) → IsDistinct same_span xs → IsDistinct same_span ys → All (λ (x : SpanId). rank x < mid) xs → All (λ (x : SpanId). mid ≤ rank x) ys
    → IsDistinct same_span (xs ++ ys)
distinct-append mid xs ys apart apart' low high = IsDistinct-from_apart same_span (xs ++ ys) (λ i j d less within. elim (cases_lt j (length xs)) [
  | inl both ↦ (λ k. same_span (get_or_append_left xs ys d i (omega (arith, less, both)) k) (get_or_append_left xs ys d j both k)) ∙ apart_from_distinct same_span xs i j d apart less both
  | inr past ↦ elim (cases_lt i (length xs)) [
    | inl first ↦ (λ k. same_span (get_or_append_left xs ys d i first k) (get_or-append_right xs ys (length xs) j d refl past k))
        ∙ different (get_or xs i d) (get_or ys (j - length xs) d) mid (low i d first) (high (j - length xs) d (omega (arith, within, past, length-append xs ys)))
    | inr none ↦ (λ k. same_span (get_or-append_right xs ys (length xs) i d refl none k) (get_or-append_right xs ys (length xs) j d refl past k))
        ∙ apart_from_distinct same_span ys (i - length xs) (j - length xs) d apart' (omega (arith, less, none)) (omega (arith, within, past, length-append xs ys))
  ]
])

pub AreWithin-append : (low mid high : ℕ) (xs ys : List Entry) → low ≤ mid → mid ≤ high → AreWithin low mid xs → AreWithin mid high ys → AreWithin low high (xs ++ ys)
AreWithin-append low mid high xs ys up up' first second = record {
  distinct = subst (IsDistinct same_span) (sym (map-append (λ (x : Entry). x.id) xs ys))
      (distinct-append mid (ids xs) (ids ys) first.distinct second.distinct
      (All-map (λ (x : SpanId). rank x < mid) (λ (x : Entry). x.id) xs first.below)
      (All-map (λ (x : SpanId). mid ≤ rank x) (λ (x : Entry). x.id) ys second.from));
  from = All-append (λ (x : Entry). low ≤ rank x.id) xs ys first.from (λ i d within. omega (arith, up, second.from i d within));
  below = All-append (λ (x : Entry). rank x.id < high) xs ys (λ i d within. omega (arith, up', first.below i d within)) second.below;
}

-- no groups
AreWithin-none : (next : ℕ) → AreWithin next next []
AreWithin-none next = record {
  distinct = IsDistinct-from_apart same_span [] (λ i j d less within. absurd (omega (arith, within)));
  from = λ i d within. absurd (omega (arith, within));
  below = λ i d within. absurd (omega (arith, within));
}

pub within-empty : (next : ℕ) (groups : List GroupState) → groups ≡ [] → AreWithin next next (map summary (paged_in groups))
within-empty next groups none = subst (λ (gs : List GroupState). AreWithin next next (map summary (paged_in gs))) (sym none) (AreWithin-none next)

-- of no shard
pub within-start : {H : Type 0} (lent : H → ShardState) (shards : List H) → AreWithin 0 0 (owned_entries (map lent (take 0 shards)))
within-start lent [] = AreWithin-none 0
within-start lent (shard ∷ shards) = AreWithin-none 0

-- the groups of one shard
module _ (groups : List GroupState) (first last : GroupState) (ascend : Ascend groups) (at_first : slice_get groups 0 ≡ Some first) (at_last : slice_get groups (length groups - 1) ≡ Some last) where
  from_first : (next : ℕ) → next ≤ rank first.head.id → All (λ (g : GroupState). next ≤ rank g.head.id) groups
  from_first next low i d within = elim (cases_eq i 0) [
    | inl e ↦
        let same : first ≡ get_or groups i d = same_some (sym at_first ∙ ap (slice_get groups) (sym e) ∙ slice_get-get_or groups i d within) in
        omega (arith, low, ap (λ (g : GroupState). rank g.head.id) same)
    | inr n ↦
        let more : rank first.head.id < rank (get_or groups i d).head.id = ascend 0 i first (get_or groups i d) (omega arith) at_first (slice_get-get_or groups i d within) in
        omega (arith, low, more)
  ]

  to_last : All (λ (g : GroupState). rank g.head.id < rank last.head.id + 1) groups
  to_last i d within = elim (cases_eq i (length groups - 1)) [
    | inl e ↦
        let same : last ≡ get_or groups i d = same_some (sym at_last ∙ ap (slice_get groups) (sym e) ∙ slice_get-get_or groups i d within) in
        omega (arith, ap (λ (g : GroupState). rank g.head.id) same)
    | inr n ↦
        let less : rank (get_or groups i d).head.id < rank last.head.id = ascend i (length groups - 1) (get_or groups i d) last (omega arith) (slice_get-get_or groups i d within) at_last in
        omega (arith, less)
  ]

  pub within-shard : (next : ℕ) → next ≤ rank first.head.id → AreWithin next (rank last.head.id + 1) (map summary (paged_in groups))
  within-shard next low = record {
    distinct = distinct-heads (paged_in groups) (IsStrictlyIncreasing-heads head_id (paged_in groups)
        (pairs-filter (λ (a b : GroupState). rank a.head.id < rank b.head.id) (λ (g : GroupState). is_some g.page) groups ascend));
    from = All-map (λ (x : Entry). next ≤ rank x.id) summary (paged_in groups)
        (All-filter (λ (g : GroupState). is_some g.page) (λ (g : GroupState). next ≤ rank g.head.id) groups (from_first next low));
    below = All-map (λ (x : Entry). rank x.id < rank last.head.id + 1) summary (paged_in groups)
        (All-filter (λ (g : GroupState). is_some g.page) (λ (g : GroupState). rank g.head.id < rank last.head.id + 1) groups to_last);
  }

  pub heads-order : rank first.head.id ≤ rank last.head.id
  heads-order = elim (cases_eq 0 (length groups - 1)) [
    | inl e ↦ let same : first ≡ last = same_some (sym at_first ∙ ap (slice_get groups) e ∙ at_last) in omega (arith, ap (λ (g : GroupState). rank g.head.id) same)
    | inr n ↦ let less : rank first.head.id < rank last.head.id = ascend 0 (length groups - 1) first last (omega arith) at_first at_last in omega (arith, less)
  ]
