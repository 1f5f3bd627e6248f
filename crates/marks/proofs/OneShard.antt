-- A group that a pair closes stands in one shard, and the others stay.
use Rattle.std.proofs.Common.{◌≡◌, ℕ, zero, suc, ◌<◌, Bool, true, false, is_some, get_or, List, [], ◌∷◌, ◌++◌, length, map, refl, sym, ap, subst, ◌∙◌, arith, Some, slice_get, set}
use Rattle.std.specs.List.{AllByRecursion, IsDistinct}
use Rattle.std.proofs.lemmas.Bool.{false≢true, true≢false}
use Rattle.std.proofs.lemmas.List.{map-append}
use Rattle.std.proofs.lemmas.Option.{slice_get_read}
use Rattle.span.specs.declared.entry.Entry.{Entry}
use Rattle.span.specs.declared.id.SpanId.{SpanId}
use Rattle.span.specs.Ids.{same_span}
use Rattle.span.proofs.Ids.{test_from_same_id}
use Rattle.groups.specs.Group.{paged_in, summary}
use Rattle.groups.proofs.Lists.{get_left, get_right, same_some, set-same}
use Rattle.shard.specs.Closes.{Closes, HasNoPagedHead, HasPagedHead}
use Rattle.shard.specs.Group.{GroupState}
use Rattle.shard.specs.Sound.{IsSound as IsSoundShard}
use Rattle.shard.specs.State.{ShardState}
use Rattle.shard.proofs.Sparse.{after-filter}
use Rattle.mesh_graph.specs.Groups.{ids}
use Rattle.marks.specs.Closings.{closed_by, closing}
use Rattle.marks.specs.OneShard.{ClosesAt, IsOnce}
use Rattle.marks.specs.Seen.{owned_entries}
use Rattle.marks.proofs.Closings.{closed-others, closing-more, closing-none, lent-set}
use Rattle.shard.proofs.Entries.{entries_in}
use Rattle.marks.proofs.Flagged.{map_back}
use Rattle.marks.proofs.Lists.{slice_get-map_at}

-- where no id stands twice, one shard at most has a group with a page of a head

-- the id stands in the list
abbrev Stands : List SpanId → SpanId → Type 0
Stands list id = (at : ℕ) × (slice_get list at ≡ Some id)

apart_at : (id other : SpanId) (list : List SpanId) → AllByRecursion (λ y. same_span id y ≡ false) list → (at : ℕ) → slice_get list at ≡ Some other → same_span id other ≡ false
apart_at id other [] apart at here = absurd cc
apart_at id other (first ∷ list) apart zero here = subst (λ y. same_span id y ≡ false) (same_some here) apart.0
apart_at id other (first ∷ list) apart (suc at) here = apart_at id other list apart.1 at here

distinct_right : (left right : List SpanId) → IsDistinct same_span (left ++ right) → IsDistinct same_span right
unfolding IsDistinct
distinct_right [] right distinct = distinct
distinct_right (id ∷ left) right distinct = distinct_right left right distinct.1

distinct_apart : (left right : List SpanId) (id : SpanId) → IsDistinct same_span (left ++ right) → Stands left id → Stands right id → ⊥
unfolding IsDistinct
distinct_apart [] right id distinct (at, here) there = absurd cc
distinct_apart (first ∷ left) right id distinct (zero, here) there =
    let later = get_right left right there.0 id there.1 in
    true≢false (sym (test_from_same_id first id (same_some here)) ∙ apart_at first id (left ++ right) distinct.0 later.0 later.1)
distinct_apart (first ∷ left) right id distinct (suc at, here) there = distinct_apart left right id distinct.1 (at, here) there

-- the head of a group with a page stands among the ids of its shard's entries
head_stands : (shard : ShardState) (head : SpanId) → HasPagedHead shard.groups head → Stands (ids (entries_in shard.groups)) head
head_stands shard head (index, group, found, paged) =
    let now = after-filter (λ (g : GroupState). is_some g.page) shard.groups index group found.here paged in (
      now.0,
      slice_get-map_at (λ (entry : Entry). entry.id) (entries_in shard.groups) now.0 (summary group) (slice_get-map_at summary (paged_in shard.groups) now.0 group now.1) ∙ ap Some found.head_is,
    )

-- the ids of one shard's groups, and those of the others
ids-shards : (shard : ShardState) (shards : List ShardState) → ids (owned_entries (shard ∷ shards)) ≡ ids (entries_in shard.groups) ++ ids (owned_entries shards)
ids-shards shard shards = map-append (λ (entry : Entry). entry.id) (entries_in shard.groups) (owned_entries shards)

head_owned : (shards : List ShardState) (number : ℕ) (shard : ShardState) (head : SpanId) → slice_get shards number ≡ Some shard
    → HasPagedHead shard.groups head → Stands (ids (owned_entries shards)) head
head_owned [] number shard head here has = absurd cc
head_owned (first ∷ shards) zero shard head here has =
    let stands = head_stands first head (subst (λ (s : ShardState). HasPagedHead s.groups head) (sym (same_some here)) has) in
    subst (λ list. Stands list head) (sym (ids-shards first shards)) (stands.0, get_left _ _ stands.0 head stands.1)
head_owned (first ∷ shards) (suc number) shard head here has =
    let stands = head_owned shards number shard head here has in
    subst (λ list. Stands list head) (sym (ids-shards first shards)) (get_right (ids (entries_in first.groups)) _ stands.0 head stands.1)

pub IsOnce-distinct : (shards : List ShardState) (head : SpanId) → IsDistinct same_span (ids (owned_entries shards)) → IsOnce shards head
IsOnce-distinct [] head distinct low high a b at_low at_high has_a has_b = absurd cc
IsOnce-distinct (shard ∷ shards) head distinct zero zero a b at_low at_high has_a has_b = refl
IsOnce-distinct (shard ∷ shards) head distinct zero (suc high) a b at_low at_high has_a has_b =
    absurd (
    distinct_apart (ids (entries_in shard.groups)) (ids (owned_entries shards)) head (subst (IsDistinct same_span) (ids-shards shard shards) distinct)
    (head_stands shard head (subst (λ (s : ShardState). HasPagedHead s.groups head) (sym (same_some at_low)) has_a))
    (head_owned shards high b head at_high has_b)
    )
IsOnce-distinct (shard ∷ shards) head distinct (suc low) zero a b at_low at_high has_a has_b =
    absurd (
    distinct_apart (ids (entries_in shard.groups)) (ids (owned_entries shards)) head (subst (IsDistinct same_span) (ids-shards shard shards) distinct)
    (head_stands shard head (subst (λ (s : ShardState). HasPagedHead s.groups head) (sym (same_some at_high)) has_b))
    (head_owned shards low a head at_low has_a)
    )
IsOnce-distinct (shard ∷ shards) head distinct (suc low) (suc high) a b at_low at_high has_a has_b =
    ap suc (IsOnce-distinct shards head (distinct_right (ids (entries_in shard.groups)) _ (subst (IsDistinct same_span) (ids-shards shard shards) distinct)) low high a b at_low at_high has_a has_b)

-- one pair more, over all shards

-- a shard in which the group has no page, or that has no such group, stays
closing-other : (done : List (SpanId × SpanId)) (pair : SpanId × SpanId) (shard : ShardState) → (HasPagedHead shard.groups pair.1 → ⊥) → closing done shard ≡ closing (done ++ pair ∷ []) shard
closing-other done pair shard none =
    ap (λ groups. record shard { groups = groups }) (closed-others done pair shard.groups (λ index group here paged is. none (index, group, record { here = here; head_is = is }, paged)))

closing-others : (done : List (SpanId × SpanId)) (pair : SpanId × SpanId) (shards : List ShardState)
    → ((number : ℕ) (shard : ShardState) → slice_get shards number ≡ Some shard → HasPagedHead shard.groups pair.1 → ⊥)
    → map (closing done) shards ≡ map (closing (done ++ pair ∷ [])) shards
closing-others done pair [] none = refl
closing-others done pair (shard ∷ shards) none =
    ap (λ s. s ∷ map (closing done) shards) (closing-other done pair shard (none 0 shard refl))
    ∙ ap (λ rest. closing (done ++ pair ∷ []) shard ∷ rest) (closing-others done pair shards (λ number other here. none (suc number) other here))

closing-set : (done : List (SpanId × SpanId)) (pair : SpanId × SpanId) (shards : List ShardState) (number : ℕ) (shard after : ShardState)
    → slice_get shards number ≡ Some shard → after ≡ closing (done ++ pair ∷ []) shard
    → ((other : ℕ) (s : ShardState) → slice_get shards other ≡ Some s → HasPagedHead s.groups pair.1 → other ≡ number)
    → set (map (closing done) shards) number after ≡ map (closing (done ++ pair ∷ [])) shards
closing-set done pair [] number shard after here after_is only = absurd cc
closing-set done pair (first ∷ shards) zero shard after here after_is only =
    ap (λ s. s ∷ map (closing done) shards) (after_is ∙ ap (closing (done ++ pair ∷ [])) (sym (same_some here)))
    ∙ ap (λ rest. closing (done ++ pair ∷ []) first ∷ rest)
    (closing-others done pair shards (λ other s there has. let past : suc other ≡ 0 = only (suc other) s there has in absurd (omega (arith, past))))
closing-set done pair (first ∷ shards) (suc number) shard after here after_is only =
    ap (λ s. s ∷ set (map (closing done) shards) number after) (closing-other done pair first (λ has. let past : 0 ≡ suc number = only 0 first refl has in absurd (omega (arith, past))))
    ∙ ap (λ rest. closing (done ++ pair ∷ []) first ∷ rest)
    (closing-set done pair shards number shard after here after_is (λ other s there has. let next : suc other ≡ suc number = only (suc other) s there has in
    omega (arith, next)))

-- closing groups changes no head, and no page
HasPagedHead-closing : (done : List (SpanId × SpanId)) (shard : ShardState) (head : SpanId) → HasPagedHead (closing done shard).groups head → HasPagedHead shard.groups head
HasPagedHead-closing done shard head (index, group, found, paged) =
    let was = map_back (closed_by done) shard.groups index group found.here in
    (index, was.0, record { here = was.1; head_is = ap (λ (g : GroupState). g.head.id) was.2 ∙ found.head_is }, ap (λ (g : GroupState). is_some g.page) was.2 ∙ paged)

-- the shard at the place has the group
pub closing-found : (first : List ShardState) (done : List (SpanId × SpanId)) (pair : SpanId × SpanId) (old new : List ShardState) (place : ℕ) → IsOnce first pair.1 → old ≡ map (closing done) first
    → ClosesAt old place pair.1 true new → new ≡ map (closing (done ++ pair ∷ [])) first
closing-found first done pair old new place once old_is (shard, after, here, closes, up, new_is) =
    let was = map_back (closing done) first place shard (ap (λ shards. slice_get shards place) (sym old_is) ∙ here) in
    let has : HasPagedHead was.0.groups pair.1 = HasPagedHead-closing done was.0 pair.1
    (subst (λ (s : ShardState). HasPagedHead s.groups pair.1) (sym was.2) (closes.0, closes.1, closes.2, closes.3)) in
    let more = closing-more was.0 done pair true after up (subst (λ (s : ShardState). Closes s pair.1 true after) (sym was.2) closes) in
    new_is ∙ ap (λ shards. set shards place after) old_is
    ∙ closing-set done pair first place was.0 after was.1 more (λ other s there has_too. once other place s was.0 there was.1 has_too has)

-- no shard has the group
pub closing-nowhere : (first : List ShardState) (done : List (SpanId × SpanId)) (pair : SpanId × SpanId) (old new : List ShardState) → old ≡ map (closing done) first → new ≡ old
    → ((place : ℕ) (shard : ShardState) → slice_get old place ≡ Some shard → HasNoPagedHead shard.groups pair.1)
    → new ≡ map (closing (done ++ pair ∷ [])) first
closing-nowhere first done pair old new old_is new_is none =
    new_is ∙ old_is ∙ closing-others done pair first (λ number shard here (index, group, found, paged).
    false≢true (sym (ap is_some (none number (closing done shard) (ap (λ shards. slice_get shards number) old_is ∙ slice_get-map_at (closing done) first number shard here)
    index (closed_by done group) (record { here = slice_get-map_at (closed_by done) shard.groups index group found.here; head_is = found.head_is }))) ∙ paged))

-- no pair has closed no group
pub closing-start : (shards : List ShardState) → shards ≡ map (closing []) shards
closing-start [] = refl
closing-start (shard ∷ shards) = ap (λ s. s ∷ shards) (closing-none shard) ∙ ap (λ rest. closing [] shard ∷ rest) (closing-start shards)

-- a value that lends a shard was asked
pub ClosesAt-lent : {H : Type 0} (lent : H → ShardState) (lenders : List H) (place : ℕ) (lender after : H) (head : SpanId) (told : Bool) → place < length lenders → lender ≡ get_or lenders place lender
    → Closes (lent lender) head told (lent after) → IsSoundShard (lent after) → ClosesAt (map lent lenders) place head told (map lent (set lenders place after))
ClosesAt-lent lent lenders place lender after head told within is closes sound = by_answer told closes
  where
    here : slice_get (map lent lenders) place ≡ Some (lent lender)
    here = slice_get-map_at lent lenders place lender (slice_get_read lenders _ place lender refl within is)

    by_answer : (told : Bool) → Closes (lent lender) head told (lent after) → ClosesAt (map lent lenders) place head told (map lent (set lenders place after))
    by_answer false (none, same) = (
      λ shard there. subst (λ (s : ShardState). HasNoPagedHead s.groups head) (same_some (sym here ∙ there)) none,
      lent-set lent lenders place after ∙ ap (set (map lent lenders) place) same ∙ set-same (map lent lenders) place (lent lender) here,
    )
    by_answer true closes = (lent lender, lent after, here, closes, sound.ascending, lent-set lent lenders place after)
