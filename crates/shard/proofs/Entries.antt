-- What a mark sees of a shard's groups.
use Rattle.std.proofs.Common.{◌≡◌, ℕ, ◌+◌, List, [], ◌∷◌, ◌++◌, map, sym, ap, ◌∙◌, take, Some, slice_get, append-nil, cond, is_some, true, false}
use Rattle.std.proofs.lemmas.List.{map-append}
use Rattle.std.proofs.lemmas.List.Elements.{filter_more}
use Rattle.std.proofs.lemmas.Option.{get_or_from_slice_get, slice_get_within}
use Rattle.shard.specs.Group.{GroupState}
use Rattle.groups.specs.Group.{paged_in, summary}
use Rattle.span.specs.declared.entry.Entry.{Entry}

-- the entries of the groups that have a page
abbrev pub entries_in : List GroupState → List Entry
entries_in groups = map summary (paged_in groups)

-- one group more: where it has a page, its entry is one more

paged-more : (groups : List GroupState) (index : ℕ) (group : GroupState) → slice_get groups index ≡ Some group
    → paged_in (take (index + 1) groups) ≡ paged_in (take index groups) ++ cond (is_some group.page) (group ∷ []) []
paged-more groups index group here =
    filter_more (λ (g : GroupState). is_some g.page) groups index group (slice_get_within groups index group here)
    ∙ ap (λ (g : GroupState). paged_in (take index groups) ++ cond (is_some g.page) (g ∷ []) []) (get_or_from_slice_get groups index group group here)

pub entries-paged : (groups : List GroupState) (index : ℕ) (group : GroupState) → slice_get groups index ≡ Some group → is_some group.page ≡ true
    → entries_in (take index groups) ++ summary group ∷ [] ≡ entries_in (take (index + 1) groups)
entries-paged groups index group here paged =
    sym (map-append summary (paged_in (take index groups)) (group ∷ []))
    ∙ ap (map summary) (ap (λ b. paged_in (take index groups) ++ cond b (group ∷ []) []) (sym paged) ∙ sym (paged-more groups index group here))

pub entries-bare : (groups : List GroupState) (index : ℕ) (group : GroupState) → slice_get groups index ≡ Some group → is_some group.page ≡ false
    → entries_in (take index groups) ≡ entries_in (take (index + 1) groups)
entries-bare groups index group here bare =
    ap (map summary) (sym (paged-more groups index group here ∙ ap (λ b. paged_in (take index groups) ++ cond b (group ∷ []) []) bare ∙ append-nil (paged_in (take index groups))))
