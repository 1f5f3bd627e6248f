-- Where no span stands twice in a core, no group stands twice on its side of a mark.
use Rattle.std.proofs.Common.{◌≡◌, ◌≤◌, Bool, true, false, cond, List, [], ◌∷◌, ap, ◌∙◌, arith, is_some, map, nat_lt, count_by}
use Rattle.std.specs.List.{AllByRecursion, IsDistinct}
use Rattle.std.proofs.lemmas.List.{map-append}
use Rattle.span.specs.declared.id.SpanId.{SpanId}
use Rattle.span.specs.Ids.{same_span}
use Rattle.groups.specs.Group.{Group, paged_in, spans_in, spans_of, summary}
use Rattle.shard.specs.State.{ShardState}
use Rattle.groups.proofs.Lists.{count-append, count-cons, one_where}
use Rattle.span.specs.declared.entry.Entry.{Entry}
use Rattle.mesh_graph.specs.Groups.{ids}
use Rattle.span.proofs.Ids.{same_span-flip}
use Rattle.marks.specs.Seen.{AreDistinct, abandoned_entries, owned_entries}
use Rattle.arena_core.specs.Sound.{IsSound}
use Rattle.arena_core.specs.State.{CoreState, opened_by}
use Rattle.arena_core.proofs.Lists.{cond-le_one}
use Rattle.arena_core.proofs.Spans.{is_named, same_span-self, times, times-parts, times_owned, times_owned-cons}
use Rattle.std.proofs.lemmas.Bool.{false_from_ne_true}

-- ids that stand once

-- one id is the other
abbrev is_id : SpanId → SpanId → Bool
is_id id other = same_span other id

apart-from_none : (id : SpanId) (others : List SpanId) → count_by (is_id id) others ≡ 0 → AllByRecursion (λ other. same_span id other ≡ false) others
apart-from_none id [] none = tt
apart-from_none id (other ∷ others) none = (
  same_span-flip id other ∙ false_from_ne_true (same_span other id) (λ e. omega (arith, count-cons (is_id id) other others, one_where (same_span other id) e)),
  apart-from_none id others (omega (arith, count-cons (is_id id) other others)),
)

pub IsDistinct-once : (all : List SpanId) → ((id : SpanId) → count_by (is_id id) all ≤ 1) → IsDistinct same_span all
unfolding IsDistinct
IsDistinct-once [] once = tt
IsDistinct-once (id ∷ all) once = (
  apart-from_none id all (omega (arith, once id, count-cons (is_id id) id all, one_where (same_span id id) (same_span-self id))),
  IsDistinct-once all (λ other. omega (arith, once other, count-cons (is_id other) id all)),
)

-- a group's head is one of its spans

heads_paged : {Closed : Type 0} (id : SpanId) (groups : List (Group Closed)) → count_by (is_id id) (ids (map summary (paged_in groups))) ≤ count_by (is_named id) (spans_in groups)
heads_paged id [] = omega arith
heads_paged {Closed} id (group ∷ groups) = by_page (is_some group.page) (heads_paged id groups)
  where
    by_page : (b : Bool) → count_by (is_id id) (ids (map summary (paged_in groups))) ≤ count_by (is_named id) (spans_in groups)
        → count_by (is_id id) (ids (map summary (cond b (group ∷ paged_in groups) (paged_in groups)))) ≤ count_by (is_named id) (spans_in (group ∷ groups))
    by_page true fewer =
        omega (
          arith,
          count-cons (is_id id) group.head.id (ids (map summary (paged_in groups))),
          count-append (is_named id) (spans_of group) (spans_in groups),
          count-cons (is_named id) group.head group.guests,
        )
    by_page false fewer = omega (arith, count-append (is_named id) (spans_of group) (spans_in groups))

heads_owned : (id : SpanId) (shards : List ShardState) → count_by (is_id id) (ids (owned_entries shards)) ≤ times_owned id shards
heads_owned id [] = omega arith
heads_owned id (shard ∷ shards) =
    let entries : List Entry = map summary (paged_in shard.groups) in
    omega (
      arith,
      ap (count_by (is_id id)) (map-append (λ (entry : Entry). entry.id) entries (owned_entries shards)),
      count-append (is_id id) (ids entries) (ids (owned_entries shards)),
      times_owned-cons id shard shards,
      heads_paged id shard.groups,
      heads_owned id shards,
    )

-- where no span stands twice, no group does
pub AreDistinct-once : (core : CoreState) → ((id : SpanId) → times id core ≤ 1) → AreDistinct core.pool core.shards
AreDistinct-once core once = record {
  abandoned = IsDistinct-once (ids (abandoned_entries core.pool)) (λ id. omega (arith, once id, times-parts id core, heads_paged id core.pool.groups));
  owned = IsDistinct-once (ids (owned_entries core.shards)) (λ id. omega (arith, once id, times-parts id core, heads_owned id core.shards));
}

pub AreDistinct-sound : (core : CoreState) → IsSound core → AreDistinct core.pool core.shards
AreDistinct-sound core sound = AreDistinct-once core (λ id. omega (arith, sound.groups.once id, cond-le_one (nat_lt id.serial (opened_by core.shards id.shard))))
