-- The groups that a mark sees have slots of their class.
use Rattle.std.proofs.Common.{◌≡◌, ◌<◌, List, [], ◌∷◌, map as map_list, get_or, refl, sym, ap, ◌∙◌, suc, inl, inr, Option, Some, None, is_some}
use Rattle.std.specs.Cmp.{nat_cmp_total}
use Rattle.std.specs.FinMap as map
use Rattle.std.specs.FinSet.{contains, contains-empty, contains-union}
use Rattle.std.specs.Ordering.{nat_cmp}
use Rattle.std.proofs.lemmas.Bool.{both_ways, or_cases}
use Rattle.std.specs.List.{All}
use Rattle.std.proofs.lemmas.List.Elements.{All-append, All-filter, All-map, All-nil}
use Rattle.std.proofs.lemmas.Option.{slice_get-get_or}
use Rattle.bitmap.specs.Slots.{IsBelow}
use Rattle.span.specs.Classes.{slots_in}
use Rattle.span.specs.Log.{Held, live_slots, replay}
use Rattle.span.specs.State.{SpanState}
use Rattle.span.specs.declared.class.Class.{Class}
use Rattle.span.proofs.OfClass.{Fits-replay}
use Rattle.span.proofs.Slots.{contains-live_slots}
use Rattle.groups.specs.Group.{Group, paged_in, spans_of, summary}
use Rattle.groups.specs.Sound.{AreSoundGroups}
use Rattle.groups.specs.Spans.{AreSpansOf, IsSpanOf, union_of}
use Rattle.shard.specs.Group.{GroupState}
use Rattle.shard.specs.State.{ShardState}
use Rattle.pool.specs.Sound.{IsSound as IsSoundPool}
use Rattle.pool.specs.State.{PoolState, PooledState, paged_groups}
use Rattle.mesh_graph.specs.Groups.{Groups}
use Rattle.mesh_graph.proofs.Sparsest.{All-sparsest}
use Rattle.certificate.specs.Text.{FitsClass}
use Rattle.marks.specs.Seen.{AreSound, IsSeenInPart, abandoned_entries, owned_entries}
use Rattle.mesh_graph.specs.declared.build.TheConstants.{MOST_GROUPS}

-- what is live in a span of the class
live_below : (class : Class) (span : SpanState) → IsSpanOf class span → IsBelow (live_slots span.log) (slots_in class)
live_below class span of slot inside = there (map.get (replay span.log) slot) refl
  where
    there : (o : Option Held) → map.get (replay span.log) slot ≡ o → slot < slots_in class
    there None e = absurd (both_ways (contains (live_slots span.log) slot) (contains-live_slots span.log slot ∙ ap is_some e) inside)
    there (Some held) e = (Fits-replay class span.log of.of_class slot held e).0

-- and in spans of the class
union_below : (class : Class) (spans : List SpanState) → AreSpansOf class spans → IsBelow (union_of spans) (slots_in class)
union_below class [] of slot inside = absurd (both_ways (contains (union_of []) slot) (contains-empty nat_cmp slot) inside)
union_below class (span ∷ spans) of slot inside =
    elim (or_cases (contains (live_slots span.log) slot) (contains (union_of spans) slot) (sym (contains-union nat_cmp_total (live_slots span.log) (union_of spans) slot) ∙ inside)) [
      | inl here ↦ live_below class span (of 0 span refl) slot here
      | inr there ↦ union_below class spans (λ place other at. of (suc place) other at) slot there
    ]

module _ {Closed : Type 0} (groups : List (Group Closed)) (sound : AreSoundGroups groups) where
  -- each of the sound groups
  groups_fit : All (λ (group : Group Closed). FitsClass (summary group)) groups
  groups_fit index d low =
      let group = get_or groups index d in
      union_below group.head.class (spans_of group) (sound index group (slice_get-get_or groups index d low)).classes

-- the groups of a sound pool
abandoned_fit : (pool : PoolState) → IsSoundPool pool → All FitsClass (abandoned_entries pool)
abandoned_fit pool sound =
    All-map FitsClass summary (paged_groups pool)
    (All-filter (λ (group : PooledState). is_some group.page) (λ group. FitsClass (summary group)) pool.groups (groups_fit pool.groups sound.groups))

-- and those of sound shards
owned_fit : (shards : List ShardState) → AreSound shards → All FitsClass (owned_entries shards)
owned_fit [] sound = All-nil FitsClass
owned_fit (shard ∷ shards) sound =
    All-append FitsClass (map_list summary (paged_in shard.groups)) (owned_entries shards)
    (All-map FitsClass summary (paged_in shard.groups)
    (All-filter (λ (group : GroupState). is_some group.page) (λ group. FitsClass (summary group)) shard.groups
    (groups_fit shard.groups (sound 0 shard refl).groups)))
    (owned_fit shards (λ number other at. sound (suc number) other at))

-- so do those that a mark sees, also one that sees a part
pub fit_in_part : (pool : PoolState) (shards : List ShardState) (groups : Groups) → IsSeenInPart pool shards groups → IsSoundPool pool → AreSound shards
    → All FitsClass groups.abandoned × All FitsClass groups.owned
fit_in_part pool shards groups seen sound sound_shards = (
  All-sparsest FitsClass MOST_GROUPS (abandoned_entries pool) groups.abandoned seen.abandoned (abandoned_fit pool sound),
  All-sparsest FitsClass MOST_GROUPS (owned_entries shards) groups.owned seen.owned (owned_fit shards sound_shards),
)
