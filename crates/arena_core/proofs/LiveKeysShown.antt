-- The live keys of a sound core are the keys that have a value in the map that it shows.
use Rattle.std.proofs.Common.{◌≡◌, ℕ, ◌++◌, arith, cond, refl, sym, ap, ◌∙◌, Option, Some, None, is_some, count_by, find}
use Rattle.std.specs.FinSet as finset
use Rattle.std.specs.List.{AllByRecursion}
use Rattle.std.specs.Ordering.{nat_cmp}
use Rattle.span.specs.declared.key.Key.{Key}
use Rattle.span.specs.Log.{live_slots}
use Rattle.span.specs.PlainMap.{same_key}
use Rattle.span.specs.State.{SpanState}
use Rattle.groups.specs.Group.{spans_in, spans_of}
use Rattle.shard.specs.State.{ShardState}
use Rattle.groups.proofs.Logged.{logged_by}
use Rattle.arena_core.specs.Sound.{HasSoundGroups}
use Rattle.arena_core.specs.State.{CoreState, HasKeys, all_spans, live_keys, shard_spans, shown}
use Rattle.arena_core.proofs.Changes.{at_most_once}
use Rattle.arena_core.proofs.LiveKeys.{IsLegalSpan, count-keys_in, keys_in, length-keys_in, live_where}
use Rattle.arena_core.proofs.Lists.{each-append, each-flat_map, each-from, sum_by-none}
use Rattle.arena_core.proofs.Logged.{value-logged}
use Rattle.arena_core.proofs.Spans.{is_named, sum_all, sum_all-parts}

legal-spans : (core : CoreState) → HasSoundGroups core → AllByRecursion IsLegalSpan (all_spans core)
legal-spans core sound =
    each-append IsLegalSpan (shard_spans core.shards) (spans_in core.pool.groups ++ core.forgotten)
    (each-flat_map IsLegalSpan (λ (shard : ShardState). spans_in shard.groups) core.shards
    (λ number shard at. each-flat_map IsLegalSpan spans_of shard.groups
    (λ index group here. each-from IsLegalSpan (spans_of group)
    (λ place span there. ((sound.shards number shard at).sound.groups index group here).legal place span there))))
    (each-append IsLegalSpan (spans_in core.pool.groups) core.forgotten
    (each-flat_map IsLegalSpan spans_of core.pool.groups (λ index group here. each-from IsLegalSpan (spans_of group) (λ place span there. (sound.pool.groups index group here).legal place span there)))
    (each-from IsLegalSpan core.forgotten (λ place span there. (sound.forgotten place span there).legal)))

live_where-logged : (key : Key) (o : Option SpanState) → live_where key o ≡ cond {A = ℕ} (is_some (logged_by key o)) 1 0
live_where-logged key None = refl
live_where-logged key (Some span) = refl

pub HasKeys-live_keys : (core : CoreState) → HasSoundGroups core → HasKeys (shown core) (live_keys core)
HasKeys-live_keys core sound = (keys_in (all_spans core), λ key. counted key, sym (length-keys_in (all_spans core) ∙ counts))
  where
    counts : sum_all (λ (span : SpanState). finset.len (live_slots span.log)) core ≡ live_keys core
    counts =
        omega (
          arith,
          sum_all-parts (λ (span : SpanState). finset.len (live_slots span.log)) core,
          sum_by-none (λ (span : SpanState). finset.len (live_slots span.log)) core.forgotten
              (λ place span here. ap (λ s. finset.len s) (sound.forgotten place span here).none_live ∙ finset.len-empty nat_cmp),
        )

    counted : (key : Key) → count_by (same_key key) (keys_in (all_spans core)) ≡ cond {A = ℕ} (is_some ((shown core).value_of key)) 1 0
    counted key =
        count-keys_in key (all_spans core) (legal-spans core sound) (at_most_once core sound key.span)
        ∙ live_where-logged key (find (is_named key.span) (all_spans core))
        ∙ ap (λ o. cond {A = ℕ} (is_some o) 1 0) (sym (value-logged core sound key))
