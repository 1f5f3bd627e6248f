-- Groups of a core that are closed or opened, and nothing else of them changes.
use Rattle.std.proofs.Common.{◌≡◌, ℕ, zero, suc, Bool, List, [], ◌∷◌, ◌++◌, refl, sym, ap, subst, ◌∙◌, Some, slice_get, map, count_by, sum_by}
use Rattle.std.proofs.lemmas.List.{length-map}
use Rattle.span.specs.Ids.{same_span}
use Rattle.span.specs.State.{SpanState}
use Rattle.shard.specs.Group.{GroupState}
use Rattle.shard.specs.State.{ShardState}
use Rattle.groups.specs.Group.{spans_in}
use Rattle.arena_core.specs.Sound.{HasSoundGroups, IsSoundAt}
use Rattle.arena_core.specs.State.{CoreState, all_spans, opened_of, shard_spans, shown}
use Rattle.arena_core.proofs.Groups.{IsSoundAt-same}
use Rattle.arena_core.proofs.Changes.{indicator}
use Rattle.arena_core.proofs.Logged.{shown-same}
use Rattle.marks.proofs.Flagged.{with_flags, spans_in-flagged, map_back, IsSoundShard-flagged}

-- the core with these flags
abbrev pub with_all_flags : (GroupState → Bool) → CoreState → CoreState
with_all_flags closed core = record core { shards = map (with_flags closed) core.shards }

-- a change of shards that leaves how many spans each has opened
pub opened_of-map : (change : ShardState → ShardState) → ((shard : ShardState) → (change shard).opened ≡ shard.opened) → (shards : List ShardState) (number : ℕ)
    → opened_of (slice_get (map change shards) number) ≡ opened_of (slice_get shards number)
opened_of-map change same [] number = refl
opened_of-map change same (shard ∷ shards) zero = same shard
opened_of-map change same (shard ∷ shards) (suc number) = opened_of-map change same shards number

module _ (closed : GroupState → Bool) where
  shard_spans-flagged : (shards : List ShardState) → shard_spans (map (with_flags closed) shards) ≡ shard_spans shards
  shard_spans-flagged [] = refl
  shard_spans-flagged (shard ∷ shards) = λ i. spans_in-flagged closed shard.groups i ++ shard_spans-flagged shards i

  module _ (core : CoreState) (sound : HasSoundGroups core) where
    all_spans-flagged : all_spans (with_all_flags closed core) ≡ all_spans core
    all_spans-flagged = ap (λ spans. spans ++ (spans_in core.pool.groups ++ core.forgotten)) (shard_spans-flagged core.shards)

    pub HasSoundGroups-flagged : HasSoundGroups (with_all_flags closed core)
    HasSoundGroups-flagged = record {
      within = sound.within;
      count = length-map core.shards (with_flags closed) ∙ sound.count;
      shards = λ number shard at.
          let (was, here, is) = map_back (with_flags closed) core.shards number shard at in
          let fine = sound.shards number was here in
          subst (IsSoundAt core.limits number) is (IsSoundAt-same core.limits number was (with_flags closed was) refl fine (IsSoundShard-flagged closed was fine.sound));
      pool = sound.pool;
      gens = λ place span at. sound.gens place span (subst (λ spans. slice_get spans place ≡ Some span) all_spans-flagged at);
      once = λ id.
          ap (count_by (λ (s : SpanState). same_span s.id id)) all_spans-flagged
          ∙ sound.once id
          ∙ ap (indicator id.serial) (sym (opened_of-map (with_flags closed) (λ shard. refl) core.shards id.shard));
      forgotten = sound.forgotten;
    }

    pub shown-flagged : shown (with_all_flags closed core) ≡ shown core
    shown-flagged = shown-same core (with_all_flags closed core) sound HasSoundGroups-flagged refl (λ w. ap (sum_by w) all_spans-flagged)
