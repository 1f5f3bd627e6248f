-- Groups of a shard that are closed or opened, and nothing else of them changes.
use Rattle.std.proofs.Common.{◌≡◌, ℕ, zero, suc, ◌<◌, ◌≤◌, Bool, List, [], ◌∷◌, ◌++◌, refl, sym, ap, subst, arith, Some, slice_get, map}
use Rattle.std.specs.Prelude.{count_by}
use Rattle.std.proofs.lemmas.List.{length-map}
use Rattle.span.specs.Ids.{rank, same_span}
use Rattle.span.specs.State.{SpanState}
use Rattle.shard.specs.Group.{GroupState}
use Rattle.groups.specs.Group.{spans_in, spans_of}
use Rattle.shard.specs.Sound.{IsSound as IsSoundShard}
use Rattle.groups.specs.Sound.{IsSoundGroup}
use Rattle.shard.specs.State.{ShardState}
use Rattle.groups.proofs.Lists.{same_some}

-- the group with this flag
abbrev pub with_flag : (GroupState → Bool) → GroupState → GroupState
with_flag closed group = record group { closed = closed group }

-- the groups with these flags
abbrev pub flagged : (GroupState → Bool) → List GroupState → List GroupState
flagged closed groups = map (with_flag closed) groups

-- the shard with these flags
abbrev pub with_flags : (GroupState → Bool) → ShardState → ShardState
with_flags closed shard = record shard { groups = flagged closed shard.groups }

-- what stands in a mapped list

pub map_back : {X Y : Type 0} (f : X → Y) (xs : List X) (k : ℕ) (y : Y) → slice_get (map f xs) k ≡ Some y → (x : X) × (slice_get xs k ≡ Some x) × (f x ≡ y)
map_back f [] k y here = absurd cc
map_back f (x ∷ xs) zero y here = (x, refl, same_some here)
map_back f (x ∷ xs) (suc k) y here = map_back f xs k y here

module _ (closed : GroupState → Bool) where
  pub spans_in-flagged : (groups : List GroupState) → spans_in (flagged closed groups) ≡ spans_in groups
  spans_in-flagged [] = refl
  spans_in-flagged (group ∷ groups) = ap (λ spans. spans_of group ++ spans) (spans_in-flagged groups)

  pub IsSoundShard-flagged : (shard : ShardState) → IsSoundShard shard → IsSoundShard (with_flags closed shard)
  IsSoundShard-flagged shard sound = record {
    ascending = λ low high a b less at_low at_high.
        let (was_a, here_a, is_a) = map_back (with_flag closed) shard.groups low a at_low in
        let (was_b, here_b, is_b) = map_back (with_flag closed) shard.groups high b at_high in
        subst (λ (g : GroupState). rank a.head.id < rank g.head.id) is_b
        (subst (λ (g : GroupState). rank g.head.id < rank was_b.head.id) is_a (sound.ascending low high was_a was_b less here_a here_b));
    groups = λ index group at.
        let (was, here, is) = map_back (with_flag closed) shard.groups index group at in
        let fine = sound.groups index was here in
        subst IsSoundGroup is (record {
          apart = fine.apart;
          legal = fine.legal;
          classes = fine.classes;
          page = fine.page;
        });
    once = λ id. subst (λ spans. count_by (λ (s : SpanState). same_span s.id id) spans ≤ 1) (sym (spans_in-flagged shard.groups)) (sound.once id);
    limit = let same = length-map shard.groups (with_flag closed) in omega (arith, same, sound.limit);
    serials = λ index place group span stands named_so.
        let (was, here, is) = map_back (with_flag closed) shard.groups index group stands.0 in
        sound.serials index place was span (here, subst (λ (g : GroupState). slice_get (spans_of g) place ≡ Some span) (sym is) stands.1) named_so;
    opened = sound.opened;
    span_limit = sound.span_limit;
    gens = sound.gens;
    none_left = λ ended. ap (flagged closed) (sound.none_left ended);
  }
