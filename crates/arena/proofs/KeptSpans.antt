-- A free opens no span and closes none.
use Rattle.std.proofs.Common.{zero, suc, ◌≡◌, ℕ, ◌<◌, List, [], ◌∷◌, ◌++◌, Some, length, map, get_or, set, slice_get, ap, sym, ◌∙◌, refl, arith, append_assoc, length-append, length-set}
use Rattle.std.proofs.lemmas.List.Sums.{sum_by-set}
use Rattle.std.specs.List.{flat_map}
use Rattle.std.proofs.lemmas.List.Concat.{flat_map-cons}
use Rattle.span.specs.SpanLogs.{AreLegal, span_of_log}
use Rattle.span.specs.State.{SpanState}
use Rattle.span.specs.declared.span_log.SpanLog.{SpanLog}
use Rattle.span.specs.declared.key.Key.{Key}
use Rattle.shard.specs.Calls.{Frees}
use Rattle.groups.specs.Group.{spans_of, with_span}
use Rattle.groups.specs.Spans.{with_free}
use Rattle.shard.specs.State.{ShardState}
use Rattle.shard.specs.declared.shard.Freed.{Freed}
use Rattle.shard.specs.declared.shard.Freed.TheVariants as freed
use Rattle.groups.proofs.Lists.{same_some}
use Rattle.groups.proofs.Standing.{spans_of-with_span}
use Rattle.pool.specs.Calls.{Frees as FreesPooled}
use Rattle.pool.specs.Sound.{IsSound}
use Rattle.pool.specs.State.{PoolState}
use Rattle.pool.proofs.Freed.{groups-Leaves}
use Rattle.arena.specs.SpanCounts.{pooled_spans, shard_spans, spans_of_all}

-- another group with as many spans in the place of one
length-flat_map-set : {G S : Type 0} (f : G → List S) (gs : List G) (i : ℕ) (g after : G) → slice_get gs i ≡ Some g → length (f after) ≡ length (f g)
    → length (flat_map f (set gs i after)) ≡ length (flat_map f gs)
length-flat_map-set f [] i g after here same = refl
length-flat_map-set f (x ∷ xs) zero g after here same =
    let this : length (f x) ≡ length (f g) = ap (λ g. length (f g)) (same_some here) in
    omega (arith, length-append (f after) (flat_map f xs), length-append (f x) (flat_map f xs))
length-flat_map-set f (x ∷ xs) (suc i) g after here same =
    let rest = length-flat_map-set f xs i g after here same in
    omega (arith, length-append (f x) (flat_map f (set xs i after)), length-append (f x) (flat_map f xs))

pub shard_spans-Frees : (old new : ShardState) (key : Key) (answer : Freed) → Frees old key answer new → shard_spans new ≡ shard_spans old
shard_spans-Frees old new key (freed.Yes at) (index, place, group, span, here, holds, at_is, new_is) =
    ap shard_spans new_is
    ∙ length-flat_map-set spans_of old.groups index group (with_span group place (with_free span key)) here.group_is
    (ap length (spans_of-with_span group place (with_free span key)) ∙ length-set (spans_of group) place (with_free span key))
shard_spans-Frees old new key (freed.No at) (index, place, group, span, here, gone, at_is, new_is) = ap shard_spans new_is
shard_spans-Frees old new key freed.NotHere (elsewhere, new_is) = ap shard_spans new_is

pub pooled_spans-Frees : (old new : PoolState) (key : Key) (answer : Freed) → IsSound old → FreesPooled old key answer new → pooled_spans new ≡ pooled_spans old
pooled_spans-Frees old new key (freed.Yes at) sound (index, place, group, span, here, holds, at_is, leaves) =
    let now = groups-Leaves old new index place group (with_free span key) leaves in
    ap (λ gs. length (flat_map spans_of gs)) now.1
    ∙ length-flat_map-set spans_of old.groups index group now.0 here.group_is (ap length now.2 ∙ length-set (spans_of group) place (with_free span key))
pooled_spans-Frees old new key (freed.No at) sound (index, place, group, span, here, gone, at_is, new_is) = ap pooled_spans new_is
pooled_spans-Frees old new key freed.NotHere sound (elsewhere, new_is) = ap pooled_spans new_is

-- one of the shards frees a key
pub spans_of_all-Frees : (shards : List ShardState) (i : ℕ) (d new : ShardState) (key : Key) (answer : Freed) → i < length shards
    → Frees (get_or shards i d) key answer new → spans_of_all (set shards i new) ≡ spans_of_all shards
spans_of_all-Frees shards i d new key answer below frees = omega (arith, sum_by-set shard_spans shards i new d below, shard_spans-Frees (get_or shards i d) new key answer frees)

-- the logs of one shard more
pub logs_more : (logs after whole : List SpanState) (f : ShardState → List SpanState) (shard : ShardState) (more items : List ShardState)
    → after ≡ logs ++ f shard → items ≡ shard ∷ more → logs ++ flat_map f items ≡ whole
    → after ++ flat_map f more ≡ whole
logs_more logs after whole f shard more items goes is was =
    ap (λ l. l ++ flat_map f more) goes ∙ append_assoc logs (f shard) (flat_map f more) ∙ ap (λ l. logs ++ l) (sym (flat_map-cons f shard more) ∙ ap (flat_map f) (sym is)) ∙ was

-- a list with no log has none of a span
pub logs_none : (logs : List SpanLog) → length logs ≡ 0 → map span_of_log logs ≡ []
logs_none [] none = refl
logs_none (x ∷ xs) none = absurd (omega arith)

-- an empty list of logs is legal
pub AreLegal-none : (logs : List SpanLog) → length logs ≡ 0 → AreLegal logs
AreLegal-none [] none = λ index log is. absurd cc
AreLegal-none (x ∷ xs) none = absurd (omega arith)
