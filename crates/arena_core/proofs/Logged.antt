-- A sound core shows what the logs of all its spans say, whoever has them.
use Rattle.std.proofs.Common.{◌≡◌, ℕ, ◌≤◌, Bool, true, false, cond, List, refl, sym, ap, ◌∙◌, arith, Option, Some, None, count_by, find, sum_by}
use Rattle.span.specs.declared.key.Key.{Key}
use Rattle.span.specs.Log.{value_in, was_issued}
use Rattle.span.specs.PlainMap.{PlainMap}
use Rattle.span.specs.State.{SpanState}
use Rattle.groups.specs.Shown.{issued_by, span_named}
use Rattle.shard.specs.Shown.{shown as shown_by}
use Rattle.groups.specs.Group.{spans_in}
use Rattle.groups.proofs.ForgottenShown.{value_in-none_live}
use Rattle.groups.proofs.Logged.{logged_by, same_plain_map}
use Rattle.shard.proofs.ShownLogs.{shown-logged}
use Rattle.pool.specs.Shown.{shown as shown_by_pool}
use Rattle.pool.proofs.ShownLogs.{shown-logged as shown_by_pool-logged}
use Rattle.arena_core.specs.Rings.{pending_at}
use Rattle.arena_core.specs.Sound.{HasSoundGroups}
use Rattle.arena_core.specs.State.{CoreState, all_spans, issued_forgotten, shown}
use Rattle.arena_core.proofs.Changes.{at_most_once}
use Rattle.arena_core.proofs.Lists.{found_of, sum_by-none, sum_by-passing, sum_by-same}
use Rattle.arena_core.proofs.Owners.{bit, bit-injective, code, code-injective, issued-sum, value-sum}
use Rattle.arena_core.proofs.Spans.{is_named, sum_all, sum_all-parts, sum_in, sum_pooled, times-parts}

-- what the span's log says of the key, as a number, where it is the key's span
abbrev value_weight : Key → SpanState → ℕ
value_weight key span = cond (is_named key.span span) (code (value_in span.log key.slot key.generation)) 0

abbrev issued_weight : Key → SpanState → ℕ
issued_weight key span = cond (is_named key.span span) (bit (was_issued span.log key.slot key.generation)) 0

code-found : (key : Key) (o : Option SpanState) → found_of (λ (span : SpanState). code (value_in span.log key.slot key.generation)) o ≡ code (logged_by key o)
code-found key None = refl
code-found key (Some span) = refl

bit-found : (key : Key) (o : Option SpanState) → found_of (λ (span : SpanState). bit (was_issued span.log key.slot key.generation)) o ≡ bit (issued_by key o)
bit-found key None = refl
bit-found key (Some span) = refl

value-spans : (key : Key) (spans : List SpanState) → count_by (is_named key.span) spans ≤ 1 → sum_by (value_weight key) spans ≡ code (logged_by key (span_named spans key.span))
value-spans key spans once = sum_by-passing (is_named key.span) (λ (span : SpanState). code (value_in span.log key.slot key.generation)) spans once ∙ code-found key (find (is_named key.span) spans)

issued-spans : (key : Key) (spans : List SpanState) → count_by (is_named key.span) spans ≤ 1 → sum_by (issued_weight key) spans ≡ bit (issued_by key (span_named spans key.span))
issued-spans key spans once = sum_by-passing (is_named key.span) (λ (span : SpanState). bit (was_issued span.log key.slot key.generation)) spans once ∙ bit-found key (find (is_named key.span) spans)

module _ (core : CoreState) (sound : HasSoundGroups core) (key : Key) where
  value-shards : sum_by (λ shard. code ((shown_by shard).value_of key)) core.shards ≡ sum_by (sum_in (value_weight key)) core.shards
  value-shards = sum_by-same _ _ core.shards
      (λ number shard here. let fine = (sound.shards number shard here).sound in
      ap (λ (m : PlainMap). code (m.value_of key)) (shown-logged shard fine) ∙ sym (value-spans key (spans_in shard.groups) (fine.once key.span)))

  issued-shards : sum_by (λ shard. bit ((shown_by shard).is_issued key)) core.shards ≡ sum_by (sum_in (issued_weight key)) core.shards
  issued-shards = sum_by-same _ _ core.shards (λ number shard here. sym (issued-spans key (spans_in shard.groups) ((sound.shards number shard here).sound.once key.span)))

  value-pool : code ((shown_by_pool core.pool).value_of key) ≡ sum_pooled (value_weight key) core.pool
  value-pool = ap (λ (m : PlainMap). code (m.value_of key)) (shown_by_pool-logged core.pool sound.pool) ∙ sym (value-spans key (spans_in core.pool.groups) (sound.pool.once key.span))

  issued-pool : bit ((shown_by_pool core.pool).is_issued key) ≡ sum_pooled (issued_weight key) core.pool
  issued-pool = sym (issued-spans key (spans_in core.pool.groups) (sound.pool.once key.span))

  -- a forgotten span has no value
  value-forgotten : sum_by (value_weight key) core.forgotten ≡ 0
  value-forgotten = sum_by-none (value_weight key) core.forgotten
      (λ place span here. by_name span (value_in-none_live span key.slot key.generation (sound.forgotten place span here).none_live) (is_named key.span span))
    where
      by_name : (span : SpanState) → value_in span.log key.slot key.generation ≡ None → (b : Bool) → cond {A = ℕ} b (code (value_in span.log key.slot key.generation)) 0 ≡ 0
      by_name span none true = ap code none
      by_name span none false = refl

  issued-gone : bit (issued_forgotten core key) ≡ sum_by (issued_weight key) core.forgotten
  issued-gone = sym (issued-spans key core.forgotten (omega (arith, at_most_once core sound key.span, times-parts key.span core)))

  value-all : code ((shown core).value_of key) ≡ sum_all (value_weight key) core
  value-all = omega (arith, value-sum core key (at_most_once core sound key.span), sum_all-parts (value_weight key) core, value-shards, value-pool, value-forgotten)

  issued-all : bit ((shown core).is_issued key) ≡ sum_all (issued_weight key) core
  issued-all = omega (arith, issued-sum core key (at_most_once core sound key.span), sum_all-parts (issued_weight key) core, issued-shards, issued-pool, issued-gone)

  -- the object that is shown under a key is the value that the log of its span leaves
  pub value-logged : (shown core).value_of key ≡ logged_by key (span_named (all_spans core) key.span)
  value-logged = code-injective _ _ (value-all ∙ value-spans key (all_spans core) (at_most_once core sound key.span))

-- cores of the same spans show the same
pub shown-same : (old new : CoreState) → HasSoundGroups old → HasSoundGroups new → new.rings ≡ old.rings → ((w : SpanState → ℕ) → sum_all w new ≡ sum_all w old) → shown new ≡ shown old
shown-same old new sound sound_new rings same =
    same_plain_map _ _
    (λ key. bit-injective _ _ (issued-all new sound_new key ∙ same (issued_weight key) ∙ sym (issued-all old sound key)))
    (λ key. code-injective _ _ (value-all new sound_new key ∙ same (value_weight key) ∙ sym (value-all old sound key)))
    (λ worker shard. ap (λ r. pending_at r worker shard) rings)
