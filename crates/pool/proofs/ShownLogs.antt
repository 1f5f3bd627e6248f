-- A sound pool shows the map that its logs leave: what its calls do to the plain map.
use Rattle.std.proofs.Common.{◌≡◌, ℕ, cond, None, is_some, slice_get, ◌∙◌, ap, sym, rules}
use Rattle.span.proofs.Values.{is_some-value_in}
use Rattle.span.specs.Log.{Value, value_in}
use Rattle.span.specs.PlainMap.{may_set, with_value, without}
use Rattle.span.specs.State.{SpanState}
use Rattle.span.specs.declared.key.Key.{Key}
use Rattle.page.specs.Words.{object_in}
use Rattle.shard.specs.Calls.{value_found, was_freed, was_replaced}
use Rattle.shard.specs.declared.shard.Found.{Found}
use Rattle.shard.specs.declared.shard.Found.TheVariants.{Gone, NotHere}
use Rattle.shard.specs.declared.shard.Found.TheVariants as found
use Rattle.shard.specs.declared.shard.Freed.{Freed}
use Rattle.shard.specs.declared.shard.Freed.TheVariants as freed
use Rattle.shard.specs.declared.shard.replacing.Replaced.{Replaced}
use Rattle.shard.specs.declared.shard.replacing.Replaced.TheVariants as replaced
use Rattle.groups.specs.Group.{IsElsewhere, IsHere, spans_in}
use Rattle.groups.specs.Pages.{set_group, words_of}
use Rattle.groups.specs.Shown.{shown_by}
use Rattle.groups.specs.Spans.{with_free, with_set}
use Rattle.groups.proofs.Lists.{get-set}
use Rattle.groups.proofs.Logged.{logged, nothing_pending}
use Rattle.groups.proofs.Logs.{is_some-value_in-gone, value_in-gone, value_in-held}
use Rattle.groups.proofs.SetGroups.{IsSoundGroup-set}
use Rattle.groups.proofs.ShownChanges.{may_set-not, may_set-settable, shown_by-free, shown_by-set}
use Rattle.groups.proofs.ShownGroups.{shown_by-logged, value_of-elsewhere, value_of-here}
use Rattle.groups.proofs.Standing.{spans_of-with_span}
use Rattle.groups.proofs.StoredObjects.{stored_in}
use Rattle.pool.specs.Calls.{Frees, Gets, Sets}
use Rattle.pool.specs.Shown.{shown}
use Rattle.pool.specs.Sound.{IsSound}
use Rattle.pool.specs.State.{PoolState, PooledState}
use Rattle.pool.proofs.Freed.{IsSound-Frees, groups-Leaves}
use Rattle.pool.proofs.ReplacedGroup.{IsSound-set}

module _ (pool : PoolState) (sound : IsSound pool) where
  -- the objects on the pages are what the logs say
  pub shown-logged : shown pool ≡ logged (spans_in pool.groups) nothing_pending
  shown-logged = shown_by-logged pool.groups sound.groups sound.once

  pub value-here : (key : Key) (index place : ℕ) (group : PooledState) (span : SpanState) → IsHere pool.groups key.span index place group span
      → (shown pool).value_of key ≡ value_in span.log key.slot key.generation
  value-here = value_of-here pool.groups sound.groups sound.once

  pub value-elsewhere : (key : Key) → IsElsewhere pool.groups key.span → (shown pool).value_of key ≡ None
  value-elsewhere = value_of-elsewhere pool.groups sound.groups sound.once

  -- a look-up answers as the plain map
  pub value_found-Gets : (key : Key) (answer : Found) → Gets pool key answer → value_found answer ≡ (shown pool).value_of key
  value_found-Gets key (found.Value value at) (index, place, words, group, span, here, paged, holds, object, before) =
      sym (value-here key index place group span here
      ∙ value_in-held span.log key.slot key.generation value.now holds (λ held is.
      object ∙ ap (λ page. object_in (words_of page) span.class key.slot) (sym paged) ∙ stored_in group (sound.groups index group here.group_is) place span here.span_is key.slot held is))
  value_found-Gets key (Gone at) (index, place, group, span, here, gone, before) = sym (value-here key index place group span here ∙ value_in-gone span.log key.slot key.generation gone)
  value_found-Gets key NotHere elsewhere = sym (value-elsewhere key elsewhere)

-- a free is done exactly where the key holds a value
pub was_freed-Frees : (old new : PoolState) (key : Key) (answer : Freed) → IsSound old → Frees old key answer new → was_freed answer ≡ is_some ((shown old).value_of key)
was_freed-Frees old new key (freed.Yes at) sound (index, place, group, span, here, holds, before, leaves) =
    sym (ap is_some (value-here old sound key index place group span here) ∙ is_some-value_in span.log key.slot key.generation holds)
was_freed-Frees old new key (freed.No at) sound (index, place, group, span, here, gone, before, new_is) =
    sym (ap is_some (value-here old sound key index place group span here) ∙ is_some-value_in-gone span.log key.slot key.generation gone)
was_freed-Frees old new key freed.NotHere sound (elsewhere, new_is) =
    sym (ap is_some (value-elsewhere old sound key elsewhere))

-- a free of the key is a free of the plain map
pub shown-Frees : (old new : PoolState) (key : Key) (answer : Freed) → IsSound old → Frees old key answer new → shown new ≡ cond (was_freed answer) (without (shown old) key) (shown old)
shown-Frees old new key (freed.Yes at) sound (index, place, group, span, here, holds, before, leaves) =
    let after : IsSound new = IsSound-Frees old new key (freed.Yes at) sound (index, place, group, span, here, holds, before, leaves) in
    let now = groups-Leaves old new index place group (with_free span key) leaves in
    ap shown_by now.1
    ∙ shown_by-free old.groups sound.groups sound.once key index place group span here now.0
    (after.groups index now.0 (ap (λ gs. slice_get gs index) now.1 ∙ get-set old.groups index group now.0 here.group_is)) now.2 holds
shown-Frees old new key (freed.No at) sound (index, place, group, span, here, gone, before, new_is) = ap shown new_is
shown-Frees old new key freed.NotHere sound (elsewhere, new_is) = ap shown new_is

-- a set

pub IsSound-Sets : (old new : PoolState) (key : Key) (value : Value) (answer : Replaced) → IsSound old → Sets old key value answer new → IsSound new
IsSound-Sets old new key value answer sound sets = search (rules, IsSound-set)

-- a set is done exactly where the plain map may be set
pub was_replaced-Sets : (old new : PoolState) (key : Key) (value : Value) (answer : Replaced) → IsSound old → Sets old key value answer new → was_replaced answer ≡ may_set (shown old) key value
was_replaced-Sets old new key value answer sound sets = search (rules, may_set-settable, may_set-not, value-elsewhere)

-- a set of the key is a set of the plain map
pub shown-Sets : (old new : PoolState) (key : Key) (value : Value) (answer : Replaced) → IsSound old → Sets old key value answer new
    → shown new ≡ cond (was_replaced answer) (with_value (shown old) key value) (shown old)
shown-Sets old new key value (replaced.Yes at) sound (index, place, group, span, here, settable, before, new_is) =
    ap shown new_is
    ∙ shown_by-set old.groups sound.groups sound.once key index place group span here (set_group group place span key.slot key.generation value)
    (IsSoundGroup-set group (sound.groups index group here.group_is) place span here.span_is key.slot key.generation value settable)
    value
    (spans_of-with_span group place (with_set span key value))
    settable.0
shown-Sets old new key value (replaced.No at) sound (index, place, group, span, here, not, before, new_is) = ap shown new_is
shown-Sets old new key value replaced.NotHere sound (elsewhere, new_is) = ap shown new_is
