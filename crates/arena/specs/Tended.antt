-- Keys that are taken from rings while others work, and freed.
use Rattle.std.specs.Prelude.{◌≡◌, ℕ, ◌<◌, ◌≤◌, ◌++◌, All, List, [], length, map, min, slice_index_or}
use mathlib.Core.List.{IsPrefix}
use Rattle.span.specs.declared.key.Key.{Key}
use Rattle.span.specs.declared.receipt.Receipt.{Receipt}
use Rattle.remote_queue.specs.Rings.{Taking}
use Rattle.arena.specs.Delays.{HandsOver}
use Rattle.arena.specs.Receipts.{AddsFrees, joined}
use Rattle.arena.specs.Seats.{SeatState, taken_lists}
use Rattle.arena.specs.Settled.{taking_side}

-- how many keys an end knows to be on its ring, at most that many
abbrev pub known_count : ℕ → Taking → ℕ
known_count most inbox = min (length inbox.known) most

-- the same ends, with the same keys taken; each may have seen more keys on its ring, and knows
-- these
pub record AreLookedAt (before after : List Taking) : Type 0 where
  pub same : taking_side after ≡ taking_side before
  pub seen : (from : ℕ) (d e : Taking) → from < length before
      → IsPrefix (slice_index_or before from d).known (slice_index_or after from e).known

-- that many keys were taken from a ring, and each was freed
pub record IsRingTended (worker section count : ℕ) (before after : Taking)
    (receipts_before receipts_after : List Receipt) : Type 0 where
  pub keys : List Key
  pub count_is : count ≡ length keys
  pub ring_is : after.ring ≡ before.ring
  pub taken : after.taken ≡ before.taken ++ keys
  pub freed : AddsFrees worker section keys receipts_before receipts_after

-- keys were taken from the first of some rings, ring after ring, at most that many from each, and
-- each was freed: `total` in all
pub record AreRingsTended (most worker section rings : ℕ) (before after : List Taking)
    (receipts_before receipts_after : List Receipt) (total : ℕ) : Type 0 where
  pub keys : List (List Key)
  pub each_ring : length keys ≡ rings
  pub rings_are : map (λ inbox. inbox.ring) after ≡ map (λ inbox. inbox.ring) before
  pub taken : (from : ℕ) → slice_index_or (taken_lists after) from []
      ≡ slice_index_or (taken_lists before) from [] ++ slice_index_or keys from []
  pub few : All (λ taken. length taken ≤ most) keys
  pub freed : AddsFrees worker section (joined keys) receipts_before receipts_after
  pub total_is : total ≡ length (joined keys)

-- a seat took keys from its rings, ring after ring, at most that many from each, and freed each:
-- `total` in all
abbrev pub IsTended : ℕ → SeatState → SeatState → List Receipt → List Receipt → ℕ → Type 0
IsTended most before after = AreRingsTended most before.worker before.section
    (length before.inboxes) before.inboxes after.inboxes

-- a seat takes no key: it hands over those that waited, and may know more of those on its rings;
-- the receipts stay
abbrev pub TendsNone : SeatState → SeatState → List Receipt → List Receipt → Type 0
TendsNone old new before after = HandsOver old (record new { inboxes = old.inboxes })
    × AreLookedAt old.inboxes new.inboxes × (after ≡ before)
