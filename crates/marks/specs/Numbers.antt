-- The numbers of the product.
use Rattle.std.specs.Prelude.{ℕ, ◌-◌, ◌^◌, ◌≤◌}
use Rattle.bitmap.specs.declared.bits.TheConstants.{SLOTS}
use Rattle.span.specs.declared.limits.TheConstants.{MOST_PAGES, MOST_RING_KEYS, MOST_SHARDS, MOST_SPANS}

-- the numbers of the product: how many shards, how many pages a shard may have, how many spans it
-- may open in its life, how many slots of a page a put may take, how many entries a ring holds, and
-- the greatest generation
pub record Limits : Type 0 where
  pub shards : ℕ
  pub page_limit : ℕ
  pub span_limit : ℕ
  pub slot_limit : ℕ
  pub ring_capacity : ℕ
  pub gens : ℕ

-- the numbers of the product, in the order in which a caller gives them: a shard may open as many
-- spans as there are serials, and a put may take all slots of a page
abbrev pub limits_of : ℕ → ℕ → ℕ → ℕ → Limits
limits_of shards page_limit ring_capacity gens = record {
  shards = shards;
  page_limit = page_limit;
  span_limit = MOST_SPANS;
  slot_limit = SLOTS;
  ring_capacity = ring_capacity;
  gens = gens;
}

-- the same numbers, with another number of spans that a shard may open
abbrev pub with_span_limit : Limits → ℕ → Limits
with_span_limit limits span_limit = record limits { span_limit = span_limit }

-- the same numbers, with another number of slots that a put may take
abbrev pub with_slot_limit : Limits → ℕ → Limits
with_slot_limit limits slot_limit = record limits { slot_limit = slot_limit }

-- each number of the product is within its range
pub record AreWithin (limits : Limits) : Type 0 where
  pub shards : (1 ≤ limits.shards) × (limits.shards ≤ MOST_SHARDS)
  pub page_limit : (1 ≤ limits.page_limit) × (limits.page_limit ≤ MOST_PAGES)
  pub span_limit : (1 ≤ limits.span_limit) × (limits.span_limit ≤ MOST_SPANS)
  pub slot_limit : (1 ≤ limits.slot_limit) × (limits.slot_limit ≤ SLOTS)
  pub ring_capacity : (1 ≤ limits.ring_capacity) × (limits.ring_capacity ≤ MOST_RING_KEYS)
  pub gens : (1 ≤ limits.gens) × (limits.gens ≤ 2 ^ 32 - 1)
