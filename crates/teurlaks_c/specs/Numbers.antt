-- The numbers of a core or an arena.
use Rattle.std.specs.Prelude.{ℕ}
use Rattle.marks.specs.Numbers.{Limits, limits_of, with_slot_limit, with_span_limit}

-- the numbers, in the order in which C gives them
abbrev pub limits_given : ℕ → ℕ → ℕ → ℕ → ℕ → Limits
limits_given shards page_limit span_limit ring_capacity gens =
    with_span_limit (limits_of shards page_limit ring_capacity gens) span_limit

-- the same, with the number of slots that a put may take
abbrev pub limits_with : ℕ → ℕ → ℕ → ℕ → ℕ → ℕ → Limits
limits_with shards page_limit span_limit slot_limit ring_capacity gens =
    with_slot_limit (limits_given shards page_limit span_limit ring_capacity gens) slot_limit
