-- What the fields of limits show. No public clause cites this module.
use Rattle.marks.specs.Numbers.{Limits}
use Rattle.marks.specs.declared.limits.Limits.TheInside.{Inside}

-- the numbers that the fields are
abbrev pub numbers_in : Inside → Limits
numbers_in limits = record {
  shards = limits.shards;
  page_limit = limits.page_limit;
  span_limit = limits.span_limit;
  slot_limit = limits.slot_limit;
  ring_capacity = limits.ring_capacity;
  gens = limits.gens;
}
