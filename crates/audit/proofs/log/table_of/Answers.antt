use Rattle.std.proofs.Common.{ℕ, ◌≡◌, ◌+◌, ◌<◌, List, false, get_or, length, subst}
use Rattle.span.specs.Ids.{same_span}
use Rattle.audit.specs.Tables.{HasTwice}
use Rattle.audit.specs.declared.log.LogPlace.{LogPlace}
use Rattle.audit.proofs.LogTable.{AreByRank-sorted, ArePlaces-moved, twice_refuted}
use Rattle.audit.proofs.log.table_of.Goals as goal

pub returns-then-has_twice : goal.returns-then-has_twice
returns-then-has_twice c =
    twice_refuted c.args.logs.now c.sort.new.places.items
    (ArePlaces-moved c.args.logs.now c.in_ok-by_rank.by_rank.items c.sort.new.places.items c.sort.ensures.permutation (c.in_ok-by_rank.ensures {u = tt}))
    (subst HasTwice c.as_slice.ensures.value (c.has_twice.ensures.yes c.if-has_twice.true))

pub returns : goal.returns
returns c = record {
  places_are = ArePlaces-moved c.args.logs.now c.in_ok-by_rank.by_rank.items c.sort.new.places.items c.sort.ensures.permutation (c.in_ok-by_rank.ensures {u = tt});
  sorted = AreByRank-sorted c.sort.new.places.items c.sort.ensures.sorted
      (subst (λ (places : List LogPlace). (k : ℕ) (d : LogPlace) → k + 1 < length places → same_span (get_or places k d).span (get_or places (k + 1) d).span ≡ false) c.as_slice.ensures.value
      (c.has_twice.ensures.no c.if-has_twice.false));
}
