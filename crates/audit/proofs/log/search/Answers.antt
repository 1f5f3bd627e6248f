use Rattle.std.proofs.Common.{of_calls, rules}
use Rattle.std.proofs.lemmas.Fn.{always_returns_same}
use Rattle.span.specs.Ids.{rank}
use Rattle.audit.specs.declared.log.LogPlace.{LogPlace}
use Rattle.audit.proofs.LogSearch.{IsSearchedFor, found-searched, none-searched}
use Rattle.audit.proofs.log.search.Goals as goal

searched : (c : goal.After-ok) → IsSearchedFor c.args.places.now c.rank.result c.binary_search_by_key.result
searched c = c.binary_search_by_key.ensures.position (λ (place : LogPlace). rank place.span) (always_returns_same _ _ _ (λ a r f k. search (rules, of_calls)))

pub returns-clause-found : goal.returns-clause-found
returns-clause-found c = rw c.ok.ensures.value (found-searched c.args.places.now c.args.span c.rank.result c.rank.ensures.value c.binary_search_by_key.result (searched c))

pub returns-clause-none : goal.returns-clause-none
returns-clause-none c = rw c.ok.ensures.value (none-searched c.args.places.now c.args.span c.rank.result c.rank.ensures.value c.requires c.binary_search_by_key.result (searched c))
