-- When ids are one.
use Rattle.std.proofs.Common.{◌≡◌, true, eqb-true, rules}
use Rattle.std.proofs.lemmas.Bool.{and_parts}
use Rattle.span.proofs.Ids.{same_id}
use Rattle.span.specs.Ids.{rank, same_span}
use Rattle.span.specs.declared.id.SpanId.{SpanId}

-- ids of one rank are one
pub same_rank : (a b : SpanId) → rank a ≡ rank b → (a.shard ≡ b.shard) × (a.serial ≡ b.serial)
same_rank a b same = search rules

pub id_from_rank : (a b : SpanId) → rank a ≡ rank b → a ≡ b
id_from_rank a b same = let parts = same_rank a b same in same_id a b parts.0 parts.1

-- a test by id does not tell ids apart whose parts are equal
pub same_span-right : (a b c : SpanId) → same_span b c ≡ true → same_span a c ≡ same_span a b
same_span-right a b c same = search (rules, and_parts, eqb-true)
