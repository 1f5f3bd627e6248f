use Rattle.std.proofs.Common.{◌/◌, ◌∙◌, arith, sym}
use Rattle.std.proofs.lemmas.Bool.{true≢false}
use Rattle.span.proofs.Widths.{slots_in-most}
use Rattle.groups.proofs.Unions.{union-empty, AreDisjoint-empty}
use Rattle.groups.proofs.spans.Spans.of.Goals as goal

pub invariant_of-result : goal.invariant_of-result
invariant_of-result g c = record {
  occupied_is = rw c.new.ensures.items (c.live-occupied.ensures ∙ sym (union-empty _));
  apart = rw c.new.ensures.items (AreDisjoint-empty _, tt);
}
