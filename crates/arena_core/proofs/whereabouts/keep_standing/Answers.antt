use Rattle.std.proofs.Common.{◌∙◌, rules, sym}
use Rattle.span.specs.Ids.{rank}
use Rattle.groups.proofs.Tables.{get-entries_of}
use Rattle.arena_core.proofs.Standing.{lookup-kept, stands-kept}
use Rattle.arena_core.proofs.whereabouts.keep_standing.Goals as goal

pub returns : goal.returns
returns g c = record {
  kept = λ id number found stands.
      get-entries_of c.retain.new.self (rank id)
      ∙ lookup-kept _ _ c.args.shards.now.items (λ key there b left f' called. search rules) id number _ _ c.retain.ensures.filtered
      (sym (get-entries_of c.args.entries.now (rank id)) ∙ found) stands;
  stands = λ id number found.
      stands-kept _ _ c.args.shards.now.items (λ key there b left f' called. search rules) id number _ _ c.retain.ensures.filtered
      (sym (get-entries_of c.retain.new.self (rank id)) ∙ found);
}
