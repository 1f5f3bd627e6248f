use Rattle.std.proofs.Common.{map, sym, subst, refl, rules, arith}
use Rattle.std.proofs.lemmas.List.Elements.{All-push}
use Rattle.remote_queue.specs.Rings.{AreLong, AreFreshInboxes}
use Rattle.remote_queue.proofs.Tables.{long_more, mapped_more}
use Rattle.remote_queue.proofs.rings.columns.Goals as goal

pub loop-init : goal.loop-init
loop-init c = record {
  len = search rules;
  room = search rules;
  long = rw c.in_ok-columns.ensures.items tt;
  untaken = rw c.in_ok-columns.ensures.items (λ k d h. absurd (omega arith));
}

pub loop-preserved : goal.loop-preserved
loop-preserved c =
    let more = mapped_more (λ v. map (λ i. i.ring) v.items) _ _ _ c.push_reserved.ensures.items in
    let none = c.new.ensures.items in
    record {
      len = search rules;
      room = search rules;
      long = subst (AreLong 0) (sym more) (long_more 0 _ _ c.loop.invariant.long (rw none refl));
      untaken = rw c.push_reserved.ensures.items (All-push (λ v. AreFreshInboxes v.items) c.loop.columns.items _ c.loop.invariant.untaken (rw none (λ k d h. absurd (omega arith))));
    }
