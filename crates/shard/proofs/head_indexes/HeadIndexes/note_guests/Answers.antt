use Rattle.std.proofs.Common.{◌≡◌, ◌+◌, ◌<◌, ◌∙◌, Some, slice_get, ap, arith, refl, subst, sym}
use Rattle.std.specs.FinMap as map
use Rattle.std.proofs.lemmas.Option.{slice_get_read}
use Rattle.groups.specs.Directory.{Entries}
use Rattle.groups.specs.Group.{HasNoHead}
use Rattle.groups.specs.declared.directory.Place.{Place}
use Rattle.span.specs.Ids.{rank}
use Rattle.span.specs.declared.id.SpanId.{SpanId}
use Rattle.shard.specs.HeadWindow.{end_of}
use Rattle.shard.specs.Heads.{IsNoted, KnowsNoHeads}
use Rattle.shard.proofs.KnownHeads.{KnowsHeads-written}
use Rattle.shard.proofs.NotedGuests.{KnowsNoHeads-insert, entered-all, entered-next}
use Rattle.shard.proofs.head_indexes.HeadIndexes.note_guests.Goals as goal

pub returns-clause-known : goal.returns-clause-known
returns-clause-known g c groups entries knows =
    let was = c.loop-place.invariant.known groups entries knows in
    subst (λ (es : Entries). KnowsNoHeads c.args.number groups es c.loop-place.self)
    (sym (entered-all was.0 c.args.guests.now c.args.head c.loop-place.place (omega (arith, c.loop-place-test.false))) ∙ was.2) was.1

pub loop-place-preserved : goal.loop-place-preserved
loop-place-preserved g c =
    let guest = c.index-guests-place.result in
    let here : slice_get c.args.guests.now c.loop-place.place ≡ Some guest = slice_get_read c.args.guests.now _ c.loop-place.place guest refl c.loop-place-test.true c.index-guests-place.is in
    let id : c.id.result ≡ guest.id = c.id.ensures in
    record {
      base = c.write.ensures.base ∙ c.loop-place.invariant.base;
      end = c.write.ensures.end ∙ c.loop-place.invariant.end;
      least = omega (arith, c.loop-place.invariant.least);
      heads = λ groups knows apart.
          KnowsHeads-written c.args.number groups c.loop-place.self c.write.new.self c.write.ensures.base c.id.result
          (subst (HasNoHead groups) (sym id) (apart c.loop-place.place guest here c.loop-place.invariant.least)) c.write.ensures.entries
          (c.loop-place.invariant.heads groups knows apart);
      known = λ groups entries knows.
          let was = c.loop-place.invariant.known groups entries knows in
          let at : Place = record { head = c.args.head; place = c.loop-place.place + 1 } in
          let fits : IsNoted c.args.number c.loop-place.self.base c.id.result → c.id.result.serial < end_of c.loop-place.self = λ own.
          let serial = ap (λ (i : SpanId). i.serial) id in
          let low = own.1 in
          let below = c.requires.room c.loop-place.place guest here c.loop-place.invariant.least
          (ap (λ (i : SpanId). i.shard) (sym id) ∙ own.0, omega (arith, low, serial, c.loop-place.invariant.base)) in
          omega (arith, below, serial, c.loop-place.invariant.end) in (
            map.insert was.0 (rank guest.id) at,
            subst (λ (i : SpanId). KnowsNoHeads c.args.number groups (map.insert was.0 (rank i) at) c.write.new.self) id
                (KnowsNoHeads-insert c.args.number groups was.0 c.loop-place.self was.1 c.write.new.self c.write.ensures.base c.id.result c.write.ensures.others at
                (λ own. c.write.ensures.this own (fits own) ∙ c.note_at-note.ensures)),
            entered-next was.0 c.args.guests.now c.args.head c.loop-place.place guest here ∙ was.2,
          );
    }
