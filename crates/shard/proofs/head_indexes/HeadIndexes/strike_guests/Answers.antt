use Rattle.std.proofs.Common.{◌≡◌, ◌∙◌, Some, slice_get, ap, arith, refl, subst, sym}
use Rattle.std.specs.FinMap as map
use Rattle.std.proofs.lemmas.Option.{slice_get_read}
use Rattle.span.specs.Ids.{rank}
use Rattle.span.specs.declared.id.SpanId.{SpanId}
use Rattle.groups.proofs.Entries.{IsStriking-all, IsStriking-next}
use Rattle.groups.specs.Directory.{DirectoryState, Entries}
use Rattle.groups.specs.Group.{HasNoHead}
use Rattle.shard.specs.Heads.{KnowsNoHeads}
use Rattle.shard.proofs.KnownHeads.{KnowsHeads-written}
use Rattle.shard.proofs.NotedGuests.{KnowsNoHeads-remove, directory_of}
use Rattle.shard.proofs.head_indexes.HeadIndexes.strike_guests.Goals as goal

pub returns-clause-known : goal.returns-clause-known
returns-clause-known g c groups entries knows =
    let was = c.loop-place.invariant.known groups entries knows in
    subst (λ (es : Entries). KnowsNoHeads c.args.number groups es c.loop-place.self)
    (ap (λ (d : DirectoryState). d.entries)
    (IsStriking-all (directory_of entries) (directory_of was.0) c.args.guests.now c.loop-place.place was.2 (omega (arith, c.loop-place-test.false)) (omega (arith, c.loop-place-test.false))))
    was.1

pub returns-clause-heads : goal.returns-clause-heads
returns-clause-heads g c groups knows apart = c.loop-place.invariant.heads groups knows (λ place guest there. apart place guest there (omega arith))

pub loop-place-preserved : goal.loop-place-preserved
loop-place-preserved g c =
    let guest = c.index-guests-place.result in
    let here : slice_get c.args.guests.now c.loop-place.place ≡ Some guest = slice_get_read c.args.guests.now _ c.loop-place.place guest refl c.loop-place-test.true c.index-guests-place.is in
    record {
      base = c.note_away.ensures.base ∙ c.loop-place.invariant.base;
      end = c.note_away.ensures.end ∙ c.loop-place.invariant.end;
      heads = λ groups knows apart.
          KnowsHeads-written c.args.number groups c.loop-place.self c.note_away.new.self c.note_away.ensures.base c.id.result
          (subst (HasNoHead groups) (sym c.id.ensures) (apart c.loop-place.place guest here)) c.note_away.ensures.entries
          (c.loop-place.invariant.heads groups knows apart);
      known = λ groups entries knows.
          let was = c.loop-place.invariant.known groups entries knows in (
            map.remove was.0 (rank guest.id),
            subst (λ (i : SpanId). KnowsNoHeads c.args.number groups (map.remove was.0 (rank i)) c.note_away.new.self) c.id.ensures
                (KnowsNoHeads-remove c.args.number groups was.0 c.loop-place.self was.1 c.note_away.new.self c.note_away.ensures.base c.id.result c.note_away.ensures.others
                c.note_away.ensures.this),
            IsStriking-next (directory_of entries) (directory_of was.0) c.args.guests.now c.loop-place.place was.2 guest here,
          );
    }
