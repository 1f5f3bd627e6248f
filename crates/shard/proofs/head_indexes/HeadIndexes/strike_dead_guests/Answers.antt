use Rattle.std.proofs.Common.{◌≡◌, ◌∙◌, Some, slice_get, ap, arith, refl, subst}
use Rattle.std.proofs.lemmas.Option.{slice_get_read}
use Rattle.groups.proofs.Entries.{IsStrikingDead-all}
use Rattle.groups.specs.Directory.{DirectoryState, Entries}
use Rattle.shard.specs.Heads.{KnowsNoHeads}
use Rattle.shard.proofs.NotedGuests.{directory_of, struck_if_dead}
use Rattle.shard.proofs.head_indexes.HeadIndexes.strike_dead_guests.Goals as goal

pub returns-clause-known : goal.returns-clause-known
returns-clause-known g c groups entries knows =
    let was = c.loop-place.invariant.known groups entries knows in
    subst (λ (es : Entries). KnowsNoHeads c.args.number groups es c.loop-place.self)
    (ap (λ (d : DirectoryState). d.entries)
    (IsStrikingDead-all (directory_of entries) (directory_of was.0) c.args.guests.now c.loop-place.place was.2 (omega (arith, c.loop-place-test.false)) (omega (arith, c.loop-place-test.false))))
    was.1

pub returns-clause-heads : goal.returns-clause-heads
returns-clause-heads g c groups knows apart = c.loop-place.invariant.heads groups knows (λ place guest there. apart place guest there (omega arith))

pub loop-place-preserved : goal.loop-place-preserved
loop-place-preserved g c =
    let guest = c.index-guests-place.result in
    let here : slice_get c.args.guests.now c.loop-place.place ≡ Some guest = slice_get_read c.args.guests.now _ c.loop-place.place guest refl c.loop-place-test.true c.index-guests-place.is in
    record {
      base = c.strike_if_dead.ensures.base ∙ c.loop-place.invariant.base;
      end = c.strike_if_dead.ensures.end ∙ c.loop-place.invariant.end;
      heads = λ groups knows apart.
          c.strike_if_dead.ensures.heads groups (c.loop-place.invariant.heads groups knows apart) (apart c.loop-place.place guest here);
      known = λ groups entries knows.
          let was = c.loop-place.invariant.known groups entries knows in
          struck_if_dead c.args.number groups entries was.0 c.loop-place.self c.strike_if_dead.new.self c.args.guests.now c.loop-place.place guest here was.1 was.2
          c.strike_if_dead.ensures.dead c.strike_if_dead.ensures.live;
    }
