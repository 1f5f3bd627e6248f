use Rattle.std.proofs.Common.{arith, length, refl}
use Rattle.std.proofs.lemmas.Option.{slice_get_read}
use Rattle.pool.proofs.NotedRanks.{AreNoted-all, AreNoted-more}
use Rattle.pool.proofs.group_table.note_all.Goals as goal

pub loop-group-preserved : goal.loop-group-preserved
loop-group-preserved g c =
    let here = slice_get_read c.args.groups.now (length c.args.groups.now) c.loop-group.group-index c.group-item.result refl c.loop-group-test.true c.group-item.is in
    record {
      noted = AreNoted-more c.args.groups.now c.loop-group.group-index c.group-item.result here c.loop-group.paged.ranks c.note.new.paged.ranks
          c.note.ensures.more c.note.ensures.noted c.loop-group.invariant.noted;
      few = omega (arith, c.note.ensures.few, c.loop-group.invariant.few);
      capacity = omega (arith, c.note.ensures.capacity, c.loop-group.invariant.capacity);
    }

pub returns-clause-noted : goal.returns-clause-noted
returns-clause-noted g c = AreNoted-all c.args.groups.now c.loop-group.group-index (let past = c.loop-group-test.false in omega arith) c.loop-group.paged.ranks c.loop-group.invariant.noted
