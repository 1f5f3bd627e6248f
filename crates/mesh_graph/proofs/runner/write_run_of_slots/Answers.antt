use Rattle.std.proofs.Common.{◌/◌, length, subst}
use Rattle.bitmap.specs.declared.bits.TheConstants.{SLOTS}
use Rattle.lane_kernels.specs.Rows.{HaveSlots, padded, width_of}
use Rattle.mesh_graph.proofs.Runs.{run-count, run-first, run-wide, run-within}
use Rattle.mesh_graph.proofs.runner.write_run_of_slots.Goals as goal

pub fill_slots-requires-clause-slots : goal.fill_slots-requires-clause-slots
fill_slots-requires-clause-slots c =
    run-within (padded (width_of (length c.args.planes.now))) c.slot_words-words.result SLOTS c.args.start (length c.args.part.now) c.requires c.slot_words-words.ensures

pub fill_slots-requires-clause-rows : goal.fill_slots-requires-clause-rows
fill_slots-requires-clause-rows c =
    run-wide (padded (width_of (length c.args.planes.now))) c.slot_words-words.result SLOTS c.args.start (length c.args.part.now) c.requires c.slot_words-words.ensures

pub returns-clause-rows : goal.returns-clause-rows
returns-clause-rows c first count at long =
    let sets = c.args.planes.now in
    let W = padded (width_of (length sets)) in
    let words = c.fill_slots.new.rows in
    subst (λ n. HaveSlots sets n count words) (run-first W c.slot_words-words.result SLOTS c.args.start (length c.args.part.now) c.requires c.slot_words-words.ensures first at)
    (subst (λ n. HaveSlots sets (c.args.start / c.slot_words-words.result) n words)
    (run-count W c.slot_words-words.result SLOTS c.args.start (length c.args.part.now) c.requires c.slot_words-words.ensures count long) c.fill_slots.ensures.rows)
