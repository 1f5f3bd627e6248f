use Rattle.std.proofs.Common.{◌≡◌, ◌*◌, ◌+◌, ◌-◌, ◌%◌, ◌∙◌, ◌≤◌, ap, drop, length, min, subst, take}
use Rattle.bitmap.specs.declared.bits.TheConstants.{SLOTS}
use Rattle.lane_kernels.specs.Rows.{padded, width_of}
use Rattle.mesh_graph.specs.Rows.{AreSlotsOfRun}
use Rattle.mesh_graph.proofs.Runs.{chunk-is_run, padded-some, slots-joined_by}
use Rattle.mesh_graph.proofs.runner.fill_runs_of_slots.Goals as goal

pub par_chunks_mut_for_each-requires-clause-accepts : goal.par_chunks_mut_for_each-requires-clause-accepts
par_chunks_mut_for_each-requires-clause-accepts g c κs within = λ start p chunk.
    let W = padded (width_of (length c.args.planes.now)) in
    let same = c.slot_words.ensures in
    let some : 1 ≤ W = padded-some (length c.args.planes.now) c.requires.some in
    chunk-is_run W c.args.run SLOTS start (length p.now) some (subst (λ w. start % (w * c.args.run) ≡ 0) same chunk.start_is_multiple)
    (chunk.len ∙ ap (λ w. min (w * c.args.run) (length c.args.rows.now - start)) same ∙ ap (λ n. min (W * c.args.run) (n - start)) c.requires.rows)
    (subst (λ n. start + length p.now ≤ n) c.requires.rows chunk.in_bounds)

pub returns-clause-rows : goal.returns-clause-rows
returns-clause-rows g c =
    let W = padded (width_of (length c.args.planes.now)) in
    let call = c.par_chunks_mut_for_each in
    let size = c.slot_words.result * c.args.run in
    let some : 1 ≤ W = padded-some (length c.args.planes.now) c.requires.some in
    slots-joined_by c.args.planes.now c.args.run size c.args.rows.now call.new.s some c.requires.run
    (ap (λ w. w * c.args.run) c.slot_words.ensures) c.requires.rows (call.auto.s ∙ c.requires.rows)
    (λ n below.
    let at = call.ensures.chunks n below in
    subst (λ a. AreSlotsOfRun c.args.planes.now (n * size) (length a) (take size (drop (n * size) call.new.s))) at.argument_is
    (subst (λ l. AreSlotsOfRun c.args.planes.now (n * size) (length at.argument.now) l) at.left at.call.1))
