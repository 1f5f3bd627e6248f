use Rattle.std.proofs.Common.{◌≡◌, ◌*◌, ◌+◌, ◌-◌, ◌%◌, ◌∙◌, ◌≤◌, ap, arith, drop, length, min, subst, take}
use Rattle.lane_kernels.specs.Rows.{width_of}
use Rattle.mesh_graph.specs.Rows.{AreRowsOfRun}
use Rattle.mesh_graph.proofs.Runs.{chunk-is_run, rows-joined_by}
use Rattle.mesh_graph.proofs.runner.fill_runs.Goals as goal

pub par_chunks_mut_for_each-requires-clause-accepts : goal.par_chunks_mut_for_each-requires-clause-accepts
par_chunks_mut_for_each-requires-clause-accepts g c κs within = λ start p chunk.
    let W = width_of (length c.args.sets.now) in
    let same = c.row_words.ensures in
    let some : 1 ≤ W = let sets = c.requires.some in omega (arith, sets) in (
      chunk-is_run W c.args.run (length c.args.abandoned.now) start (length p.now) some (subst (λ w. start % (w * c.args.run) ≡ 0) same chunk.start_is_multiple)
          (chunk.len ∙ ap (λ w. min (w * c.args.run) (length c.args.rows.now - start)) same ∙ ap (λ n. min (W * c.args.run) (n - start)) c.requires.rows)
          (subst (λ n. start + length p.now ≤ n) c.requires.rows chunk.in_bounds),
      c.requires.masks,
    )

pub returns-clause-rows : goal.returns-clause-rows
returns-clause-rows g c =
    let W = width_of (length c.args.sets.now) in
    let call = c.par_chunks_mut_for_each in
    let size = c.row_words.result * c.args.run in
    let some : 1 ≤ W = let sets = c.requires.some in omega (arith, sets) in
    rows-joined_by c.args.abandoned.now c.args.sets.now c.args.masks.now c.args.run size c.args.rows.now call.new.s some c.requires.run
    (ap (λ w. w * c.args.run) c.row_words.ensures) c.requires.rows (call.auto.s ∙ c.requires.rows)
    (λ n below.
    let at = call.ensures.chunks n below in
    subst (λ a. AreRowsOfRun c.args.abandoned.now c.args.sets.now c.args.masks.now (n * size) (length a) (take size (drop (n * size) call.new.s))) at.argument_is
    (subst (λ l. AreRowsOfRun c.args.abandoned.now c.args.sets.now c.args.masks.now (n * size) (length at.argument.now) l) at.left at.call.1))
