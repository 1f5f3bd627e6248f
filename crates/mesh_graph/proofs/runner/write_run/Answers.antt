use Rattle.std.proofs.Common.{◌*◌, ◌∙◌, ap, length, sym}
use Rattle.lane_kernels.specs.Rows.{width_of}
use Rattle.mesh_graph.proofs.Runs.{cut-is, cut-long, run-from_cut}
use Rattle.mesh_graph.proofs.runner.write_run.Goals as goal

pub write_rows-requires-clause-rows : goal.write_rows-requires-clause-rows
write_rows-requires-clause-rows c =
    let run = c.requires.run in
    let W = width_of (length c.args.sets.now) in
    let same = c.row_words-words.ensures in
    let len = length c.args.part.now in
    run.len_is
    ∙ ap (λ k. W * k) (sym (ap length (cut-is c.args.abandoned.now W c.row_words-words.result c.args.start len run same run.first run.count run.start_is run.len_is)
    ∙ cut-long c.args.abandoned.now W c.row_words-words.result c.args.start len run same run.first run.count run.start_is run.len_is))

pub returns-clause-rows : goal.returns-clause-rows
returns-clause-rows c =
    run-from_cut c.args.abandoned.now c.args.sets.now c.args.masks.now c.row_words-words.result c.args.start (length c.args.part.now) c.write_rows.new.rows c.requires.run
    c.row_words-words.ensures c.write_rows.ensures.rows
