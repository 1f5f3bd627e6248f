use Rattle.mesh_graph.proofs.runner.ByThreadsRunner.fill.Goals as goal

pub fill_runs-requires-sync-R : goal.fill_runs-requires-sync-R
fill_runs-requires-sync-R g c κs within = record { shared = c.requires.ready.shared }
