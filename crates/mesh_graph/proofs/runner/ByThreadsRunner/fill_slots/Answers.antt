use Rattle.mesh_graph.proofs.runner.ByThreadsRunner.fill_slots.Goals as goal

pub fill_runs_of_slots-requires-sync-R : goal.fill_runs_of_slots-requires-sync-R
fill_runs_of_slots-requires-sync-R g c κs within = record { shared = c.requires.ready.shared }
