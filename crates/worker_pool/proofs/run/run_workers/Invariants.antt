use Rattle.worker_pool.proofs.run.run_workers.Given as goal

abbrev pub ghosts-share : goal.ghosts-share
ghosts-share g a = record {
  listener = a.listener.ghost_name;
  accepted = g.L.Listener.accepted a.listener.now;
  faults = g.L.Listener.faults a.listener.now;
  connections = a.connections;
}
