-- No commit of the keeper was refused.
use Rattle.serving_tests.proofs.Kept.{may_open}
use Rattle.serving_tests.proofs.served.serve_over.Goals as goal

pub run_serve-requires-clause-kept : goal.run_serve-requires-clause-kept
run_serve-requires-clause-kept g c = λ κs lives asks asked tells. may_open asks.store c.args.keeper.rows c.args.keeper.refused c.requires
