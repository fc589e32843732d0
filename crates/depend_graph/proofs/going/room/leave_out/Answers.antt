use Rattle.std.proofs.lemmas.Fn.{filter_same}
use Rattle.std.proofs.Common.{rules}
use Rattle.depend_edges.specs.Listed.{is_there}
use Rattle.depend_graph.proofs.going.room.leave_out.Goals as goal

pub returns-clause-items : goal.returns-clause-items
returns-clause-items c = filter_same _ is_there _ (λ x b f' k. search rules) _ _ c.retain.ensures.filtered
