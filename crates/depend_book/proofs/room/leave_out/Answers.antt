use Rattle.std.proofs.Common.{rules}
use Rattle.std.proofs.lemmas.Fn.{filter_same}
use Rattle.depend_book.specs.Rows.{is_there}
use Rattle.depend_book.proofs.room.leave_out.Goals as goal

pub returns-clause-items : goal.returns-clause-items
returns-clause-items c = filter_same _ is_there _ (λ x b f' k. search rules) _ _ c.retain.ensures.filtered
