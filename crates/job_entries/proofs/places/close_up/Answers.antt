use Rattle.std.proofs.Common.{rules}
use Rattle.std.proofs.lemmas.List.Elements.{filter_from_retain}
use Rattle.job_entries.specs.Entries.{is_taken}
use Rattle.job_entries.proofs.places.close_up.Goals as goal

pub returns-clause-items : goal.returns-clause-items
returns-clause-items c = filter_from_retain _ is_taken (λ p x b q h. search rules) _ _ _ c.retain.ensures.filtered
