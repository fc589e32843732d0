use Rattle.std.proofs.Common.{◌∙◌, ◌+◌, ℕ, ap}
use Rattle.job_book.proofs.PlacementLemmas.FreeSlots.{last_behind}
use Rattle.job_book.proofs.placement.put.last_of.Goals as goal

pub returns : goal.returns
returns c = ap (λ (n : ℕ). n + 1) c.index-places-places.is ∙ last_behind 0 c.args.places.now _ c.requires
