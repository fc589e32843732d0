use Rattle.std.proofs.Common.{◌∙◌, is_some, ap}
use Rattle.farm_types.specs.Farm.{Farm}
use Rattle.farm_rows.specs.Changes.{row_at}
use Rattle.farm_core.proofs.farm.Farm.holds_key.Goals as goal

pub returns : goal.returns
returns c = c.has_key.ensures ∙ ap (λ (f : Farm). is_some (row_at f c.args.key)) c.self.view_is
