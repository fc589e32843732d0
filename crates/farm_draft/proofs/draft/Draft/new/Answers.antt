use Rattle.std.proofs.Common.{nat_eq, ap}
use Rattle.std.specs.Map.{lookup}
use Rattle.indexmap.specs.IndexMap.{get}
use Rattle.farm_draft.proofs.OverFarm.{over_farm-none}
use Rattle.farm_draft.proofs.draft.Draft.new.Goals as goal

pub returns : goal.returns
returns c =
    over_farm-none c.args.books.now.farm c.args.moment (get nat_eq c.new.result) (get nat_eq c.new-2.result)
    (λ j. ap (lookup (nat_eq j)) c.new.ensures.empty) (λ j. ap (lookup (nat_eq j)) c.new-2.ensures.empty)
