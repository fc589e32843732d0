use Rattle.std.proofs.Common.{List, map, nat_eq, subst, sym}
use Rattle.std.specs.List.{IsDistinct}
use Rattle.farm_draft.specs.Rows.{slot_of}
use Rattle.farm_draft.specs.declared.slot_change.SlotChange.{SlotChange}
use Rattle.farm_draft.proofs.rows.Rows.none.Goals as goal

pub returns-clause-numbers : goal.returns-clause-numbers
unfolding IsDistinct
returns-clause-numbers c = subst (λ (es : List SlotChange). IsDistinct nat_eq (map slot_of es)) (sym c.new-2.ensures.items) tt
