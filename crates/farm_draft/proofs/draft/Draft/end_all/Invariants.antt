use Rattle.std.proofs.Common.{◌≡◌, drop}
use Rattle.farm_types.specs.Step.{end_all}
use Rattle.farm_draft.specs.Drafted.{with_farm}
use Rattle.farm_draft.proofs.draft.Draft.end_all.Given as goal

abbrev pub invariant-loop-item : goal.invariant-loop-item
invariant-loop-item l = with_farm l.self (end_all l.self.farm l.host l.boot (drop l.item-index l.done)) ≡ with_farm l.fn.self (end_all l.fn.self.farm l.host l.boot l.done)
