-- A recorder of a farm on a new table has nothing that a pass is to take.
use Rattle.std.proofs.Common.{◌≡◌, ◌∙◌, [], ap}
use Rattle.booking_rule.specs.declared.view.View.{View}
use Rattle.booking_rule.specs.Kept.{first_view}
use Rattle.farm_types.specs.Farm.{Farm}
use Rattle.serving.specs.shared_sessions.specs.shared_bot.specs.recording_turns.specs.Resting.{IsPlaced}

pub no_receipts : (v w : View) (f : Farm) → v ≡ first_view → IsPlaced v f w → w.receipts ≡ []
no_receipts v w f first placed = ap (λ (x : View). x.receipts) placed.like ∙ ap (λ (x : View). x.receipts) first
