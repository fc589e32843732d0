-- Attempts fit, and are read back.
use Rattle.std.proofs.Common.{◌≡◌, ℕ, List, Ok, refl, arith}
use Rattle.std.specs.Prelude.{codes}
use Rattle.cue_json.specs.Items.{item_at}
use Rattle.farm_types.specs.declared.attempt.Attempt.{Attempt}
use Rattle.farm_types.specs.declared.limits.TheConstants.{LAST_SLOT, LAST_VERSION}
use Rattle.farm_lines.specs.FormedLines.{IsFormedAttempt}
use Rattle.farm_lines.specs.Reply.{attempt_data}
use Rattle.farm_lines.specs.Request.{attempt_at}
use Rattle.object_writer.proofs.DataBack.{Fits}
use Rattle.client_codec.proofs.FieldsBack.{fields_in, whole_back}

pub attempt_fits : (a : Attempt) → IsFormedAttempt a → Fits 1 (attempt_data a)
unfolding attempt_data
attempt_fits a h = (refl, omega (arith, h.slot_within), (refl, omega (arith, h.version_within), tt))

pub attempt_back : (field : List ℕ) (a : Attempt) → IsFormedAttempt a → item_at field attempt_at (attempt_data a) ≡ Ok a
unfolding attempt_data attempt_at
attempt_back field a h =
    let ms = fields_in (attempt_data a) in
    rw (
      whole_back (codes "slot") ms 0 LAST_SLOT a.slot refl (omega arith, h.slot_within),
      whole_back (codes "version") ms 0 LAST_VERSION a.version refl (omega arith, h.version_within),
    ) refl
