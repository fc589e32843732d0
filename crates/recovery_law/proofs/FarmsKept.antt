-- A farm that rows say keeps what every farm keeps.
use Rattle.std.proofs.Common.{◌≡◌, ℕ, List, [], Option, Some, None, refl, sym, subst, ◌∙◌}
use Rattle.std.specs.Prelude.{Ok}
use Rattle.std.proofs.lemmas.Bool.{false≢true}
use Rattle.farm_types.specs.Farm.{Farm, empty_farm}
use Rattle.farm_types.specs.Kept.{IsKeptFarm}
use Rattle.depend_law.proofs.KeptFirst.{first_empty}
use Rattle.farm_rows.specs.declared.farm_row.FarmRow.{FarmRow}
use Rattle.farm_rows.specs.declared.head_row.TheConstants.{ROW_FORMAT}
use Rattle.farm_rows.specs.Recovery.{Said, StoredKey, end_fault, farm_said}
use Rattle.recovery_law.proofs.Drafts.{IsDraft, draft_step}
use Rattle.recovery_law.proofs.Ended.{keeps_rows, keeps_work, no_fault}
use Rattle.recovery_law.proofs.MetSaid.{keeps_depends}
use Rattle.recovery_law.proofs.Ordered.{Follow, in_order}
use Rattle.recovery_law.proofs.Steps.{all_rows}

kept_end : (format : ℕ) (end : Option StoredKey) (f : Farm) (rows : List FarmRow) → IsDraft format end f rows → end_fault f ≡ None → IsKeptFarm f
kept_end format None f rows k none = subst IsKeptFarm (sym k.0) first_empty
kept_end format (Some key) f rows k none =
    let fine = no_fault f none in
    let order = in_order format f ((0, 0), key, subst (λ (rs : List FarmRow). Follow (0, 0) rs key) (sym k.0.rows) k.1) in
    let of_rows = keeps_rows f k.2 order fine in
    record {
      rows = of_rows;
      depends = keeps_depends f k.2 order fine of_rows;
      work = keeps_work f k.2 order fine;
      record_kept = λ e. absurd (false≢true (sym e ∙ k.0.recorded));
    }

pub farms_kept : (rows : List FarmRow) (s : Said) → farm_said rows ≡ Ok s → IsKeptFarm s.farm
farms_kept rows s e =
    let all = all_rows IsDraft draft_step ROW_FORMAT None empty_farm [] rows s (refl, refl, refl) e in
    kept_end s.format all.0 s.farm rows all.1 all.2
