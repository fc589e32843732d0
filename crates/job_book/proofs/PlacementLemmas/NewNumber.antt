-- No job and no layer has the next job's number.
use Rattle.std.proofs.Common.{◌≡◌, ℕ, ◌+◌, ◌*◌, ◌&&◌, false, eqb, List, [], ◌∷◌, None, refl, arith}
use Rattle.std.specs.List.{find}
use Rattle.std.proofs.lemmas.Bool.{ne_eqb}
use Rattle.farm_types.specs.declared.rows.JobRow.{JobRow}
use Rattle.farm_types.specs.declared.rows.LayerRow.{LayerRow}
use Rattle.farm_types.specs.Rising.{IsRising, job_key}
use Rattle.job_book.specs.Inside.{layer_key}
use Rattle.job_book.specs.declared.jobs.TheConstants.{PLACE_LIMIT}
use Rattle.job_book.proofs.PlacementLemmas.Placed.{rising_within}

pub no_job_new : (low : ℕ) (jobs : List JobRow) (next : ℕ) → IsRising job_key low jobs next → find (λ (j : JobRow). eqb j.job next) jobs ≡ None
no_job_new low [] next rise = refl
no_job_new low (j ∷ js) next rise =
    let within = rising_within job_key (j.job + 1) js next rise.1 in
    let apart : eqb j.job next ≡ false = ne_eqb j.job next (λ e. absurd (omega (arith, e, within))) in
    rw apart (no_job_new (j.job + 1) js next rise.1)

pub no_layer_new : (low : ℕ) (layers : List LayerRow) (next place : ℕ) → IsRising layer_key low layers (PLACE_LIMIT * next) → find (λ (l : LayerRow). eqb l.job next && eqb l.place place) layers ≡ None
no_layer_new low [] next place rise = refl
no_layer_new low (l ∷ ls) next place rise =
    let within = rising_within layer_key (layer_key l + 1) ls (PLACE_LIMIT * next) rise.1 in
    let apart : eqb l.job next ≡ false = ne_eqb l.job next (λ e. absurd (omega (arith, e, within))) in
    rw apart (no_layer_new (layer_key l + 1) ls next place rise.1)
