-- The layers of a new job.
use Rattle.std.proofs.Common.{◌≡◌, ℕ, suc, ◌+◌, ◌*◌, ◌<◌, ◌≤◌, Bool, true, false, cond, ◌&&◌, eqb, List, [], ◌∷◌, length, map, Option, Some, None, refl, sym, ap, subst, ◌∙◌, arith}
use Rattle.std.specs.List.{All, list_all, slice_get}
use Rattle.std.specs.Cmp.Derive.{both_true}
use Rattle.std.proofs.lemmas.Bool.{eq-eqb, ne_eqb, lt-ltb, and_left}
use Rattle.std.proofs.lemmas.List.Sums.{sum_by-cons}
use Rattle.farm_types.specs.declared.job.LayerSpec.{LayerSpec}
use Rattle.farm_types.specs.declared.rows.LayerRow.{LayerRow}
use Rattle.farm_types.specs.declared.limits.TheConstants.{MOST_LAYERS}
use Rattle.farm_types.specs.Formed.{IsFormedLayer}
use Rattle.farm_types.specs.Jobs.{frames_in, layer_row, layer_rows, limit_in}
use Rattle.farm_types.specs.Kept.{AreAtPlaces, frames_said, is_formed_layer, layer_label}
use Rattle.farm_types.specs.Farm.{layers_of, layer_in}
use Rattle.farm_types.specs.Ranges.{range_numbers}
use Rattle.farm_types.specs.Rising.{IsRising, layer_key}
use Rattle.farm_law.proofs.FormedParts.{between}
use Rattle.farm_law.proofs.KeptJobsLists.{rising_below, find_none, filter_none, spec_name}

-- ---- the layers that were there are of earlier jobs

-- a layer that was there is of an earlier job
pub layer_before : (layers : List LayerRow) (next n : ℕ) (l : LayerRow) → IsRising layer_key 0 layers (MOST_LAYERS * next) → slice_get layers n ≡ Some l → l.job < next
layer_before layers next n l rise at =
    let below : MOST_LAYERS * l.job + l.place < MOST_LAYERS * next = rising_below layer_key 0 layers (MOST_LAYERS * next) n l rise at in
    omega (arith, below)

module _ (layers : List LayerRow) (next : ℕ) (rise : IsRising layer_key 0 layers (MOST_LAYERS * next)) where
  not_next : (n : ℕ) (l : LayerRow) → slice_get layers n ≡ Some l → eqb l.job next ≡ false
  not_next n l at = ne_eqb l.job next (λ e. absurd (omega (arith, layer_before layers next n l rise at, e)))

  -- none is of the next job
  pub none_of_next : layers_of layers next ≡ []
  none_of_next = filter_none (λ (l : LayerRow). eqb l.job next) layers not_next

  -- so none is found
  pub none_in_next : (place : ℕ) → layer_in layers next place ≡ None
  none_in_next place = find_none (λ (l : LayerRow). eqb l.job next && eqb l.place place) layers (λ n l at. and_left (eqb l.job next) (eqb l.place place) (not_next n l at))

-- ---- the rows of a job's layers

-- all are of the job
pub all_of_job : (job : ℕ) (limits : List (Option ℕ)) (place : ℕ) (ls : List LayerSpec) → layers_of (layer_rows job limits place ls) job ≡ layer_rows job limits place ls
all_of_job job limits place [] = refl
all_of_job job limits place (l ∷ ls) =
    ap (λ (b : Bool). cond b (layer_row job place (limit_in limits place) l ∷ layers_of (layer_rows job limits (place + 1) ls) job) (layers_of (layer_rows job limits (place + 1) ls) job)) (eq-eqb job job refl)
    ∙ ap (λ (rows : List LayerRow). layer_row job place (limit_in limits place) l ∷ rows) (all_of_job job limits (place + 1) ls)

-- none is of another job
pub none_of_other : (job other : ℕ) (limits : List (Option ℕ)) (place : ℕ) (ls : List LayerSpec) → eqb job other ≡ false → layers_of (layer_rows job limits place ls) other ≡ []
none_of_other job other limits place [] apart = refl
none_of_other job other limits place (l ∷ ls) apart =
    ap (λ (b : Bool). cond b (layer_row job place (limit_in limits place) l ∷ layers_of (layer_rows job limits (place + 1) ls) other) (layers_of (layer_rows job limits (place + 1) ls) other)) apart
    ∙ none_of_other job other limits (place + 1) ls apart

-- each stands at its place
pub rows_at_places : (job : ℕ) (limits : List (Option ℕ)) (place : ℕ) (ls : List LayerSpec) → AreAtPlaces place (layer_rows job limits place ls)
rows_at_places job limits place [] = tt
rows_at_places job limits place (l ∷ ls) = (refl, rows_at_places job limits (place + 1) ls)

-- their names are those that were asked for
pub row_names : (job : ℕ) (limits : List (Option ℕ)) (place : ℕ) (ls : List LayerSpec) → map layer_label (layer_rows job limits place ls) ≡ map spec_name ls
row_names job limits place [] = refl
row_names job limits place (l ∷ ls) = ap (λ (names : List (List ℕ)). l.name ∷ names) (row_names job limits (place + 1) ls)

-- the ranges say the layers' numbers
pub rows_said : (job : ℕ) (limits : List (Option ℕ)) (place : ℕ) (ls : List LayerSpec) → All IsFormedLayer ls → frames_said (layer_rows job limits place ls) ≡ frames_in ls
rows_said job limits place [] each = refl
rows_said job limits place (l ∷ ls) each =
    let formed = each 0 l (omega arith) in
    let rest = rows_said job limits (place + 1) ls (λ k d h. each (suc k) d (omega (arith, h))) in
    omega (
      arith,
      sum_by-cons (λ (r : LayerRow). length (range_numbers r.range)) (layer_row job place (limit_in limits place) l) (layer_rows job limits (place + 1) ls),
      sum_by-cons (λ (m : LayerSpec). length m.numbers) l ls,
      ap length formed.numbers_are,
      rest,
    )

-- their keys rise
pub rows_rise : (job : ℕ) (limits : List (Option ℕ)) (place : ℕ) (ls : List LayerSpec) → place + length ls ≤ MOST_LAYERS → IsRising layer_key (MOST_LAYERS * job + place) (layer_rows job limits place ls) (MOST_LAYERS * (job + 1))
rows_rise job limits place [] few = omega arith
rows_rise job limits place (l ∷ ls) few =
    let next : MOST_LAYERS * job + place + 1 ≡ MOST_LAYERS * job + (place + 1) = omega arith in
    (omega arith, subst (λ k. IsRising layer_key k (layer_rows job limits (place + 1) ls) (MOST_LAYERS * (job + 1))) (sym next) (rows_rise job limits (place + 1) ls (omega arith)))

-- a formed layer's row is formed
row_formed : (job place : ℕ) (limit : Option ℕ) (l : LayerSpec) → place < MOST_LAYERS → IsFormedLayer l → is_formed_layer (layer_row job place limit l) ≡ true
row_formed job place limit l few h =
    both_true h.name
    (both_true (lt-ltb place MOST_LAYERS few)
    (both_true h.range
    (both_true (between _ _ (length l.command) h.limits.command_within)
    (both_true h.command
    (both_true (between _ _ l.cores h.limits.cores_within)
    (both_true (between _ _ l.memory h.limits.memory_within)
    (both_true (between _ _ (length l.tags) h.limits.tags_within) h.tags)))))))

-- and so are all
pub rows_formed : (job : ℕ) (limits : List (Option ℕ)) (place : ℕ) (ls : List LayerSpec) → place + length ls ≤ MOST_LAYERS → All IsFormedLayer ls → list_all is_formed_layer (layer_rows job limits place ls) ≡ true
rows_formed job limits place [] few each = refl
rows_formed job limits place (l ∷ ls) few each =
    both_true (row_formed job place (limit_in limits place) l (omega arith) (each 0 l (omega arith)))
    (rows_formed job limits (place + 1) ls (omega arith) (λ k d h. each (suc k) d (omega (arith, h))))

-- a test of a layer's job that the job passes
pub rows_pass : (test : ℕ → Bool) (job : ℕ) (limits : List (Option ℕ)) (place : ℕ) (ls : List LayerSpec) → test job ≡ true → list_all (λ (l : LayerRow). test l.job) (layer_rows job limits place ls) ≡ true
rows_pass test job limits place [] passes = refl
rows_pass test job limits place (l ∷ ls) passes = both_true passes (rows_pass test job limits (place + 1) ls passes)
