-- One job finishes: the lists of all jobs then.
use Rattle.std.proofs.Common.{◌≡◌, ℕ, suc, ◌+◌, ◌&&◌, Bool, true, false, not, eqb, List, [], ◌∷◌, ◌++◌, map, filter, length, refl, sym, ap, ◌∙◌, arith}
use Rattle.std.specs.List.{flat_map, list_all, position_or_len}
use Rattle.std.proofs.lemmas.Bool.{eqb-true}
use Rattle.std.proofs.lemmas.List.Elements.{filter-append}
use Rattle.farm_types.specs.declared.rows.JobRow.{JobRow}
use Rattle.farm_types.specs.declared.rows.LayerRow.{LayerRow}
use Rattle.farm_types.specs.Farm.{changed_at}
use Rattle.farm_types.specs.Rising.{IsRising}
use Rattle.farm_types.proofs.ChangedLists.{changed_at_suc}
use Rattle.farm_types.proofs.Lists.{and_both}
use Rattle.job_entries.specs.declared.counts.Counts.{Counts}
use Rattle.job_entries.specs.Counting.{new_counts}
use Rattle.job_entries.specs.Entries.{all_of, are_layers, beside, counts_held, entry_key, finished_by, index_held, is_whole, layers_held, on_number, row_of, with_end, with_finish}
use Rattle.job_index.specs.Places.{LayerPlaces}
use Rattle.job_entries.specs.OneJob.{OneJob}
use Rattle.job_entries.proofs.Held.{stay_above}
use Rattle.job_entries.proofs.HeldKept.{Keeps, same_lists}
use Rattle.job_entries.proofs.HeldLists.{whole_parts}

pub finish_whole : (finish : ℕ) (c : Counts) → Keeps (with_finish finish c)
finish_whole finish c e = (refl, λ h. refl)

module _ (job finish : ℕ) (c : Counts) where
  abbrev ends : OneJob → OneJob
  ends = on_number job (with_finish finish c)

  abbrev stays : LayerRow → Bool
  stays l = not (eqb l.job job)

  rows_finished : (es : List OneJob) → map row_of (map ends es) ≡ map (finished_by job finish c) (map row_of es)
  rows_finished [] = refl
  rows_finished (e ∷ es) = by (eqb e.row.job job) refl (rows_finished es)
    where
      by : (b : Bool) → eqb e.row.job job ≡ b → map row_of (map ends es) ≡ map (finished_by job finish c) (map row_of es) → map row_of (map ends (e ∷ es)) ≡ map (finished_by job finish c) (map row_of (e ∷ es))
      by true is later = rw (is, later) refl
      by false is later = rw (is, later) refl

  counts_finished : (low : ℕ) (es : List OneJob) (high : ℕ) → IsRising entry_key low es high
      → map counts_held (map ends es) ≡ changed_at (map counts_held es) (position_or_len (λ (j : JobRow). eqb j.job job) (map row_of es)) (λ _. new_counts 0)
  counts_finished low [] high rise = refl
  counts_finished low (e ∷ es) high rise = by (eqb e.row.job job) refl (counts_finished (e.row.job + 1) es high rise.1)
    where
      by : (b : Bool) → eqb e.row.job job ≡ b → map counts_held (map ends es) ≡ changed_at (map counts_held es) (position_or_len (λ (j : JobRow). eqb j.job job) (map row_of es)) (λ _. new_counts 0)
          → map counts_held (map ends (e ∷ es)) ≡ changed_at (map counts_held (e ∷ es)) (position_or_len (λ (j : JobRow). eqb j.job job) (map row_of (e ∷ es))) (λ _. new_counts 0)
      by true is later =
          let stay = stay_above job (with_finish finish c) (e.row.job + 1) es high (omega (arith, eqb-true e.row.job job is)) rise.1 in
          rw (is, stay) refl
      by false is later =
          let at = position_or_len (λ (j : JobRow). eqb j.job job) (map row_of es) in
          let place : 1 + at ≡ suc at = omega arith in
          rw (is, place, changed_at_suc e.counts (map counts_held es) at (λ _. new_counts 0)) (ap (λ (cs : List Counts). e.counts ∷ cs) later)

  -- a job's own layers go, and those of another stay
  own_gone : (key p : ℕ) (ls : List LayerRow) → eqb key job ≡ true → are_layers key p ls ≡ true → filter stays ls ≡ []
  own_gone key p [] is own = refl
  own_gone key p (l ∷ ls) is own =
      let both = and_both (eqb l.job key && eqb l.place p) (are_layers key (p + 1) ls) own in
      let parts = and_both (eqb l.job key) (eqb l.place p) both.0 in
      let its : eqb l.job job ≡ true = ap (λ (n : ℕ). eqb n job) (eqb-true l.job key parts.0) ∙ is in
      rw its (own_gone key (p + 1) ls is both.1)

  other_stay : (key p : ℕ) (ls : List LayerRow) → eqb key job ≡ false → are_layers key p ls ≡ true → filter stays ls ≡ ls
  other_stay key p [] is own = refl
  other_stay key p (l ∷ ls) is own =
      let both = and_both (eqb l.job key && eqb l.place p) (are_layers key (p + 1) ls) own in
      let parts = and_both (eqb l.job key) (eqb l.place p) both.0 in
      let apart : eqb l.job job ≡ false = ap (λ (n : ℕ). eqb n job) (eqb-true l.job key parts.0) ∙ is in
      rw apart (ap (λ (ks : List LayerRow). l ∷ ks) (other_stay key (p + 1) ls is both.1))

  index_gone : (key p : ℕ) (ls : List LayerRow) (xs : List LayerPlaces) → length xs ≡ length ls → eqb key job ≡ true → are_layers key p ls ≡ true → beside stays ls xs ≡ []
  index_gone key p [] [] long is own = refl
  index_gone key p [] (x ∷ xs) long is own = absurd (omega (arith, long))
  index_gone key p (l ∷ ls) [] long is own = absurd (omega (arith, long))
  index_gone key p (l ∷ ls) (x ∷ xs) long is own =
      let both = and_both (eqb l.job key && eqb l.place p) (are_layers key (p + 1) ls) own in
      let parts = and_both (eqb l.job key) (eqb l.place p) both.0 in
      let its : eqb l.job job ≡ true = ap (λ (n : ℕ). eqb n job) (eqb-true l.job key parts.0) ∙ is in
      rw its (index_gone key (p + 1) ls xs (omega (arith, long)) is both.1)

  index_stay : (key p : ℕ) (ls : List LayerRow) (xs : List LayerPlaces) → length xs ≡ length ls → eqb key job ≡ false → are_layers key p ls ≡ true → beside stays ls xs ≡ xs
  index_stay key p [] [] long is own = refl
  index_stay key p [] (x ∷ xs) long is own = absurd (omega (arith, long))
  index_stay key p (l ∷ ls) [] long is own = absurd (omega (arith, long))
  index_stay key p (l ∷ ls) (x ∷ xs) long is own =
      let both = and_both (eqb l.job key && eqb l.place p) (are_layers key (p + 1) ls) own in
      let parts = and_both (eqb l.job key) (eqb l.place p) both.0 in
      let apart : eqb l.job job ≡ false = ap (λ (n : ℕ). eqb n job) (eqb-true l.job key parts.0) ∙ is in
      rw apart (ap (λ (ys : List LayerPlaces). x ∷ ys) (index_stay key (p + 1) ls xs (omega (arith, long)) is both.1))

  beside-append : (ks ls : List LayerRow) (xs ys : List LayerPlaces) → length xs ≡ length ks → beside stays (ks ++ ls) (xs ++ ys) ≡ beside stays ks xs ++ beside stays ls ys
  beside-append [] ls [] ys long = refl
  beside-append [] ls (x ∷ xs) ys long = absurd (omega (arith, long))
  beside-append (k ∷ ks) ls [] ys long = absurd (omega (arith, long))
  beside-append (k ∷ ks) ls (x ∷ xs) ys long = by (eqb k.job job) refl (beside-append ks ls xs ys (omega (arith, long)))
    where
      by : (b : Bool) → eqb k.job job ≡ b → beside stays (ks ++ ls) (xs ++ ys) ≡ beside stays ks xs ++ beside stays ls ys
          → beside stays ((k ∷ ks) ++ ls) ((x ∷ xs) ++ ys) ≡ beside stays (k ∷ ks) (x ∷ xs) ++ beside stays ls ys
      by true is later = rw is later
      by false is later = rw is (ap (λ (zs : List LayerPlaces). x ∷ zs) later)

  lists_finished : (es : List OneJob) → list_all is_whole es ≡ true
      → (flat_map layers_held (map ends es) ≡ filter stays (flat_map layers_held es)) × (flat_map index_held (map ends es) ≡ beside stays (flat_map layers_held es) (flat_map index_held es))
  lists_finished [] whole = (refl, refl)
  lists_finished (e ∷ es) whole =
      let parts = whole_parts e es whole in
      let rest = lists_finished es parts.2 in
      by (eqb e.row.job job) refl parts.0 parts.1 rest
    where
      by : (b : Bool) → eqb e.row.job job ≡ b → are_layers e.row.job 0 e.layers ≡ true → length e.index ≡ length e.layers
          → (flat_map layers_held (map ends es) ≡ filter stays (flat_map layers_held es)) × (flat_map index_held (map ends es) ≡ beside stays (flat_map layers_held es) (flat_map index_held es))
          → (flat_map layers_held (map ends (e ∷ es)) ≡ filter stays (flat_map layers_held (e ∷ es))) × (flat_map index_held (map ends (e ∷ es)) ≡ beside stays (flat_map layers_held (e ∷ es)) (flat_map index_held (e ∷ es)))
      by true is own long rest = (
        rw is (rest.0 ∙ sym (filter-append stays e.layers (flat_map layers_held es) ∙ rw (own_gone e.row.job 0 e.layers is own) refl)),
        rw is (rest.1 ∙ sym (beside-append e.layers (flat_map layers_held es) e.index (flat_map index_held es) long ∙ rw (index_gone e.row.job 0 e.layers e.index long is own) refl)),
      )
      by false is own long rest = (
        rw is (ap (λ (ls : List LayerRow). e.layers ++ ls) rest.0 ∙ sym (filter-append stays e.layers (flat_map layers_held es) ∙ rw (other_stay e.row.job 0 e.layers is own) refl)),
        rw is (ap (λ (xs : List LayerPlaces). e.index ++ xs) rest.1 ∙ sym (beside-append e.layers (flat_map layers_held es) e.index (flat_map index_held es) long ∙ rw (index_stay e.row.job 0 e.layers e.index long is own) refl)),
      )

  pub all_finished : (numbers : List ℕ) (es : List OneJob) (next : ℕ) → IsRising entry_key 0 es next → list_all is_whole es ≡ true
      → all_of numbers (map ends es) next ≡ with_end job finish c (all_of numbers es next)
  all_finished numbers es next rise whole =
      let lists = lists_finished es whole in
      same_lists _ _ (rows_finished es) (counts_finished 0 es next rise) lists.0 lists.1 refl refl
