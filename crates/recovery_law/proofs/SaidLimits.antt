-- The rows of limits say them, in format 2, and with them the whole farm. In format 1 there are none.
use Rattle.std.proofs.Common.{◌≡◌, ℕ, Bool, true, ◌⊎◌, inl, inr, List, [], ◌∷◌, ◌++◌, length, Option, Ok, eqb, refl, ap, sym, subst, ◌∙◌, arith}
use Rattle.std.specs.List.{list_all}
use Rattle.std.proofs.lemmas.Bool.{eq-eqb, lt-ltb}
use Rattle.std.proofs.lemmas.List.{append-nil}
use Rattle.std.specs.Cmp.Derive.{both_true}
use Rattle.farm_types.specs.declared.limits.TheConstants.{MOST_LIMITS}
use Rattle.farm_types.specs.declared.rows.LimitRow.{LimitRow}
use Rattle.farm_types.specs.Farm.{Farm}
use Rattle.farm_types.specs.Kept.{AllDiffer, IsKeptFarm, is_formed_limit, limit_label}
use Rattle.farm_rows.specs.declared.farm_row.FarmRow.TheVariants as row
use Rattle.farm_rows.specs.declared.head_row.TheConstants.{ROW_FORMAT}
use Rattle.farm_rows.specs.Recovery.{StoredKey, ended, farm_with, limit_fits}
use Rattle.farm_rows.specs.Rows.{numbered}
use Rattle.recovery_law.proofs.Firsts.{first_fewer, new_label, next_passes}
use Rattle.recovery_law.proofs.Parts.{upto_limits}
use Rattle.recovery_law.proofs.SaidEnd.{none_at_fault}
use Rattle.recovery_law.proofs.Stage.{IsPast, Kind, Stage, all_staged, by_places}

abbrev pub limit_rows : Farm → Kind LimitRow
limit_rows f = record { kind = 11; make = λ n x. row.Limit n x; id = λ n x. n; farm = upto_limits f }

-- the farm's rows are in format 2, or it has no limits
abbrev pub HasFormat : ℕ → Farm → Type 0
HasFormat format f = (format ≡ ROW_FORMAT) ⊎ (f.limits ≡ [])

module _ (format : ℕ) (f : Farm) (k : IsKeptFarm f) (has : HasFormat format f) where
  -- where a limit has a row, that is in format 2
  formatted : (done : List LimitRow) (x : LimitRow) (rest : List LimitRow) → done ++ x ∷ rest ≡ f.limits → HasFormat format f → eqb format ROW_FORMAT ≡ true
  formatted done x rest is (inl same) = eq-eqb format ROW_FORMAT same
  formatted done x rest is (inr none) =
      let within = first_fewer done rest x in
      let long : length (done ++ x ∷ rest) ≡ 0 = ap length (is ∙ none) in
      absurd (omega (arith, within, long))

  limit_fit : (done : List LimitRow) (x : LimitRow) (rest : List LimitRow) → done ++ x ∷ rest ≡ f.limits → limit_fits format (upto_limits f done) (length done) x ≡ true
  limit_fit done x rest is =
      let within = first_fewer done rest x in
      let same = ap length is in
      both_true (formatted done x rest is has)
      (both_true (eq-eqb (length done) (length done) refl)
      (both_true (lt-ltb (length done) MOST_LIMITS (omega (arith, within, same, k.rows.limits.count)))
      (both_true (next_passes is_formed_limit done rest x (subst (λ (xs : List LimitRow). list_all is_formed_limit xs ≡ true) (sym is) k.rows.limits.formed))
      (new_label limit_label done rest x (subst (λ (xs : List LimitRow). AllDiffer limit_label xs) (sym is) k.rows.limits.differ)))))

  limits_stage : Stage format (limit_rows f) f.limits
  limits_stage = record { keys = λ n x. refl; formats = λ n x. refl; adds = λ done x. refl; fits = limit_fit }

  whole : f.recorded ≡ true → upto_limits f f.limits ≡ f
  whole is = ap (λ (b : Bool). record f { recorded = b }) (sym is)

  pub limits_said : f.recorded ≡ true → (last : Option StoredKey) → IsPast last 10 → farm_with format last (upto_limits f []) (numbered row.Limit 0 f.limits) ≡ Ok (record { farm = f; format = format })
  limits_said is last past =
      ap (farm_with format last (upto_limits f [])) (sym (append-nil (numbered row.Limit 0 f.limits)))
      ∙ all_staged format (limit_rows f) f.limits limits_stage [] (Ok (record { farm = f; format = format }))
      (λ key later. ap (λ (g : Farm). farm_with format key g []) (whole is) ∙ ap (ended format f) (none_at_fault f k)) last 0 10 (omega arith) (by_places 0 f.limits) past
