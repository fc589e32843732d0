-- What limits keep: where one comes or is set, where a job's layers come, and where some go.
use Rattle.std.proofs.Common.{◌≡◌, ◌≤◌, ℕ, ◌+◌, Bool, true, ltb, List, [], ◌∷◌, ◌++◌, length, Option, Some, None, refl, sym, subst, ◌∙◌, arith, option_map}
use Rattle.std.specs.Prelude.{bytes_eq, option_and_then}
use Rattle.std.specs.Cmp.Derive.{both_true}
use Rattle.std.specs.List.{IsDistinct, filter, list_all, slice_get}
use Rattle.std.proofs.lemmas.Bool.{le-leb, lt-ltb}
use Rattle.std.proofs.lemmas.List.{length-append}
use Rattle.std.proofs.lemmas.List.Folds.{list_all-append}
use Rattle.std.proofs.lemmas.Option.{none-some, slice_get-map}
use Rattle.farm_types.specs.declared.job.JobSpec.{JobSpec}
use Rattle.farm_types.specs.declared.job.LayerSpec.{LayerSpec}
use Rattle.farm_types.specs.declared.limits.TheConstants.{MOST_LIMITS, MOST_RUNNING}
use Rattle.farm_types.specs.declared.refusal.Counted.TheVariants as counted
use Rattle.farm_types.specs.declared.rows.LayerRow.{LayerRow}
use Rattle.farm_types.specs.declared.rows.LimitRow.{LimitRow}
use Rattle.farm_types.specs.Farm.{Farm, changed_at, for_any, limit_from}
use Rattle.farm_types.specs.Forms.{is_name_text}
use Rattle.farm_types.specs.Jobs.{job_refusal, layer_rows, limit_in}
use Rattle.farm_types.specs.Kept.{KeepsLimits, has_its_limit, is_formed_limit, limit_label}
use Rattle.farm_types.specs.Step.{full_refusal, limit_row, limits_of, limits_refusal, lists_of, with_most}
use Rattle.farm_types.proofs.Changed.{length-changed_at}
use Rattle.farm_types.proofs.ChangedLists.{list_all-changed_at, map-changed_at_kept}
use Rattle.farm_types.proofs.Lists.{and_both, list_all-at}
use Rattle.farm_law.proofs.Filtered.{list_all-filter}
use Rattle.farm_law.proofs.KeptLists.{below_more, list_all-more, list_all-weaker}
use Rattle.farm_law.proofs.KeptNames.{differ_more, named_within, room_left}

-- ---- limits come

-- a layer has its limit among more
any_more : (less more : ℕ) → less ≤ more → (o : Option ℕ) → for_any o (λ limit. ltb limit less) ≡ true → for_any o (λ limit. ltb limit more) ≡ true
any_more less more grows None has = refl
any_more less more grows (Some limit) has = below_more limit less more grows has

-- a limit of a new name comes
pub limits_more : (limits : List LimitRow) (layers : List LayerRow) (name : List ℕ) (most : ℕ) → limit_from 0 name limits ≡ None → full_refusal MOST_LIMITS (length limits) counted.Limits ≡ None → is_name_text name ≡ true → most ≤ MOST_RUNNING
    → KeepsLimits limits layers → KeepsLimits (limits ++ limit_row name most ∷ []) layers
limits_more limits layers name most new room formed within k =
    let row = limit_row name most in
    let long = length-append limits (row ∷ []) in
    record {
      count = omega (arith, long, room_left MOST_LIMITS (length limits) counted.Limits room);
      differ = differ_more limit_label limits row new k.differ;
      formed = list_all-more is_formed_limit limits row k.formed (both_true formed (le-leb most MOST_RUNNING within));
      there =
          list_all-weaker (has_its_limit (length limits)) (has_its_limit (length (limits ++ row ∷ [])))
          (λ l has. any_more (length limits) (length (limits ++ row ∷ [])) (omega (arith, long)) l.limit has) layers k.there;
    }

-- one is set
pub limits_set : (limits : List LimitRow) (layers : List LayerRow) (limit most : ℕ) → most ≤ MOST_RUNNING → KeepsLimits limits layers → KeepsLimits (changed_at limits limit (with_most most)) layers
limits_set limits layers limit most within k =
    let long = length-changed_at limits limit (with_most most) in
    record {
      count = omega (arith, long, k.count);
      differ = subst (IsDistinct bytes_eq) (sym (map-changed_at_kept limit_label (with_most most) (λ row. refl) limits limit)) k.differ;
      formed =
          list_all-changed_at is_formed_limit limits limit (with_most most) k.formed
          (λ row at. both_true (and_both (is_name_text row.name) _ (list_all-at is_formed_limit limits limit row k.formed at)).0 (le-leb most MOST_RUNNING within));
      there = subst (λ (count : ℕ). list_all (has_its_limit count) layers ≡ true) (sym long) k.there;
    }

-- ---- layers come and go

-- the rows of a job's layers have their limits, where each limit by its place is there
rows_limited : (count job : ℕ) (numbers : List (Option ℕ)) (place : ℕ) (ls : List LayerSpec) → ((k : ℕ) → for_any (limit_in numbers k) (λ limit. ltb limit count) ≡ true) → list_all (has_its_limit count) (layer_rows job numbers place ls) ≡ true
rows_limited count job numbers place [] each = refl
rows_limited count job numbers place (l ∷ ls) each = both_true (each place) (rows_limited count job numbers (place + 1) ls each)

-- a limit that is found by its name is there
named_there : (limits : List LimitRow) (name : List ℕ) (o : Option ℕ) → limit_from 0 name limits ≡ o → for_any o (λ limit. ltb limit (length limits)) ≡ true
named_there limits name None is = refl
named_there limits name (Some limit) is = lt-ltb limit (length limits) (named_within limit_label name limits limit is)

named_at : (limits : List LimitRow) (o : Option LayerSpec) → for_any (option_and_then (λ limit. limit) (option_map (λ (l : LayerSpec). limit_from 0 l.limit limits) o)) (λ limit. ltb limit (length limits)) ≡ true
named_at limits None = refl
named_at limits (Some l) = named_there limits l.limit (limit_from 0 l.limit limits) refl

each_named : (limits : List LimitRow) (ls : List LayerSpec) (k : ℕ) → for_any (limit_in (limits_of limits ls) k) (λ limit. ltb limit (length limits)) ≡ true
each_named limits ls k =
    subst (λ (o : Option (Option ℕ)). for_any (option_and_then (λ limit. limit) o) (λ limit. ltb limit (length limits)) ≡ true)
    (sym (slice_get-map (λ (l : LayerSpec). limit_from 0 l.limit limits) ls k)) (named_at limits (slice_get ls k))

-- the layers of a job come, with the limits that they name
pub limits_submitted : (limits : List LimitRow) (layers : List LayerRow) (job : ℕ) (ls : List LayerSpec) → KeepsLimits limits layers → KeepsLimits limits (layers ++ layer_rows job (limits_of limits ls) 0 ls)
limits_submitted limits layers job ls k =
    let rows = layer_rows job (limits_of limits ls) 0 ls in
    record {
      count = k.count;
      differ = k.differ;
      formed = k.formed;
      there =
          list_all-append (has_its_limit (length limits)) layers rows
          ∙ both_true k.there (rows_limited (length limits) job (limits_of limits ls) 0 ls (each_named limits ls));
    }

-- some layers go
pub limits_fewer : (limits : List LimitRow) (layers : List LayerRow) (keep : LayerRow → Bool) → KeepsLimits limits layers → KeepsLimits limits (filter keep layers)
limits_fewer limits layers keep k = record { count = k.count; differ = k.differ; formed = k.formed; there = list_all-filter (has_its_limit (length limits)) keep layers k.there }

-- ---- a job that isn't refused

-- each limit that its layers name is there, and the job isn't refused by itself
pub limits_known : (f : Farm) (spec : JobSpec) (unknown : Option (List ℕ)) → limits_refusal f spec unknown ≡ None → (unknown ≡ None) × (job_refusal (lists_of f) spec ≡ None)
limits_known f spec None accepted = (refl, accepted)
limits_known f spec (Some name) accepted = absurd (none-some _ (sym accepted))
