-- A change that names no row changes none, and one that names some changes one.
use Rattle.std.proofs.Common.{◌≡◌, ◌==◌, inl, inr, Bool, true, false, cond, List, [], ◌∷◌, length}
use Rattle.farm_types.specs.declared.entry.Entry.{Entry}
use Rattle.farm_types.specs.Farm.{Farm}
use Rattle.farm_types.specs.Kept.{IsKeptFarm}
use Rattle.farm_types.specs.Run.{IsLegal, IsLegalStep, run_of}
use Rattle.farm_types.specs.Step.{after}
use Rattle.farm_keeper.specs.Keeping.{Committing}
use Rattle.farm_keeper.specs.Rows as batched
use Rattle.farm_rows.specs.declared.row_change.RowChange.{RowChange}
use Rattle.farm_rows.specs.Changes.{NamesExactly}
use Rattle.line_answers.specs.recorder.proofs.Stays.{empty_list, filled_list, none_named, untold}
use Rattle.line_answers.specs.recorder.specs.Recording.{HasSameRows}
use Rattle.line_answers.specs.recorder.specs.Telling.{TakesEach, TakesRows}
use Rattle.store_law.specs.Stored.{batch_of, stored}
use Rattle.world_answers.specs.Walking.{Says}

-- a keeper that is told nothing
abbrev nothing : Committing Bool
nothing batch answer before now = ⊥

same_rows : (f g : Farm) (before now : Bool) → TakesRows nothing f g before now → HasSameRows f g
same_rows f g before now (inl (same, is)) = same
same_rows f g before now (inr told) = absurd told.told

same_each : (f : Farm) (e : Entry) (before now : Bool) → TakesEach nothing f (e ∷ []) before now → HasSameRows f (after f e)
same_each f e before now (next, row, rest) = same_rows f (after f e) before next row

module _ (rows : (f g : Farm) (cs : List RowChange) → IsKeptFarm f → IsKeptFarm g → NamesExactly f g cs → batched.after (batch_of cs) (stored f) ≡ stored g)
    (differ : (f g : Farm) → IsKeptFarm f → IsKeptFarm g → stored f ≡ stored g → f ≡ g)
    (runs : (f : Farm) (es : List Entry) → IsKeptFarm f → IsLegal f es → IsKeptFarm (run_of f es))
    (f : Farm) (e : Entry) (kept : IsKeptFarm f) (legal : IsLegalStep f e) (cs : List RowChange) (names : NamesExactly f (after f e) cs) where
  -- by whether it names none
  pub says_by : (b : Bool) → (length cs == 0) ≡ b → Says (cond b false true) f (after f e)
  says_by true none = same_each f e true true (untold rows differ runs f e kept legal cs names (empty_list cs none) nothing true)
  says_by false some = none_named rows differ runs f e kept legal cs names (filled_list cs some)
