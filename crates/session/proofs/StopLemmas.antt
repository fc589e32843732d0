-- What a stop leaves, opened again.
use Rattle.std.proofs.Common.{◌≡◌, ◌<◌, ◌^◌, ℕ, List, [], ◌∷◌, ◌++◌, inl, inr, refl, sym, ◌∙◌, subst, Ok}
use Rattle.std.specs.List.{All}
use Rattle.farm_keeper.specs.declared.row.Row.{Row}
use Rattle.farm_keeper.specs.Rows.{Lists, Rows}
use Rattle.farm_lines.specs.Transcript.{Exchange, answer_at, entries_in, farm_after, farm_next}
use Rattle.farm_types.specs.declared.entry.Entry.{Entry}
use Rattle.farm_types.specs.Farm.{Farm}
use Rattle.farm_types.specs.Kept.{IsKeptFarm}
use Rattle.farm_types.specs.Run.{IsLegal, run_of}
use Rattle.farm_types.specs.Step.{after}
use Rattle.farm_load.specs.recorder.specs.Recording.{MayBe}
use Rattle.recovery.specs.Recovered.{recovered}
use Rattle.farm_rows.specs.declared.head_row.TheConstants.{ROW_FORMAT}
use Rattle.farm_rows.specs.Rows.{HasRowsIn}
use Rattle.store_law.specs.Stored.{stored_in, stored_rows_in}
use Rattle.session.specs.Opening.{AreOf}
use Rattle.session.specs.Stops.{IsOpenedAgain, MayBeOld}
use Rattle.session.specs.Words.{WordForm, opened_farm, opening_entries}

-- each entry that is legal makes a farm of its kind
abbrev pub KeepRuns : Type 0
KeepRuns = (f : Farm) (es : List Entry) → IsKeptFarm f → IsLegal f es → IsKeptFarm (run_of f es)

-- ---- one farm

-- the rows of a farm in a format that it has are listed in order, and say the farm
abbrev pub AreListed : Type 0
AreListed = (format : ℕ) (f : Farm) (list : List Row) → IsKeptFarm f → HasRowsIn format f → Lists list (stored_in format f) → list ≡ stored_rows_in format f

abbrev pub SayFarms : Type 0
SayFarms = (format : ℕ) (f : Farm) → IsKeptFarm f → HasRowsIn format f → recovered (stored_rows_in format f) ≡ Ok (record { farm = f; format = format })

opened_list : AreListed → SayFarms → (format : ℕ) (f : Farm) (rows : Rows) (list : List Row) → IsKeptFarm f → HasRowsIn format f → rows ≡ stored_in format f → Lists list rows
    → recovered list ≡ Ok (record { farm = f; format = format })
opened_list only said format f rows list kept has is lists =
    subst (λ (xs : List Row). recovered xs ≡ Ok (record { farm = f; format = format })) (sym (only format f list kept has (subst (Lists list) is lists))) (said format f kept has)

pub opened_again : KeepRuns → AreListed → SayFarms → (f : Farm) (rows : Rows) (list : List Row) → IsKeptFarm f → MayBe f rows → Lists list rows
    → IsOpenedAgain f (recovered list)
opened_again keeps only said f rows list kept (inl is) lists = inl (opened_list only said ROW_FORMAT f rows list kept (inl refl) is lists)
opened_again keeps only said f rows list kept (inr further) lists =
    let more : IsKeptFarm (after f further.entry) = keeps f (further.entry ∷ []) kept (further.legal, tt) in
    inr (further.entry, further.legal, opened_list only said ROW_FORMAT (after f further.entry) rows list more (inl refl) further.rows_are lists)

-- one whose rows of format 1 were to be migrated
pub old_again : AreListed → SayFarms → (f : Farm) (rows : Rows) (list : List Row) → IsKeptFarm f → HasRowsIn 1 f → MayBeOld f rows → Lists list rows → AreOf list f
old_again only said f rows list kept has (inl is) lists = (1, opened_list only said 1 f rows list kept has is lists)
old_again only said f rows list kept has (inr is) lists = (ROW_FORMAT, opened_list only said ROW_FORMAT f rows list kept (inl refl) is lists)

-- ---- a session

run_on : (f : Farm) (xs ys : List Entry) → run_of f (xs ++ ys) ≡ run_of (run_of f xs) ys
run_on f [] ys = refl
run_on f (x ∷ xs) ys = run_on (after f x) xs ys

-- the farm after lines is that of the entries that were recorded for them
farm_of_entries : (f : Farm) (ts : List Exchange) → run_of f (entries_in f ts) ≡ farm_after f ts
farm_of_entries f [] = refl
farm_of_entries f (t ∷ ts) = run_on f (answer_at f t).entries (entries_in (farm_next f t) ts) ∙ farm_of_entries (farm_next f t) ts

session_kept : KeepRuns → ((f : Farm) (ts : List Exchange) → All (λ (t : Exchange). t.moment < 2 ^ 64) ts → IsLegal f (entries_in f ts)) → (f : Farm) (ts : List Exchange)
    → IsKeptFarm f → All (λ (t : Exchange). t.moment < 2 ^ 64) ts → IsKeptFarm (farm_after f ts)
session_kept keeps legal f ts kept within = subst IsKeptFarm (farm_of_entries f ts) (keeps f (entries_in f ts) kept (legal f ts within))

pub acknowledged : KeepRuns → ((f : Farm) (ts : List Exchange) → All (λ (t : Exchange). t.moment < 2 ^ 64) ts → IsLegal f (entries_in f ts))
    → ((f : Farm) (rows : Rows) (list : List Row) → IsKeptFarm f → MayBe f rows → Lists list rows → IsOpenedAgain f (recovered list))
    → (first : Farm) (form : WordForm) (opened : ℕ) (ts : List Exchange) (rows : Rows) (list : List Row) → IsKeptFarm first → IsLegal first (opening_entries form opened)
    → All (λ (t : Exchange). t.moment < 2 ^ 64) ts → MayBe (farm_after (opened_farm form first opened) ts) rows → Lists list rows
    → IsOpenedAgain (farm_after (opened_farm form first opened) ts) (recovered list)
acknowledged keeps legal again first form opened ts rows list kept opening within may lists =
    again (farm_after (opened_farm form first opened) ts) rows list
    (session_kept keeps legal (opened_farm form first opened) ts (keeps first (opening_entries form opened) kept opening) within) may lists
