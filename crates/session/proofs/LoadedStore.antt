-- A store's farm is loaded, and then opened.
use Rattle.std.proofs.Common.{◌≡◌, ◌<◌, ◌^◌, ℕ, List, [], Result, Ok, Err, inl, inr}
use Rattle.farm_keeper.specs.declared.row.Row.{Row}
use Rattle.farm_keeper.specs.Keeping.{Continues, HasKept, Keeps}
use Rattle.farm_keeper.specs.Rows.{Rows}
use Rattle.farm_rows.specs.Recovery.{Said}
use Rattle.farm_rows.specs.Rows.{HasRowsIn}
use Rattle.farm_types.specs.Farm.{Farm}
use Rattle.recovery.specs.Recovered.{recovered, spelled_rows}
use Rattle.recovery.specs.declared.recovering.Recovered.{Recovered}
use Rattle.session.specs.declared.opening.OpenFault.{OpenFault}
use Rattle.session.specs.declared.opening.Opening.{Opening}
use Rattle.session.specs.declared.opening.Opening.TheVariants as opening
use Rattle.session.specs.Opening.{BeginsIn, HasBegun, IsLoaded, IsLoadedFrom, Loads, Opens, is_store_failure}
use Rattle.session.specs.Words.{WordForm, Demo, IsScript, Load, Script}
use Rattle.session.proofs.OpenedLegal.{script_opened}
use Rattle.session.proofs.OpenedStore.{loaded_only, loaded_rows, says_list}
use Rattle.session.proofs.OpenedWays.{recovered_opens, script_begins, unloaded_opens}

-- what came of loading the rows, by the laws of recovery
pub loads : {K : Type 0} (tells : K → Type 0) (holds left : K → Rows → Type 0) (faults : K → ℕ) (given now : K)
    → ((rows : List Row) (said : Said) → recovered rows ≡ Ok said → spelled_rows said.format said.farm ≡ rows)
    → ((rows : List Row) (said : Said) → recovered rows ≡ Ok said → HasRowsIn said.format said.farm)
    → (tells given → (rows : Rows) × HasKept (holds given) (left given) rows []) → Keeps (holds given) (holds now) → Keeps (left now) (left given)
    → (result : Result Recovered OpenFault) → IsLoaded (tells now) (holds given) result → Continues tells faults given now (is_store_failure result)
    → Loads tells holds left faults given result now
loads tells holds left faults given now spelled formed kept keeps leaves (Ok r) loaded goes =
    let list = loaded.0 in
    let listed = loaded.1 in
    let is = loaded.2 in
    record {
      goes = goes;
      said = says_list (tells now) (holds given) list (Ok (record { farm = r.farm; format = r.format })) listed is;
      of_format = formed list (record { farm = r.farm; format = r.format }) is;
      only = λ told. loaded_only (holds given) list r.format r.farm (listed told) (spelled list (record { farm = r.farm; format = r.format }) is);
      kept = λ told. loaded_rows (Script []) (holds given) (left given) (holds now) (left now) list r.format r.farm tt (kept (goes.told told)) (listed told) keeps leaves
          (spelled list (record { farm = r.farm; format = r.format }) is);
    }
loads tells holds left faults given now spelled formed kept keeps leaves (Err why) loaded goes =
    λ store moment. unloaded_opens tells holds left faults (Script store) moment given now why tt loaded goes keeps leaves

-- what was opened of the farm that was loaded
pub loaded_opens : {K N : Type 0} (tells : K → Type 0) (holds left : K → Rows → Type 0) (faults : K → ℕ) (form : WordForm) (moment : ℕ) (f : Farm) (format : ℕ) (given now : K)
    → IsScript form → moment < 2 ^ 64 → IsLoadedFrom tells holds left faults given f format now → (result : Opening K N)
    → BeginsIn format tells holds left faults form moment f now result → Opens tells holds left faults form moment given result
loaded_opens tells holds left faults form moment f format given now script within loaded result begins =
    recovered_opens format tells holds left faults form moment given now f (script_begins form (tells now) (holds given) format f script loaded.said) loaded.goes
    (script_opened form f moment script within) loaded.of_format loaded.only result begins

-- a store that could not be loaded, for its words
pub unloaded_form : {K : Type 0} (tells : K → Type 0) (holds left : K → Rows → Type 0) (faults : K → ℕ) (form : WordForm) (moment : ℕ) (given now : K) (why : OpenFault)
    → IsScript form → Loads tells holds left faults given (Err why) now → Opens {N = Unit {0}} tells holds left faults form moment given (opening.Failed now why)
unloaded_form tells holds left faults Demo moment given now why script loads = absurd script
unloaded_form tells holds left faults (Script store) moment given now why script loads = loads store moment
unloaded_form tells holds left faults (Load n) moment given now why script loads = absurd script

-- the farm with which the seat's journal begins
pub begun_in : {K N : Type 0} (format : ℕ) (tells : K → Type 0) (holds left : K → Rows → Type 0) (faults : K → ℕ) (form : WordForm) (moment : ℕ) (f : Farm) (old : K)
    → (result : Opening K N) → BeginsIn format tells holds left faults form moment f old result → HasBegun form moment f result
begun_in format tells holds left faults form moment f old (opening.Opened r) (inl begins) = begins.2
begun_in format tells holds left faults form moment f old (opening.Opened r) (inr stays) = absurd stays
begun_in format tells holds left faults form moment f old (opening.Failed now why) begins = tt
