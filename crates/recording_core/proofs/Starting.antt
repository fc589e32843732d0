-- An entry that is no booking starts no frame: what its slots' words are still to show doesn't run.
use Rattle.std.proofs.Common.{◌≡◌, ◌≢◌, ◌⊎◌, ℕ, Bool, true, false, if◌then◌else◌, ◌||◌, List, [], ◌∷◌, ◌++◌, slice_index, sym, refl, ap, ◌∙◌, subst, arith, ⊎_elim}
use Rattle.std.specs.Prelude.{Option, Some}
use Rattle.std.proofs.lemmas.Bool.Decides.{nat_tests}
use mathlib.Core.Option.{some}
use lib.ListN.{get_elem?}
use Rattle.farm_types.specs.declared.entry.Act.TheVariants.{Book}
use Rattle.farm_types.specs.declared.entry.Entry.{Entry}
use Rattle.farm_types.specs.Farm.{Farm}
use Rattle.farm_types.specs.Kept.{IsKeptFarm}
use Rattle.farm_types.specs.Run.{IsLegal, run_of}
use Rattle.farm_types.specs.Step.{after}
use Rattle.booking_rule.specs.declared.desk.Desk.{Desk}
use Rattle.booking_rule.specs.declared.view.View.{View}
use Rattle.booking_rule.specs.Recorded.{Stand}
use Rattle.booking_rule.specs.Words.{words_of}
use Rattle.booking_rule.specs.Link.{farm_of, farm_before, has, recorded_in, stand_at}
use Rattle.booking_rule.specs.Rule.{is_booked}
use Rattle.booking_rule.specs.Kept.{Holds}
use Rattle.booking_rule.proofs.Moves.{same_self}
use Rattle.booking_rule.proofs.Own.{of_first}
use Rattle.booking_rule.proofs.Says.{none_setup}
use Rattle.depend_law.proofs.KeptRuns.{kept_step}
use Rattle.entry_law.proofs.Rising.{running}
use Rattle.booking_core.specs.Machine.{Table}
use Rattle.recording_core.specs.Records.{desk_in}
use Rattle.recording_core.specs.Machine.{IsBooking, stand_recorded, stand_now}

last_runs : (f : Farm) (xs : List Entry) (e : Entry) (n : ℕ) → IsKeptFarm f → IsLegal f (xs ++ e ∷ []) → (stand_at (run_of f (xs ++ e ∷ [])) n).phase ≡ 4
    → (stand_at (run_of f (xs ++ e ∷ [])) n ≡ stand_at (run_of f xs) n) ⊎ ((host : ℕ) × (e.act ≡ Book n host))
last_runs f [] e n kept legal runs = running f e n kept legal.0 runs
last_runs f (x ∷ xs) e n kept legal runs = last_runs (after f x) xs e n (kept_step f x legal.0 kept) legal.1 runs

-- not booked, where the farm neither runs the frame nor has it half booked
unbooked : (phase : ℕ) → phase ≢ 3 → phase ≢ 4 → is_booked phase ≡ false
unbooked phase three four = grind (arith, nat_tests)

pub starts_none : (s : Table) (id : ℕ) (v : View) (d : Desk) (log : List Entry) (e : Entry) (slot : ℕ) → Holds s → get_elem? s.views id ≡ some v → v.desk ≡ Some d
    → d.before ≡ Some log → log ++ e ∷ [] ≡ v.journal → (IsBooking e.act → ⊥) → stand_recorded v slot ≢ stand_now v slot → is_booked (stand_now v slot).phase ≡ false
starts_none s id v d log e slot h at is before last other left =
    let A = of_first (slice_index s.words 0) (words_of s.words) s.views id v d h.1 at is in
    let now = stand_now v slot in
    let late : Desk = record d { slots = slot ∷ [] } in
    let done : (recorded_in v.opening v.journal late).slot slot ≡ now =
    ap (λ (b : Bool). if b || false then now else stand_at (farm_before v.opening d.before) slot) (same_self slot) in
    let three : now.phase ≢ 3 = subst (λ (x : Stand). x.phase ≢ 3) done (none_setup v.opening v.journal late A.begins.rows A.legal A.before slot) in
    let legal : IsLegal (farm_of v.opening) (log ++ e ∷ []) = subst (IsLegal (farm_of v.opening)) (sym last) A.legal in
    let old = stand_at (run_of (farm_of v.opening) log) slot in
    let four : now.phase ≢ 4 = λ runs.
    ⊎_elim
    (λ (same : stand_at (run_of (farm_of v.opening) (log ++ e ∷ [])) slot ≡ old).
    let stays : now ≡ old = ap (λ (l : List Entry). stand_at (run_of (farm_of v.opening) l) slot) (sym last) ∙ same in
    left (ap (λ (o : Option Desk). (recorded_in v.opening v.journal (desk_in o)).slot slot) is
    ∙ either (has slot d.slots) now (stand_at (farm_before v.opening d.before) slot) (ap (λ (o : Option (List Entry)). stand_at (farm_before v.opening o) slot) before ∙ sym stays)))
    (λ (b : (host : ℕ) × (e.act ≡ Book slot host)). other (subst IsBooking (sym b.1) tt))
    (last_runs (farm_of v.opening) log e slot A.begins legal (ap (λ (l : List Entry). (stand_at (run_of (farm_of v.opening) l) slot).phase) last ∙ runs)) in
    unbooked now.phase three four
  where
    either : (b : Bool) (x y : Stand) → y ≡ x → (if b then x else y) ≡ x
    either true x y e = refl
    either false x y e = e
