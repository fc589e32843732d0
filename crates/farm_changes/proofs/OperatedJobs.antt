-- Changes that make what operators do to whole jobs, and their refusals.
use Rattle.std.proofs.Common.{◌≡◌, ◌∙◌, ℕ, ◌≤◌, Bool, true, false, ◌&&◌, eqb, List, [], ◌∷◌, length, map, Option, Some, None, option_map, refl, sym, ap, subst}
use Rattle.std.specs.Prelude.{Err, is_some}
use Rattle.std.specs.List.{filter, find}
use Rattle.std.proofs.lemmas.Bool.{eq-eqb}
use Rattle.std.proofs.lemmas.Option.{none-some, same_Some}
use Rattle.farm_types.specs.declared.answer.Answer.TheVariants as answer
use Rattle.farm_types.specs.declared.entry.Act.{Act}
use Rattle.farm_types.specs.declared.entry.Act.TheVariants as act
use Rattle.farm_types.specs.declared.rows.JobRow.{JobRow}
use Rattle.farm_types.specs.declared.slot_row.SlotRow.{SlotRow}
use Rattle.farm_types.specs.declared.states.FrameState.TheVariants as frame_state
use Rattle.farm_types.specs.DependActs.{missing_among, pending_named}
use Rattle.farm_types.specs.Farm.{Farm}
use Rattle.farm_types.specs.Jobs.{JobLists, is_pending_named}
use Rattle.farm_types.specs.Kept.{KeepsRows}
use Rattle.farm_types.specs.Operators.{count_of, has_attempt, is_left_of, job_there_refusal, killed_row, with_killed, with_paused}
use Rattle.farm_types.specs.Step.{act_refusal, at_moment, lists_of}
use Rattle.farm_law.proofs.KeptJobsLists.{some_none}
use Rattle.job_book.specs.Book.{count_in, has_job}
use Rattle.farm_draft.specs.Rows.{AreReady, installed}
use Rattle.farm_draft.specs.declared.rows.Rows.{Rows}
use Rattle.farm_types.specs.declared.fault.FarmFault.{FarmFault}
use Rattle.farm_types.specs.declared.fault.FarmFault.TheVariants.{Refused, NoMemory}
use Rattle.farm_types.specs.Faults.{IsRefusal}
use Rattle.farm_changes.specs.Change.{Makes, Prepares, with_more}
use Rattle.farm_changes.specs.declared.act_answer.ActAnswer.TheVariants as known
use Rattle.farm_changes.specs.declared.change.Change.{Change}
use Rattle.farm_changes.specs.declared.change.More.TheVariants as more
use Rattle.farm_changes.specs.declared.change.Reserved.TheVariants as taken
use Rattle.farm_changes.proofs.KilledAttempts.{killed_count}
use Rattle.farm_changes.proofs.MadeChanges.{IsBare, bare_installed, bare_ready, makes}

-- ---- the job that is named

abbrev number_in : Option JobRow → Option ℕ
number_in o = option_map (λ (j : JobRow). j.job) o

-- the number of the pending job of that name
abbrev pub job_named : Farm → List ℕ → Option ℕ
job_named f name = option_map (λ (j : JobRow). j.job) (pending_named f name)

-- what the book of jobs finds
pub named_is : (f : Farm) (name text : List ℕ) (b : JobLists) (found : Option ℕ) → text ≡ name → b ≡ lists_of f → found ≡ option_map (λ (j : JobRow). j.job) (find (is_pending_named text) b.jobs) → found ≡ job_named f name
named_is f name text b found text_is lists is =
    is ∙ (ap (λ (t : List ℕ). number_in (find (is_pending_named t) b.jobs)) text_is ∙ ap (λ (c : JobLists). number_in (find (is_pending_named name) c.jobs)) lists)

row_of : (o : Option JobRow) (job : ℕ) → number_in o ≡ Some job → (j : JobRow) × (o ≡ Some j) × (j.job ≡ job)
row_of None job is = absurd (none-some job is)
row_of (Some j) job is = (j, refl, same_Some j.job job is)

none_of : (o : Option JobRow) → number_in o ≡ None → o ≡ None
none_of None is = refl
none_of (Some j) is = absurd (some_none j.job is)

-- ---- it is there

there_first : (n : ℕ) (i : JobRow) (js : List JobRow) → i.job ≡ n → is_some (find (λ (k : JobRow). eqb k.job n) (i ∷ js)) ≡ true
there_first n i js is = let same = eq-eqb i.job n is in rw same refl

there_later : (b : Bool) (n : ℕ) (i : JobRow) (js : List JobRow) → eqb i.job n ≡ b → is_some (find (λ (k : JobRow). eqb k.job n) js) ≡ true → is_some (find (λ (k : JobRow). eqb k.job n) (i ∷ js)) ≡ true
there_later true n i js is there = rw is refl
there_later false n i js is there = rw is there

there_step : (test : JobRow → Bool) (b : Bool) (i j : JobRow) (js : List JobRow) → test i ≡ b → (find test js ≡ Some j → is_some (find (λ (k : JobRow). eqb k.job j.job) js) ≡ true)
    → find test (i ∷ js) ≡ Some j → is_some (find (λ (k : JobRow). eqb k.job j.job) (i ∷ js)) ≡ true
there_step test true i j js is later at = there_first j.job i js (ap (λ (k : JobRow). k.job) (same_Some i j (rw is at at)))
there_step test false i j js is later at = there_later (eqb i.job j.job) j.job i js refl (later (rw is at at))

-- what is found is there by its number
there : (test : JobRow → Bool) (js : List JobRow) (j : JobRow) → find test js ≡ Some j → is_some (find (λ (k : JobRow). eqb k.job j.job) js) ≡ true
there test [] j at = absurd (none-some j at)
there test (i ∷ js) j at = there_step test (test i) i j js refl (there test js j) at

pub named_there : (f : Farm) (name : List ℕ) (b : JobLists) (job : ℕ) → b ≡ lists_of f → job_named f name ≡ Some job → has_job b job ≡ true
named_there f name b job lists is =
    let row = row_of (pending_named f name) job is in
    subst (λ (c : JobLists). has_job c job ≡ true) (sym lists) (subst (λ (n : ℕ). has_job (lists_of f) n ≡ true) row.2 (there (is_pending_named name) f.jobs row.0 row.1))

-- ---- refusals

pub job_refuses : (f : Farm) (moment : ℕ) (a : Act) (name : List ℕ) (b : JobLists) (fault : FarmFault) → b ≡ lists_of f → act_refusal f a ≡ job_there_refusal f name (pending_named f name) → job_named f name ≡ None
    → IsRefusal (missing_among b.jobs name) fault → Prepares f (record { moment = moment; act = a }) (Err fault)
job_refuses f moment a name b (Refused why) lists refusal none is =
    refusal ∙ (ap (job_there_refusal f name) (none_of (pending_named f name) none) ∙ ap Some (sym (is ∙ ap (λ (x : JobLists). missing_among x.jobs name) lists)))
job_refuses f moment a name b NoMemory lists refusal none is = tt

-- ---- a job that is paused

pub pause_makes : (f : Farm) (name : List ℕ) (paused : Bool) (moment job : ℕ) (rows : Rows) (change : Change) → f.moment ≤ moment → job_named f name ≡ Some job → IsBare rows
    → change ≡ record { moment = moment; answer = known.Whole answer.Paused; heard = None; rows = rows; more = more.Paused job paused; reserved = false; memory = taken.None }
    → Makes f (record { moment = moment; act = act.Pause name paused }) change
pause_makes f name paused moment job rows change ahead named bare is =
    let g = at_moment f moment in
    let row = row_of (pending_named f name) job named in
    let farm : with_more (installed g rows) moment (more.Paused job paused) ≡ with_paused g paused (pending_named f name) =
    ap (λ (h : Farm). with_more h moment (more.Paused job paused)) (bare_installed g rows bare)
    ∙ (ap (λ (n : ℕ). with_more g moment (more.Paused n paused)) (sym row.2) ∙ sym (ap (with_paused g paused) row.1)) in
    subst (Makes f (record { moment = moment; act = act.Pause name paused })) (sym is)
    (makes f moment (act.Pause name paused) (record { moment = moment; answer = known.Whole answer.Paused; heard = None; rows = rows; more = more.Paused job paused; reserved = false; memory = taken.None })
    ahead (ap (job_there_refusal f name) row.1) tt (bare_ready f rows bare) tt refl farm refl)

-- ---- a job that is killed

abbrev kill_change : ℕ → ℕ → Rows → Change
kill_change moment ended rows = record { moment = moment; answer = known.Whole (answer.Ended ended); heard = None; rows = rows; more = more.Nothing; reserved = false; memory = taken.None }

pub kill_makes : (f : Farm) (name : List ℕ) (moment job ended : ℕ) (rows : Rows) (change : Change) → KeepsRows f → f.moment ≤ moment → job_named f name ≡ Some job → ended ≡ count_in job frame_state.Running f.slots
    → installed (at_moment f moment) rows ≡ record (at_moment f moment) { slots = map (killed_row job) f.slots } → AreReady f rows
    → change ≡ record { moment = moment; answer = known.Whole (answer.Ended ended); heard = None; rows = rows; more = more.Nothing; reserved = false; memory = taken.None }
    → Makes f (record { moment = moment; act = act.KillJob name }) change
kill_makes f name moment job ended rows change kept ahead named count installs ready is =
    let g = at_moment f moment in
    let row = row_of (pending_named f name) job named in
    let farm : installed g rows ≡ with_killed g (pending_named f name) =
    installs ∙ (ap (λ (n : ℕ). record g { slots = map (killed_row n) f.slots }) (sym row.2) ∙ sym (ap (with_killed g) row.1)) in
    let counted : ended ≡ count_of f (pending_named f name) =
    count ∙ (killed_count f job kept.sound
    ∙ (ap (λ (n : ℕ). length (filter (λ (s : SlotRow). is_left_of n s && has_attempt s) f.slots)) (sym row.2) ∙ sym (ap (count_of f) row.1))) in
    subst (Makes f (record { moment = moment; act = act.KillJob name })) (sym is)
    (makes f moment (act.KillJob name) (kill_change moment ended rows) ahead (ap (job_there_refusal f name) row.1) tt ready tt refl farm (ap (λ (n : ℕ). answer.Ended n) counted))
