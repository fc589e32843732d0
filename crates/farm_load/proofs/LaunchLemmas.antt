-- What a reply launches: attempts that may be told of, since the farm that replies keeps its rows.
use Rattle.std.proofs.Common.{◌≡◌, ℕ, suc, ◌≤◌, Bool, true, false, cond, List, [], ◌∷◌, take, length, Option, None, Some, refl, ap, subst, arith}
use Rattle.std.specs.Prelude.{nat_le, filter_map, option_and_then, option_map, slice_get}
use Rattle.std.specs.List.{All, cons_option}
use Rattle.std.proofs.lemmas.Bool.{leb-true}
use Rattle.std.proofs.lemmas.List.{length-map, length-take}
use Rattle.std.proofs.lemmas.List.Elements.{All-cons, All-map, All-nil, All-take}
use Rattle.std.proofs.lemmas.Option.{none-some, slice_get_within}
use Rattle.farm_types.specs.declared.attempt.Attempt.{Attempt}
use Rattle.farm_types.specs.declared.attempt.ProcRow.{ProcRow}
use Rattle.farm_types.specs.declared.dispatch.Cut.{Cut}
use Rattle.farm_types.specs.declared.dispatch.Cut.TheVariants as cut
use Rattle.farm_types.specs.declared.entry.Entry.{Entry}
use Rattle.farm_types.specs.declared.refusal.Refusal.{Refusal}
use Rattle.farm_types.specs.declared.rows.JobRow.{JobRow}
use Rattle.farm_types.specs.declared.rows.LayerRow.{LayerRow}
use Rattle.farm_types.specs.declared.slot_row.Frame.{Frame}
use Rattle.farm_types.specs.declared.slot_row.SlotRow.{SlotRow}
use Rattle.farm_types.specs.declared.limits.TheConstants.{LAST_VERSION}
use Rattle.farm_types.specs.Dispatch.{round_for}
use Rattle.farm_types.specs.Farm.{Farm, job_at, layer_at, host_named, for_any}
use Rattle.farm_types.specs.Kept.{KeepsRows, is_kept_frame, is_kept_slot}
use Rattle.farm_types.specs.Run.{HasItsAttempt, run_of}
use Rattle.farm_types.specs.Step.{after, refusal_of}
use Rattle.farm_types.proofs.Lists.{and_both, list_all-at}
use Rattle.farm_types.proofs.Passes.{option_map-from}
use Rattle.farm_lines.specs.Asked.{heard_entry}
use Rattle.farm_lines.specs.Reply.{due_in, is_due, launch_for, launch_of, launches_of, report_reply}
use Rattle.farm_lines.specs.Transcript.{Answered, Mark, Plain, Memory, Store, CutAfter, StoreAfter, LatePlain, LateCut, LateStore, accepted_answer, marked_answer, report_answer, unless_memory}
use Rattle.farm_law.proofs.RunningFrames.{frame_runs}
use Rattle.farm_lines.specs.declared.launch.Launch.{Launch}
use Rattle.farm_lines.specs.declared.limits.TheConstants.{LAUNCHES_EACH}
use Rattle.farm_lines.specs.declared.report.Report.{Report}
use Rattle.line_answers.specs.LineAnswers.{reported}
use Rattle.farm_load.specs.Loads.{launched_by}
use Rattle.farm_load.specs.Turns.{IsFormedAttempt}

-- ---- one launch

-- a live attempt is of its slot, and of the slot's version
pub record IsOfSlot (place version : ℕ) (p : ProcRow) : Type 0 where
  pub slot_is : p.slot ≡ place
  pub version_is : p.version ≡ version

attempt_of : (place version : ℕ) (frame : Option Frame) (p : ProcRow) → HasItsAttempt place version frame (Some p) → IsOfSlot place version p
attempt_of place version frame p h = let runs = frame_runs place version frame p h in record { slot_is = runs.3; version_is = runs.4 }

then_from : {X Y : Type 0} (next : X → Option Y) (o : Option X) (y : Y) → option_and_then next o ≡ Some y → (x : X) × (o ≡ Some x) × (next x ≡ Some y)
then_from next None y is = absurd (none-some y is)
then_from next (Some x) y is = (x, refl, is)

passed_test : {X : Type 0} (test : Bool) (o : Option X) (x : X) → cond test o None ≡ Some x → o ≡ Some x
passed_test true o x is = is
passed_test false o x is = absurd (none-some x is)

-- a launch tells of the live attempt
launch_tells : (f : Farm) (s : SlotRow) (p : ProcRow) (l : Launch) → launch_of f s p ≡ Some l → record { slot = p.slot; version = p.version } ≡ l.attempt
launch_tells f s p l is =
    let x = then_from (λ (frame : Frame). option_and_then (λ job. option_map (λ layer. launch_for p frame job layer) (layer_at f frame.job frame.layer)) (job_at f frame.job)) s.frame l is in
    let j = then_from (λ (job : JobRow). option_map (λ layer. launch_for p x.0 job layer) (layer_at f x.0.job x.0.layer)) (job_at f x.0.job) l x.2 in
    let told = option_map-from (λ (layer : LayerRow). launch_for p x.0 j.0 layer) (layer_at f x.0.job x.0.layer) l j.2 in
    ap (λ (k : Launch). k.attempt) told.2

launch_formed : (f : Farm) (host : ℕ) (report : Report) → KeepsRows f → (place : ℕ) (s : SlotRow) (l : Launch) → slice_get f.slots place ≡ Some s
    → due_in f host report s ≡ Some l → IsFormedAttempt l.attempt
launch_formed f host report keeps place s l at due =
    let p = then_from (λ (p : ProcRow). cond (is_due host report p) (launch_of f s p) None) s.proc l due in
    let told = launch_tells f s p.0 l (passed_test (is_due host report p.0) (launch_of f s p.0) l p.2) in
    let own = attempt_of place s.version s.frame p.0 (subst (λ (o : Option ProcRow). HasItsAttempt place s.version s.frame o) p.1 (keeps.sound.attempts place s at)) in
    let kept = and_both (nat_le s.version LAST_VERSION) (for_any s.frame (is_kept_frame f.layers)) (list_all-at (is_kept_slot f.layers) f.slots place s keeps.jobs.slots_kept at) in
    subst IsFormedAttempt told
    (record {
      slot_within = omega (arith, own.slot_is, slice_get_within f.slots place s at, keeps.jobs.slot_count);
      version_within = omega (arith, own.version_is, leb-true s.version LAST_VERSION kept.0);
    })

-- ---- all launches

picked_step : {Y : Type 0} (P : Y → Type 0) (o : Option Y) (ys : List Y) → ((y : Y) → o ≡ Some y → P y) → All P ys → All P (cons_option o ys)
picked_step P None ys own rest = rest
picked_step P (Some y) ys own rest = All-cons P y ys (own y refl) rest

-- what is picked of a list, where each of its items gives so
all_picked : {X Y : Type 0} (P : Y → Type 0) (pick : X → Option Y) (xs : List X) → ((place : ℕ) (x : X) (y : Y) → slice_get xs place ≡ Some x → pick x ≡ Some y → P y)
    → All P (filter_map pick xs)
all_picked P pick [] each = All-nil P
all_picked P pick (x ∷ xs) each =
    picked_step P (pick x) (filter_map pick xs) (λ y is. each 0 x y refl is) (all_picked P pick xs (λ place z y at is. each (suc place) z y at is))

-- attempts that a reply may launch: so many, each of its form
pub record AreLaunched (attempts : List Attempt) : Type 0 where
  pub few : length attempts ≤ LAUNCHES_EACH
  pub each : All IsFormedAttempt attempts

none_launched : AreLaunched []
none_launched = record { few = omega arith; each = All-nil IsFormedAttempt }

report_launches : (f : Farm) (host : ℕ) (report : Report) (ended : Cut) → KeepsRows f → AreLaunched (launched_by (report_reply f host report ended))
report_launches f host report ended keeps =
    record {
      few = omega (arith, length-map (launches_of f host report) (λ (l : Launch). l.attempt), length-take LAUNCHES_EACH (filter_map (due_in f host report) f.slots));
      each =
          All-map IsFormedAttempt (λ (l : Launch). l.attempt) (launches_of f host report)
          (All-take (λ (l : Launch). IsFormedAttempt l.attempt) LAUNCHES_EACH (filter_map (due_in f host report) f.slots)
          (all_picked (λ (l : Launch). IsFormedAttempt l.attempt) (due_in f host report) f.slots (launch_formed f host report keeps)));
    }

-- ---- by each mark

-- what is launched may be, where the entries lead to a farm that keeps its rows
abbrev LaunchesFormed : Farm → Answered → Type 0
LaunchesFormed f answered = KeepsRows (run_of f answered.entries) → AreLaunched (launched_by answered.reply)

marked_launches : (f : Farm) (host : ℕ) (report : Report) (heard : Entry) (round : List Entry) (mark : Mark) → LaunchesFormed f (marked_answer f host report heard round mark)
marked_launches f host report heard round Plain keeps = report_launches (run_of (after f heard) round) host report cut.Whole keeps
marked_launches f host report heard round Memory keeps = none_launched
marked_launches f host report heard round Store keeps = none_launched
marked_launches f host report heard round (CutAfter k) keeps = report_launches (run_of (after f heard) (take k round)) host report cut.Memory keeps
marked_launches f host report heard round (StoreAfter k) keeps = report_launches (run_of (after f heard) (take k round)) host report cut.Store keeps
marked_launches f host report heard round LatePlain keeps = none_launched
marked_launches f host report heard round (LateCut k) keeps = none_launched
marked_launches f host report heard round (LateStore k) keeps = none_launched

accepted_launches : (f : Farm) (report : Report) (moment : ℕ) (mark : Mark) (host : Option ℕ) → LaunchesFormed f (accepted_answer f report moment mark host)
accepted_launches f report moment mark None keeps = none_launched
accepted_launches f report moment mark (Some host) keeps =
    marked_launches f host report (heard_entry report moment) (round_for (after f (heard_entry report moment)) host moment) mark keeps

answer_launches : (f : Farm) (report : Report) (moment : ℕ) (mark : Mark) (why : Option Refusal) → LaunchesFormed f (report_answer f report moment mark why)
answer_launches f report moment mark (Some why) keeps = none_launched
answer_launches f report moment mark None keeps = accepted_launches f report moment mark (host_named f report.heard.host) keeps

unless_launches : (f : Farm) (mark : Mark) (answered : Answered) → LaunchesFormed f answered → LaunchesFormed f (unless_memory mark answered)
unless_launches f Memory answered launches = λ keeps. none_launched
unless_launches f mark answered launches = launches

-- what the reply to a report launches may be, by any mark
pub reported_launches : (f : Farm) (report : Report) (moment : ℕ) (mark : Mark) → LaunchesFormed f (reported f report moment mark)
reported_launches f report moment mark =
    unless_launches f mark (report_answer f report moment mark (refusal_of f (heard_entry report moment)))
    (answer_launches f report moment mark (refusal_of f (heard_entry report moment)))
