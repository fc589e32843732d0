-- A job that is submitted: what the farm says of it, and the change that it comes to.
use Rattle.std.proofs.Common.{◌≡◌, ◌≤◌, ◌∙◌, ℕ, Bool, true, false, cond, List, Option, None, Some, option_map, refl, sym, ap, subst}
use Rattle.farm_types.specs.declared.answer.Answer.TheVariants as answer
use Rattle.farm_types.specs.declared.entry.Act.TheVariants as act
use Rattle.farm_types.specs.declared.job.JobSpec.{JobSpec}
use Rattle.farm_types.specs.declared.refusal.Refusal.TheVariants.{Unknown}
use Rattle.farm_types.specs.Farm.{Farm, has_facility, show_named}
use Rattle.farm_types.specs.Jobs.{job_refusal}
use Rattle.farm_types.specs.SpecLimits.{JobKeepsLimits}
use Rattle.farm_types.specs.Step.{act_refusal, after_submit, at_moment, limits_of, limits_refusal, lists_of, submit_refusal, unknown_limit}
use Rattle.job_book.specs.Book.{placing_of}
use Rattle.job_book.specs.declared.placement.placing.Placing.{Placing}
use Rattle.farm_books.specs.Install.{IsPlacement}
use Rattle.farm_draft.specs.declared.rows.Rows.{Rows}
use Rattle.farm_changes.specs.Change.{Makes, with_more}
use Rattle.farm_changes.specs.declared.act_answer.ActAnswer.TheVariants as known
use Rattle.farm_changes.specs.declared.change.Change.{Change}
use Rattle.farm_changes.specs.declared.change.More.TheVariants as more
use Rattle.farm_changes.specs.declared.change.Reserved.TheVariants as taken
use Rattle.farm_changes.proofs.MadeChanges.{IsBare, bare_installed, bare_ready, makes}

none_unknown : (o : Option (List ℕ)) → option_map Unknown o ≡ None → o ≡ None
none_unknown None h = refl
none_unknown (Some name) h = absurd (cc)

-- its show, its facility and its layers' limits are there, and the book of jobs takes it
taken_by : (f : Farm) (spec : JobSpec) (show : ℕ) → show_named f spec.show ≡ Some show → has_facility f spec.facility ≡ true → unknown_limit f.limits spec.layers ≡ None
    → job_refusal (lists_of f) spec ≡ None → act_refusal f (act.Submit spec) ≡ None
taken_by f spec show show_is facility known_all accepted =
    ap (submit_refusal f spec) show_is
    ∙ (ap (λ (b : Bool). cond b (limits_refusal f spec (unknown_limit f.limits spec.layers)) (Some (Unknown spec.facility))) facility
    ∙ (ap (limits_refusal f spec) known_all ∙ accepted))

abbrev submit_change : ℕ → Placing → JobSpec → Rows → Change
submit_change moment placing spec rows =
    record {
      moment = moment;
      answer = known.Whole (answer.Submitted placing.frames);
      heard = None;
      rows = rows;
      more = more.Job placing spec;
      reserved = false;
      memory = taken.None;
    }

pub submit_makes : (f : Farm) (spec copy : JobSpec) (moment show : ℕ) (limits : List (Option ℕ)) (placing : Placing) (rows : Rows) (change : Change) → f.moment ≤ moment
    → show_named f spec.show ≡ Some show → has_facility f spec.facility ≡ true → option_map Unknown (unknown_limit f.limits spec.layers) ≡ None
    → limits ≡ limits_of f.limits spec.layers → JobKeepsLimits spec → job_refusal (lists_of f) spec ≡ None → placing ≡ placing_of (lists_of f) show limits spec → copy ≡ spec
    → IsBare rows → change ≡ submit_change moment placing copy rows → Makes f (record { moment = moment; act = act.Submit spec }) change
submit_makes f spec copy moment show limits placing rows change ahead show_is facility known_all limits_are keeps accepted placing_is same bare is =
    let placed : Placing = placing_of (lists_of f) show (limits_of f.limits spec.layers) spec in
    let whole : change ≡ submit_change moment placed spec rows =
    is ∙ (ap (λ (s : JobSpec). submit_change moment placing s rows) same
    ∙ ap (λ (p : Placing). submit_change moment p spec rows) (placing_is ∙ ap (λ (ls : List (Option ℕ)). placing_of (lists_of f) show ls spec) limits_are)) in
    let fits : IsPlacement (at_moment f moment) placed spec = record { limits = keeps; accepted = accepted; placed = refl } in
    subst (Makes f (record { moment = moment; act = act.Submit spec })) (sym whole)
    (makes f moment (act.Submit spec) (submit_change moment placed spec rows) ahead
    (taken_by f spec show show_is facility (none_unknown (unknown_limit f.limits spec.layers) known_all) accepted) tt (bare_ready f rows bare)
    (subst (λ (g : Farm). IsPlacement g placed spec) (sym (bare_installed (at_moment f moment) rows bare)) fits) refl
    (ap (λ (g : Farm). with_more g moment (more.Job placed spec)) (bare_installed (at_moment f moment) rows bare) ∙ sym (ap (after_submit (at_moment f moment) spec) show_is))
    refl)
