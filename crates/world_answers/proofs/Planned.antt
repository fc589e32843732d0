-- All entries of a report: its own, and then the round of bookings.
use Rattle.std.proofs.Common.{◌≡◌, ◌∙◌, ℕ, Bool, List, ◌∷◌, Option, None, Some, Result, Ok, Err, IfOk, sym, ap, subst}
use Rattle.std.proofs.lemmas.Result.{IfOk-weaker}
use Rattle.std.specs.declared.alloc.AllocError.{AllocError}
use Rattle.farm_types.specs.declared.entry.Entry.{Entry}
use Rattle.farm_types.specs.Dispatch.{round_for}
use Rattle.farm_types.specs.Farm.{Farm}
use Rattle.farm_types.specs.Run.{IsLegal}
use Rattle.farm_types.specs.Step.{after}
use Rattle.farm_lines.specs.declared.report.Report.{Report}
use Rattle.farm_lines.specs.Asked.{heard_entry}
use Rattle.world_answers.specs.declared.reporting.HeardFirst.{HeardFirst}
use Rattle.world_answers.specs.declared.reporting.Plan.{Plan}
use Rattle.world_answers.specs.Reporting.{HearsFirst, IsHeardFirst, IsPlan, IsPlanIf, Plans, PlansFrom}
use Rattle.world_answers.specs.Walking.{AreSaid}

planned : (f : Farm) (report : Report) (moment : ℕ) (h : HeardFirst) (p : Plan) → IsHeardFirst f (heard_entry report moment) h
    → PlansFrom h (heard_entry report moment) moment p
    → IsPlan f report moment p
planned f report moment h p heard from =
    record {
      accepted = heard.first.legal.accepted;
      host = h.host;
      named = heard.host;
      entries = entries;
      legal = subst (IsLegal f) (sym entries) (
        heard.first.legal,
        subst (λ (g : Farm). IsLegal g (round_for g h.host moment)) heard.first.farm
            from.walked.legal,
      );
      said =
          subst (λ (bs : List Bool). AreSaid f p.entries bs) (sym (from.stored ∙ from.walked.stored))
          (subst (λ (es : List Entry). AreSaid f es (h.first.stored ∷ from.walked.flags)) (sym entries)
          (heard.first.said, subst (λ (g : Farm). AreSaid g (round_for g h.host moment) from.walked.flags) heard.first.farm from.walked.said));
      ends = from.ends ∙ heard.ends;
    }
  where
    entries : p.entries ≡ heard_entry report moment ∷ round_for (after f (heard_entry report moment)) h.host moment
    entries = from.entries ∙ (from.walked.entries ∙ ap (λ (g : Farm). heard_entry report moment ∷ round_for g h.host moment) heard.first.farm)

module _ (f : Farm) (moment : ℕ) where
  plans_as : (heard : Result (Option HeardFirst) AllocError) (plan : Option Plan) (report : Report) → IfOk heard (HearsFirst f (heard_entry report moment))
      → IsPlanIf heard (heard_entry report moment) moment plan → Plans f report moment plan
  plans_as (Ok (Some h)) (Some p) report hears is = planned f report moment h p hears is
  plans_as (Ok (Some h)) None report hears is = absurd is
  plans_as (Ok None) (Some p) report hears is = absurd is
  plans_as (Ok None) None report hears is = hears
  plans_as (Err why) plan report hears is = absurd is

  pub plans : (entry : Entry) (heard : Result (Option HeardFirst) AllocError) → IfOk heard (HearsFirst f entry) → (result : Result (Option Plan) AllocError)
      → IfOk result (IsPlanIf heard entry moment) → IfOk result (λ plan. (report : Report) → entry ≡ heard_entry report moment → Plans f report moment plan)
  plans entry heard hears result =
      IfOk-weaker result (IsPlanIf heard entry moment) (λ plan. (report : Report) → entry ≡ heard_entry report moment → Plans f report moment plan)
      (λ plan is report same. plans_as heard plan report (subst (λ (e : Entry). IfOk heard (HearsFirst f e)) same hears)
      (subst (λ (e : Entry). IsPlanIf heard e moment plan) same is))
