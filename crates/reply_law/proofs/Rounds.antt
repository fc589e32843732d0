-- The farm that a report and the bookings after it leave is one that the program keeps.
use Rattle.std.proofs.Common.{◌≡◌, ℕ, List, ◌∷◌, take, None}
use Rattle.farm_types.specs.declared.entry.Entry.{Entry}
use Rattle.farm_types.specs.declared.limits.TheConstants.{BOOKINGS_EACH}
use Rattle.farm_types.specs.Dispatch.{plan_for, round_for}
use Rattle.farm_types.specs.Farm.{Farm}
use Rattle.farm_types.specs.Formed.{IsFormed}
use Rattle.farm_types.specs.Kept.{IsKeptFarm}
use Rattle.farm_types.specs.Run.{IsLegal, run_of}
use Rattle.farm_types.specs.Step.{after, refusal_of}
use Rattle.farm_law.proofs.LegalRuns.{legal_round, legal_take}
use Rattle.depend_law.proofs.KeptRuns.{kept_run}
use Rattle.farm_lines.specs.declared.report.Report.{Report}
use Rattle.farm_lines.specs.Asked.{heard_entry}

module _ (f : Farm) (kept : IsKeptFarm f) (report : Report) (moment : ℕ) (formed : IsFormed (heard_entry report moment)) (accepted : refusal_of f (heard_entry report moment) ≡ None) where
  abbrev heard : Farm
  heard = after f (heard_entry report moment)

  kept_after : (es : List Entry) → IsLegal heard es → IsKeptFarm (run_of heard es)
  kept_after es legal = kept_run f (heard_entry report moment ∷ es) kept (record { formed = formed; accepted = accepted; condition = tt }, legal)

  round_is_legal : (host : ℕ) → IsLegal heard (round_for heard host moment)
  round_is_legal host = legal_round BOOKINGS_EACH heard moment (plan_for heard host) formed.moment_within

  pub kept_whole : (host : ℕ) → IsKeptFarm (run_of (after f (heard_entry report moment)) (round_for (after f (heard_entry report moment)) host moment))
  kept_whole host = kept_after (round_for heard host moment) (round_is_legal host)

  pub kept_cut : (host k : ℕ) → IsKeptFarm (run_of (after f (heard_entry report moment)) (take k (round_for (after f (heard_entry report moment)) host moment)))
  kept_cut host k = kept_after (take k (round_for heard host moment)) (legal_take heard k (round_for heard host moment) (round_is_legal host))
