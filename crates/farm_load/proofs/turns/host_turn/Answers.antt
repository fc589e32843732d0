use Rattle.std.proofs.Common.{ℕ, refl, sym, subst}
use Rattle.farm_types.specs.Formed.{IsFormed}
use Rattle.farm_lines.specs.Asked.{heard_entry}
use Rattle.farm_lines.specs.declared.report.Report.{Report}
use Rattle.farm_load.specs.Turns.{Recorded}
use Rattle.line_answers.specs.booking_recorder.proofs.Journaled.{journals_none}
use Rattle.farm_load.specs.Loads.{load_report, round_after}
use Rattle.farm_load.proofs.LegalLemmas.{report_formed}
use Rattle.farm_load.proofs.TurnLemmas.{not_reported}
use Rattle.farm_load.proofs.turns.host_turn.Goals as goal

-- src/turns.rt:69:18
pub returns-in_err-report : goal.returns-in_err-report
returns-in_err-report g c =
    not_reported _ c.args.n c.args.recorder.now.farm (load_report c.args.n (round_after c.args.reports) c.args.host.now) (round_after c.args.reports) c.args.counts.now c.from_residual.result
    (Recorded g.K.Keeper.tells g.K.Keeper.faults c.args.recorder.now c.args.recorder.now) c.from_residual.ensures.1
    (record { keeper = record { told = λ tells. tells; counted = refl }; journals = journals_none c.args.recorder.now.view })

-- src/turns.rt:70:5
pub take_counted-requires-clause-formed : goal.take_counted-requires-clause-formed
take_counted-requires-clause-formed g c =
    subst (λ (moment : ℕ). IsFormed (heard_entry c.in_ok-report.report moment)) (sym c.from.ensures)
    (subst (λ (r : Report). IsFormed (heard_entry r (round_after c.args.reports))) (sym c.in_ok-report.ensures)
    (report_formed c.args.n c.args.reports c.args.host.now c.requires.left c.requires.formed))
