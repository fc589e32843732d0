use Rattle.std.proofs.Common.{◌≡◌, ◌≤◌, ◌+◌, [], ◌∷◌, ℕ, ap, ◌∙◌, arith, refl, subst}
use Rattle.farm_types.specs.Farm.{Farm}
use Rattle.farm_types.specs.Kept.{KeepsRows}
use Rattle.farm_lines.specs.Asked.{heard_entry}
use Rattle.farm_lines.specs.declared.limits.TheConstants.{LAUNCHES_EACH}
use Rattle.farm_load.specs.Loads.{failed_in}
use Rattle.farm_load.proofs.TurnLemmas.{has_reported}
use Rattle.line_answers.specs.booking_recorder.specs.Going.{GoesOn}
use Rattle.farm_load.specs.Turns.{Recorded}
use Rattle.farm_load.proofs.turns.take_counted.Goals as goal

-- src/turns.rt:74:1
pub returns : goal.returns
returns g c =
    let f = c.args.recorder.now.farm in
    let new = c.take_report-taken.new.recorder.farm in
    let taken = c.take_report-taken.result in
    let old = c.args.counts.now in
    let failing = c.failures-failing.result in
    let failing_is : failing ≡ failed_in c.args.n f (heard_entry c.args.report c.args.moment ∷ []) =
    c.failures-failing.ensures.value ∙ ap (λ (g : Farm). failed_in c.args.n g (heard_entry c.args.report c.args.moment ∷ [])) c.read.ensures in
    let failing_few : failing ≤ LAUNCHES_EACH = omega (arith, c.failures-failing.ensures.few, c.requires.few) in
    let keeps : KeepsRows new = subst KeepsRows c.read-2.ensures c.kept.ensures.rows in
    has_reported c.args.n f c.args.report c.args.moment new taken
    (GoesOn g.K.Keeper.commits g.K.Keeper.tells g.K.Keeper.faults c.args.recorder.now c.take_report-taken.new.recorder) failing c.failures_told.result old
    (record { attempts = old.attempts + c.from.result; failed = old.failed + c.failures_told.result }) c.take_report-taken.ensures.taken c.failures_told.ensures
    (Recorded g.K.Keeper.tells g.K.Keeper.faults c.args.recorder.now c.take_report-taken.new.recorder)
    (λ all done failed goes. record { keeper = goes.keeper; journals = goes.journals })
    c.launched_by.result failing_is
    failing_few c.take_report-taken.ensures.few keeps (ap (λ (k : ℕ). old.attempts + k) c.from.ensures)
    refl c.launched_by.ensures.launched c.launched_by.ensures.calm
