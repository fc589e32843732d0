use Rattle.std.proofs.Common.{◌≡◌, subst}
use Rattle.std.specs.Prelude.{IfOk}
use Rattle.farm_types.specs.Farm.{Farm}
use Rattle.farm_types.specs.Step.{at_moment}
use Rattle.farm_draft.specs.Rows.{installed}
use Rattle.farm_changes.proofs.HeardAlone.{heard_alone}
use Rattle.farm_changes.proofs.reports.heard_rows.Goals as goal

pub returns-then-is_word_alone-clause-farm : goal.returns-then-is_word_alone-clause-farm
returns-then-is_word_alone-clause-farm c =
    let f = c.args.books.now.farm in
    let alone = c.if-is_word_alone.true in
    subst (λ (g : Farm). IfOk c.life_rows.result (λ rows. installed (at_moment f c.args.moment) rows ≡ g))
    (heard_alone f c.args.moment c.args.host c.args.heard.now (c.is_word_alone.ensures.done alone) (c.is_word_alone.ensures.quiet alone)) c.life_rows.ensures.farm
